-- Who of those that wait goes on.
use Rattle.std.specs.Prelude.{slice_get, MatchOption, nat_le, if◌then◌else◌, not, ◌&&◌}
use Rattle.std.proofs.Common.{◌≡◌, ℕ, suc, ◌+◌, ◌-◌, ◌<◌, ◌≤◌, Bool, true, false, length, Option, Some, None, refl, sym, ap, ◌∙◌, subst, arith, leb-true, leb-false}
use Rattle.std.proofs.lemmas.List.Edits.{length-swap}
use Rattle.std.proofs.lemmas.Option.{same_Some, slice_get_within}
use Rattle.mc_guests.specs.Budgets.{has_left, promised_more}
use Rattle.mc_guests.specs.Guests.{RowGuest, in_line, missing}
use Rattle.mc_guests.specs.Books.{RowState, BooksState, SleepsAt, StandsAt, woken}
use Rattle.mc_guests.specs.Retries.{IsQueuedAt, NoneWaits, PromisesRoom, KeepsRoom, TakesTurn, goes_on as turn_goes, is_gone as turn_gone, EndsTurns, finds_none as turn_lacks}
use Rattle.mc_guests.specs.Retries.{LooksAtFirst, goes_on, is_gone, nobody_waits, finds_none, finds_room, promised_to, room_kept, in_turn, struck_out, turn_passed, lined, woken_if, tried_again}
use Rattle.mc_guests.specs.Retries.{first_dropped, first_behind, stray_tried, strays, strays_tried, waits_long}
use Rattle.mc_guests.specs.declared.budget.Budget.{Budget}
use Rattle.mc_guests.specs.declared.metered.WaitState.{WaitState}
use Rattle.mc_guests.specs.declared.metered.WaitState.TheVariants.{Next}
use Rattle.mc_guests.proofs.JudgeLemmas.{length_changed}

-- one that sleeps wakes, and one that is awake stays so
pub wakes_if : (at : ℕ) (old new : BooksState) → at < length old.row.guests → (SleepsAt at old → new ≡ woken at old) → (at < old.awake → new ≡ old)
    → new ≡ woken_if at old
wakes_if at old new within asleep awake = by_test (nat_le old.awake at) refl
  where
    by_test : (b : Bool) → nat_le old.awake at ≡ b → new ≡ (if b then woken at old else old)
    by_test true is = asleep (record { stands = within; behind = leb-true old.awake at is })
    by_test false is = awake (leb-false old.awake at is)

-- one that waits in the queue stands in the row
pub queued_within : (number at : ℕ) (row : RowState) → IsQueuedAt number at row → at < length row.guests
queued_within number at row waits = slice_get_within row.guests at waits.guest waits.stands

-- all that stand in a row stay where one is tried again
pub long_lined : (at : ℕ) (line : WaitState) (books : BooksState) → length (lined at line books).row.guests ≡ length books.row.guests
long_lined at line books = length_changed (in_line line) at books.row.guests

pub long_woken : (at : ℕ) (books : BooksState) → length (woken_if at books).row.guests ≡ length books.row.guests
long_woken at books = by_test (nat_le books.awake at)
  where
    by_test : (b : Bool) → length (if b then woken at books else books).row.guests ≡ length books.row.guests
    by_test true = length-swap books.row.guests at books.awake
    by_test false = refl

pub long_tried : (at : ℕ) (books : BooksState) → length (tried_again at books).row.guests ≡ length books.row.guests
long_tried at books = long_woken at (lined at Next books) ∙ long_lined at Next books

pub long_stray : (at : ℕ) (books : BooksState) → length (stray_tried at books).row.guests ≡ length books.row.guests
long_stray at books = by_test (strays (slice_get books.row.guests at))
  where
    by_test : (b : Bool) → length (if b then tried_again at books else books).row.guests ≡ length books.row.guests
    by_test true = long_tried at books
    by_test false = refl

-- a guest is tried again
pub tries : (at : ℕ) (old mid new : BooksState) → at < length old.row.guests → mid ≡ lined at Next old → (SleepsAt at mid → new ≡ woken at mid)
    → (at < mid.awake → new ≡ mid) → new ≡ tried_again at old
tries at old mid new within is asleep awake =
    let long : length mid.row.guests ≡ length old.row.guests = ap (λ (b : BooksState). length b.row.guests) is ∙ long_lined at Next old in
    wakes_if at mid new (omega (arith, within, long)) asleep awake ∙ ap (woken_if at) is

-- there is room behind one that was taken
pub room_behind : (result : Option ℕ) (before after all : ℕ) → MatchOption result ((before ≡ 0) × (after ≡ 0)) (λ _. after + 1 ≡ before) → 0 < before → before ≤ all
    → after < all
room_behind None before after all cases some fits = (let none = cases.0 in absurd (omega (arith, none, some)))
room_behind (Some number) before after all cases some fits = omega (arith, cases, fits)

-- one more place was looked at for strays
pub strays_more : (from at : ℕ) (start mid new : BooksState) → from ≤ at → mid ≡ strays_tried (at - from) from start → new ≡ stray_tried at mid
    → new ≡ strays_tried (at + 1 - from) from start
strays_more from at start mid new behind is one =
    let e : at + 1 - from ≡ suc (at - from) = omega (arith, behind) in
    let p : from + (at - from) ≡ at = omega (arith, behind) in
    one ∙ ap (stray_tried at) is ∙ ap (λ (n : ℕ). stray_tried n (strays_tried (at - from) from start)) (sym p)
    ∙ ap (λ (n : ℕ). strays_tried n from start) (sym e)

-- the guests that two facts say to stand at one place are one
same_guest : (at : ℕ) (row : RowState) (one other : RowGuest) → StandsAt at row one → StandsAt at row other → one ≡ other
same_guest at row one other a b = same_Some one other (sym a ∙ b)

-- whether a guest finds room is found out by what it misses
pub promises : (at missed : ℕ) (guest : RowGuest) (found : Bool) (old : BooksState) (later : Budget) → StandsAt at old.row guest → missed ≡ missing guest
    → found ≡ has_left missed old.budget → found ≡ true → later ≡ promised_more missed old.budget
    → PromisesRoom at true old (record old { budget = later })
promises at missed guest found old later stands misses finds is promised = record {
  guest = guest;
  stands = stands;
  finds = sym is ∙ finds ∙ ap (λ (n : ℕ). has_left n old.budget) misses;
  books = ap (λ (b : Budget). record old { budget = b }) (promised ∙ ap (λ (n : ℕ). promised_more n old.budget) misses);
}

pub promises_none : (at missed : ℕ) (guest : RowGuest) (found : Bool) (old : BooksState) → StandsAt at old.row guest → missed ≡ missing guest
    → found ≡ has_left missed old.budget → found ≡ false → PromisesRoom at false old old
promises_none at missed guest found old stands misses finds is = record {
  guest = guest;
  stands = stands;
  finds = sym is ∙ finds ∙ ap (λ (n : ℕ). has_left n old.budget) misses;
  books = refl;
}

-- others wait for a guest from now on, or not
pub keeps_room : (at : ℕ) (guest : RowGuest) (kept long : Bool) (old : BooksState) → StandsAt at old.row guest → long ≡ waits_long old.budget.ticks guest
    → kept ≡ (not old.is_last && long) → KeepsRoom at old (record old { budget = record old.budget { is_kept = kept } })
keeps_room at guest kept long old stands waits is = record {
  guest = guest;
  stands = stands;
  books = ap (λ (k : Bool). record old { budget = record old.budget { is_kept = k } }) (is ∙ ap (λ (l : Bool). not old.is_last && l) waits);
}

-- a guest still stands in the row where it was looked at
pub still_within : (at : ℕ) (result : Bool) (old mid : BooksState) → PromisesRoom at result old mid → at < length mid.row.guests
still_within at result old mid finds = by_result result finds.books
  where
    within : at < length old.row.guests
    within = slice_get_within old.row.guests at finds.guest finds.stands

    by_result : (b : Bool) → mid ≡ (if b then promised_to finds.guest old else old) → at < length mid.row.guests
    by_result true is = subst (λ (b : BooksState). at < length b.row.guests) (sym is) within
    by_result false is = subst (λ (b : BooksState). at < length b.row.guests) (sym is) within

-- what was found out of the guest whose turn it is
module _ (number at : ℕ) (old mid new : BooksState) (result : Bool) (waits : IsQueuedAt number at old.row) (finds : PromisesRoom at result old mid) where
  same : finds.guest ≡ waits.guest
  same = same_guest at old.row finds.guest waits.guest finds.stands waits.stands

  room : finds_room waits.guest old ≡ result
  room = ap (λ (g : RowGuest). finds_room g old) (sym same) ∙ sym finds.finds

  promised : result ≡ true → mid ≡ promised_to waits.guest old
  promised is = finds.books ∙ ap (λ (b : Bool). if b then promised_to finds.guest old else old) is ∙ ap (λ (g : RowGuest). promised_to g old) same

  stayed : result ≡ false → mid ≡ old
  stayed is = finds.books ∙ ap (λ (b : Bool). if b then promised_to finds.guest old else old) is

  pub turn_taken : in_turn old ≡ Some number → result ≡ true → new ≡ tried_again at (turn_passed (struck_out mid)) → TakesTurn old new
  turn_taken turn is tries =
      subst (λ (b : BooksState). TakesTurn old b) (sym (tries ∙ ap (λ (b : BooksState). tried_again at (turn_passed (struck_out b))) (promised is)))
      (turn_goes turn waits (room ∙ is))

  pub turn_ended : in_turn old ≡ Some number → result ≡ false → KeepsRoom at mid new → EndsTurns old new
  turn_ended turn is keeps =
      let stays = stayed is in
      let here : StandsAt at old.row keeps.guest = subst (λ (b : BooksState). StandsAt at b.row keeps.guest) stays keeps.stands in
      let e : keeps.guest ≡ waits.guest = same_guest at old.row keeps.guest waits.guest here waits.stands in
      subst (λ (b : BooksState). EndsTurns old b) (sym (keeps.books ∙ ap (room_kept keeps.guest) stays ∙ ap (λ (g : RowGuest). room_kept g old) e))
      (turn_lacks turn waits (room ∙ is))

  module _ (first : slice_get old.queue 0 ≡ Some number) where
    pub look_taken : result ≡ true → new ≡ tried_again at (first_dropped mid) → LooksAtFirst old new
    look_taken is tries =
        subst (λ (b : BooksState). LooksAtFirst old b) (sym (tries ∙ ap (λ (b : BooksState). tried_again at (first_dropped b)) (promised is)))
        (goes_on first waits (room ∙ is))

    pub look_behind : result ≡ false → new ≡ first_behind number mid → LooksAtFirst old new
    look_behind is moves =
        subst (λ (b : BooksState). LooksAtFirst old b) (sym (moves ∙ ap (first_behind number) (stayed is))) (finds_none first waits (room ∙ is))

    pub still_first : result ≡ false → slice_get mid.queue 0 ≡ Some number
    still_first is = ap (λ (b : BooksState). slice_get b.queue 0) (stayed is) ∙ first

-- a number without a waiting guest leaves the queue
pub turn_struck : (number : ℕ) (old new : BooksState) → in_turn old ≡ Some number → NoneWaits number old.row → new ≡ struck_out old → TakesTurn old new
turn_struck number old new turn none is = subst (λ (b : BooksState). TakesTurn old b) (sym is) (turn_gone turn none)

pub look_dropped : (number : ℕ) (old new : BooksState) → slice_get old.queue 0 ≡ Some number → NoneWaits number old.row → new ≡ first_dropped old → LooksAtFirst old new
look_dropped number old new first none is = subst (λ (b : BooksState). LooksAtFirst old b) (sym is) (is_gone first none)

pub look_none : (books : BooksState) → slice_get books.queue 0 ≡ None → LooksAtFirst books books
look_none books none = nobody_waits none
