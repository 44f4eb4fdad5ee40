-- What becomes of one guest when others wake, sleep, go, or are tried again: it stands yet, or it had ended.
use Rattle.std.specs.Prelude.{slice_get, swap, nat_le, count_by, if◌then◌else◌}
use Rattle.std.proofs.Common.{◌≡◌, ◌⊎◌, inl, inr, ℕ, zero, suc, ◌+◌, ◌-◌, ◌<◌, ◌≤◌, Bool, true, false, List, [], ◌∷◌, ◌++◌, length, Option, Some, None, refl, sym, ap, ◌∙◌, subst, arith, IsTrue}
use Rattle.std.proofs.Common.{length-append, append_assoc, append-nil}
use Rattle.std.proofs.Common.{leb-true}
use Rattle.std.proofs.lemmas.List.{length-take-le}
use Rattle.std.proofs.lemmas.List.Edits.{length-swap}
use Rattle.std.proofs.lemmas.Option.{slice_get_within}
use Rattle.mc_time.specs.Chains.{Repeats, none_yet, one_more}
use Rattle.mc_guests.specs.Budgets.{is_retry_due}
use Rattle.mc_guests.specs.Guests.{GuestState, RowGuest, newcomer, has_ended, is_to_sleep, is_stray, in_line, reads_left}
use Rattle.mc_guests.specs.Books.{RowState, BooksState, woken, put_behind, queued_up, LinesUp, let_gone, let_in, with_guest, Wakes, Settles, SettlesBefore, SetsTicks, took_ending, took_judging}
use Rattle.mc_guests.specs.Leaving.{gone_at, all_gone}
use Rattle.mc_guests.specs.Links.{LinkState}
use Rattle.mc_guests.specs.Judging.{judged}
use Rattle.mc_guests.specs.Retries.{lined, tried_again, promised_to, turn_passed, struck_out, first_dropped, first_behind, room_kept, strays, stray_tried, strays_tried, all_strays_tried, begun_anew}
use Rattle.mc_guests.specs.Retries.{TakesTurn, goes_on as turn_goes, is_gone as turn_gone, EndsTurns, nobody_waits as turn_none, finds_none as turn_lacks}
use Rattle.mc_guests.specs.Retries.{LooksAtFirst, goes_on, is_gone, nobody_waits, finds_none, GoInTurn, GoBeside, LetsOnAll, LetsOn}
use Rattle.mc_guests.specs.declared.budget.Budget.{Budget}
use Rattle.mc_guests.specs.declared.guests.WorkEnd.{WorkEnd}
use Rattle.mc_guests.specs.declared.metered.WaitState.TheVariants.{Queued, Next}
use Rattle.mc_guests.proofs.JudgeLemmas.{length_changed}
use Rattle.mc_guests.proofs.LeftLemmas.{same_long}
use Rattle.mc_workers.specs.Room.{EndsOne, JudgesOne, MakesRoom}
use Rattle.mc_worker_laws.specs.Traces.{AreCounted}
use Rattle.mc_worker_laws.proofs.CountLemmas.{many_of, with_link, many_more, links_more, counts_end, counts_on}
use Rattle.mc_worker_laws.proofs.RowLemmas.{Moves, moves_none, moves_then, moves_changed, moves_left, moves_swapped, moves_gone}

either_way : (b : Bool) → (b ≡ true) ⊎ (b ≡ false)
either_way true = inl refl
either_way false = inr refl

-- no more guests are awake than there are
abbrev pub Sound : BooksState → Type 0
Sound books = books.awake ≤ length books.row.guests

-- the guests of the one became those of the other, and these went
pub record Carries (went : List GuestState) (old new : BooksState) : Type 0 where
  pub sound : Sound old → Sound new
  pub moves : Sound old → Moves went old.row.guests new.row.guests

pub carries_then : {went more : List GuestState} (a b c : BooksState) → Carries went a b → Carries more b c → Carries (went ++ more) a c
carries_then {went} {more} a b c f g = record {
  sound = λ ok. g.sound (f.sound ok);
  moves = λ ok. moves_then went more a.row.guests b.row.guests c.row.guests (f.moves ok) (g.moves (f.sound ok));
}

pub carries_none : (a : BooksState) → Carries [] a a
carries_none a = record { sound = λ ok. ok; moves = λ ok. moves_none a.row.guests }

pub carries_to : {went : List GuestState} {old mid new : BooksState} → Carries went old mid → new ≡ mid → Carries went old new
carries_to {went} {old} c e = subst (Carries went old) (sym e) c

-- a step that carries, repeated
module _ (step : BooksState → BooksState → Type 0) (one : (old new : BooksState) → step old new → Carries [] old new) where
  pub repeats_carry : (count : ℕ) (old new : BooksState) → Repeats step count old new → Carries [] old new
  repeats_carry total old new none_yet = carries_none old
  repeats_carry total old new (one_more {count = count} {mid = mid} front last) = carries_then old mid new (repeats_carry count old mid front) (one mid new last)

-- one of them is changed, but for what it is as a guest
pub changed_carries : (f : RowGuest → RowGuest) → ((x : RowGuest) → (f x).guest ≡ x.guest) → (at : ℕ) (books : BooksState) → Carries [] books (record books { row = with_guest f at books.row })
changed_carries f keeps at books = record {
  sound = λ ok. (let e = length_changed f at books.row.guests in omega (arith, e, ok));
  moves = λ ok. moves_changed f keeps at books.row.guests;
}

pub woken_carries : (at : ℕ) (books : BooksState) → at < length books.row.guests → books.awake ≤ at → Carries [] books (woken at books)
woken_carries at books within behind = record {
  sound = λ ok. (let e = length-swap books.row.guests at books.awake in omega (arith, e, within, behind));
  moves = λ ok. moves_swapped at books.awake books.row.guests within (omega (arith, within, behind));
}

pub behind_carries : (at : ℕ) (books : BooksState) → at < length books.row.guests → Carries [] books (put_behind at books)
behind_carries at books within = record {
  sound = λ ok. (let e = length-swap books.row.guests at (books.awake - 1) in omega (arith, e, ok));
  moves = λ ok. moves_swapped at (books.awake - 1) books.row.guests within (omega (arith, ok, within));
}

-- ---- those that wait are tried again

if_woken : (at : ℕ) (books : BooksState) → at < length books.row.guests → (b : Bool) → nat_le books.awake at ≡ b → Carries [] books (if b then woken at books else books)
if_woken at books within true is = woken_carries at books within (leb-true books.awake at is)
if_woken at books within false is = carries_none books

tried_carries : (at : ℕ) (books : BooksState) → at < length books.row.guests → Carries [] books (tried_again at books)
tried_carries at books within =
    let e = length_changed (in_line Next) at books.row.guests in
    carries_then books (lined at Next books) (tried_again at books) (changed_carries (in_line Next) (λ x. refl) at books)
    (if_woken at (lined at Next books) (omega (arith, e, within)) (nat_le books.awake at) refl)

-- the same guests stand, and as many are awake
same_row : (old new : BooksState) → new.row.guests ≡ old.row.guests → new.awake ≡ old.awake → Carries [] old new
same_row old new guests awake = record {
  sound = λ ok. (let e : length new.row.guests ≡ length old.row.guests = ap (λ (l : List RowGuest). length l) guests in omega (arith, e, awake, ok));
  moves = λ ok. subst (Moves [] old.row.guests) (sym guests) (moves_none old.row.guests);
}

turn_carries : (old new : BooksState) → TakesTurn old new → Carries [] old new
turn_carries old new (turn_goes {number = number} {at = at} turn waits room) =
    let base : BooksState = turn_passed (struck_out (promised_to waits.guest old)) in
    carries_then old base (tried_again at base) (same_row old base refl refl) (tried_carries at base (slice_get_within old.row.guests at waits.guest waits.stands))
turn_carries old new (turn_gone turn none) = same_row old (struck_out old) refl refl

end_carries : (old new : BooksState) → EndsTurns old new → Carries [] old new
end_carries old new (turn_none none) = carries_none old
end_carries old new (turn_lacks turn waits none) = same_row old (room_kept waits.guest old) refl refl

look_carries : (old new : BooksState) → LooksAtFirst old new → Carries [] old new
look_carries old new (nobody_waits none) = carries_none old
look_carries old new (goes_on {number = number} {at = at} first waits room) =
    let base : BooksState = first_dropped (promised_to waits.guest old) in
    carries_then old base (tried_again at base) (same_row old base refl refl) (tried_carries at base (slice_get_within old.row.guests at waits.guest waits.stands))
look_carries old new (finds_none {number = number} first waits none) = same_row old (first_behind number old) refl refl
look_carries old new (is_gone first none) = same_row old (first_dropped old) refl refl

if_stray : (at : ℕ) (books : BooksState) (o : Option RowGuest) → slice_get books.row.guests at ≡ o → Carries [] books (if strays o then tried_again at books else books)
if_stray at books None is = carries_none books
if_stray at books (Some guest) is = by_test (is_stray guest)
  where
    by_test : (b : Bool) → Carries [] books (if b then tried_again at books else books)
    by_test true = tried_carries at books (slice_get_within books.row.guests at guest is)
    by_test false = carries_none books

strays_carry : (count from : ℕ) (books : BooksState) → Carries [] books (strays_tried count from books)
strays_carry zero from books = carries_none books
strays_carry (suc count) from books =
    let mid : BooksState = strays_tried count from books in
    carries_then books mid (stray_tried (from + count) mid) (strays_carry count from books) (if_stray (from + count) mid (slice_get mid.row.guests (from + count)) refl)

all_strays_carry : (books : BooksState) → Carries [] books (all_strays_tried books)
all_strays_carry books = by_test books.has_strays
  where
    base : BooksState
    base = record books { has_strays = false }

    by_test : (b : Bool) → Carries [] books (if b then strays_tried (length books.row.guests - books.awake) books.awake base else books)
    by_test true = carries_then books base _ (same_row books base refl refl) (strays_carry (length books.row.guests - books.awake) books.awake base)
    by_test false = carries_none books

beside_carries : (old new : BooksState) → GoBeside old new → Carries [] old new
beside_carries old new beside = elim (either_way old.budget.is_kept) [
  | inl kept ↦ carries_to (carries_none old) (beside.waits kept)
  | inr none ↦ repeats_carry LooksAtFirst look_carries _ old new (beside.goes none)
]

pub lets_on_carries : (old new : BooksState) → LetsOn old new → Carries [] old new
lets_on_carries old new lets = elim (either_way (is_retry_due old.budget)) [
  | inl due ↦ all (lets.due due)
  | inr early ↦ carries_to (carries_none old) (lets.early early)
]
  where
    in_turn_carries : (a b : BooksState) → GoInTurn a b → Carries [] a b
    in_turn_carries a b go =
        let front = repeats_carry TakesTurn turn_carries go.count a go.last go.turns in
        elim go.over [
          | inl many ↦ carries_to front many.1
          | inr few ↦ carries_then a go.last b front (end_carries go.last b few.1)
        ]

    all : LetsOnAll (begun_anew old) new → Carries [] old new
    all on =
        let base : BooksState = begun_anew old in
        let strays_on = carries_to (all_strays_carry on.after_looks) on.strays in
        carries_then old base new (same_row old base refl refl)
        (carries_then base on.after_turns new (in_turn_carries base on.after_turns on.turns)
        (carries_then on.after_turns on.after_looks new (beside_carries on.after_turns on.after_looks on.looks) strays_on))

-- ---- after a round

gone_carries : (at : ℕ) (old : BooksState) (budget : Budget) (gone : ℕ) (it : RowGuest) → slice_get old.row.guests at ≡ Some it → IsTrue (has_ended it.guest.last)
    → Carries (it.guest ∷ []) old (record (let_gone at old) { budget = budget; gone = gone })
gone_carries at old budget gone it here ended =
    let within : at < length old.row.guests = slice_get_within old.row.guests at it here in
    let long = length-swap old.row.guests at (old.awake - 1) in
    let long_too = length-swap (swap old.row.guests at (old.awake - 1)) (old.awake - 1) (length old.row.guests - 1) in record {
      sound = λ ok.
          let taken = length-take-le (length old.row.guests - 1) (swap (swap old.row.guests at (old.awake - 1)) (old.awake - 1) (length old.row.guests - 1)) (omega (arith, long, long_too)) in
          omega (arith, taken, ok);
      moves = λ ok. moves_gone old.row.guests at (old.awake - 1) it here (omega (arith, ok, within)) ended;
    }

lines_carry : (at : ℕ) (old new : BooksState) → at < length old.row.guests → LinesUp at old new → Carries [] old new
lines_carry at old new within (inl (number, has, is)) =
    let e = length_changed (in_line Queued) at old.row.guests in
    let mid : BooksState = queued_up at number old in
    let base : BooksState = record old { row = with_guest (in_line Queued) at old.row } in
    carries_to (carries_then old base (put_behind at mid) (changed_carries (in_line Queued) (λ x. refl) at old)
    (carries_then base mid (put_behind at mid) (same_row base mid refl refl) (behind_carries at mid (omega (arith, e, within))))) is
lines_carry at old new within (inr is) =
    let mid : BooksState = record old { has_strays = true } in
    carries_to (carries_then old mid (put_behind at mid) (same_row old mid refl refl) (behind_carries at mid within)) is

-- these went, and are counted
abbrev pub CountsGone : (went : List GuestState) (before after : WorkEnd) → Type 0
CountsGone went before after = (gone : List GuestState) (at_door : ℕ) → AreCounted gone at_door before → AreCounted (gone ++ went) at_door after

-- nobody went
pub counts_none : (before after : WorkEnd) → after ≡ before → CountsGone [] before after
counts_none before after same gone at_door c =
    subst (λ (l : List GuestState). AreCounted l at_door after) (sym (append-nil gone)) (subst (AreCounted gone at_door) (sym same) c)

-- these are the links of those that went
abbrev pub AreLinksOf : (went : List GuestState) (links : List LinkState) → Type 0
AreLinksOf went links = (counts : LinkState → Bool) → count_by counts links ≡ many_of (with_link counts) went

-- what was settled: who went, what is counted of them, and which links were let go
abbrev pub Leaves : (links : List LinkState) (old new : BooksState) (before after : WorkEnd) → Type 0
Leaves links old new before after = (went : List GuestState) × Carries went old new × CountsGone went before after × AreLinksOf went links

gone_links : (guest : GuestState) (b : Bool) → b ≡ true → AreLinksOf (guest ∷ []) (if b then guest.link ∷ [] else [])
gone_links guest true is counts = refl
gone_links guest false is counts = absurd (cc)

no_links : (link : LinkState) (b : Bool) → b ≡ false → AreLinksOf [] (if b then link ∷ [] else [])
no_links link true is counts = absurd (cc)
no_links link false is counts = refl

settles_leave : (at : ℕ) (old new : BooksState) (before after : WorkEnd) → (s : Settles at old new before after) → Leaves (gone_at s) old new before after
settles_leave at old new before after s =
    let within : at < length old.row.guests = slice_get_within old.row.guests at s.guest s.stands in
    elim (either_way (has_ended s.guest.guest.last)) [
      | inl ended ↦ (let goes = s.goes ended in (
        s.guest.guest ∷ [],
        carries_to (gone_carries at old new.budget new.gone s.guest s.stands ended) goes.books,
        λ gone at_door c. subst (AreCounted (gone ++ s.guest.guest ∷ []) at_door) (sym s.counts) (counts_end gone at_door s.guest.guest s.guest.guest.last before ended refl c),
        gone_links s.guest.guest (has_ended s.guest.guest.last) ended,
      ))
      | inr on ↦ (
        [],
        elim (either_way (is_stray s.guest)) [
          | inl stray ↦ lines_carry at old new within (s.lines_up on stray)
          | inr out ↦ elim (either_way (is_to_sleep s.guest)) [
            | inl sleeps ↦ carries_to (behind_carries at old within) (s.sleeps on out sleeps)
            | inr awake ↦ carries_to (carries_none old) (s.stays on awake)
          ]
        ],
        counts_none before after (s.counts ∙ counts_on s.guest.guest.last before on),
        no_links s.guest.guest.link (has_ended s.guest.guest.last) on,
      )
    ]

pub all_leave : (count : ℕ) (old new : ℕ × BooksState × WorkEnd) → (settles : Repeats SettlesBefore count old new) → Leaves (all_gone settles) old.1 new.1 old.2 new.2
all_leave total old new none_yet = ([], carries_none old.1, counts_none old.2 old.2 refl, λ counts. refl)
all_leave total old new (one_more {count = count} {mid = mid} front last) =
    let f = all_leave count old mid front in
    let l = settles_leave new.0 mid.1 new.1 mid.2 new.2 last.settles in (
      f.0 ++ l.0,
      carries_then old.1 mid.1 new.1 f.1 l.1,
      λ gone at_door c. subst (λ (g : List GuestState). AreCounted g at_door new.2) (append_assoc gone f.0 l.0) (l.2 (gone ++ f.0) at_door (f.2 gone at_door c)),
      λ counts. (
          let p = f.3 counts in
          let q = l.3 counts in
          let r = many_more (with_link counts) f.0 l.0 in
          let s = links_more counts (all_gone front) (gone_at last.settles) in
          omega (arith, p, q, r, s)
          ),
    )

-- ---- ended for what has left the store, and judged

ticks_carry : (ticks : ℕ) (old new : BooksState) → SetsTicks ticks old new → Carries [] old new
ticks_carry ticks old new sets = record {
  sound = λ ok. (let e = same_long old.row new.row sets.row in let a : new.awake ≡ old.awake = ap (λ (b : BooksState). b.awake) sets.rest in omega (arith, e, a, ok));
  moves = λ ok. moves_left old.row new.row sets.row;
}

ends_carry : (old new : BooksState) → EndsOne old new → Carries [] old new
ends_carry old new e =
    let mid : BooksState = record old { row = with_guest (reads_left 0) e.ends.at old.row } in
    let last : BooksState = record mid { budget = new.budget } in
    carries_to (carries_then old mid last (changed_carries (reads_left 0) (λ x. refl) e.ends.at old) (same_row mid last refl refl))
    (e.same ∙ ap (λ (r : RowState). record old { row = r; budget = new.budget }) e.ends.ends.row)

judges_carry : (old new : BooksState) → JudgesOne old new → Carries [] old new
judges_carry old new j =
    let f : RowGuest → RowGuest = judged old.budget.ticks in
    carries_to (changed_carries (judged old.budget.ticks) (λ x. refl) j.judges.at old) (j.same ∙ ap (λ (r : RowState). record old { row = r }) j.judges.judges.row)

pub room_carries : (old new : BooksState) → MakesRoom old new → Carries [] old new
room_carries old new room =
    let taken : BooksState = took_ending room.timed in
    let mid : BooksState = took_judging room.ended in
    carries_then old room.timed new (ticks_carry room.ticks old room.timed room.sets)
    (carries_then room.timed taken new (same_row room.timed taken refl refl)
    (carries_then taken room.ended new (repeats_carry EndsOne ends_carry room.ends.count taken room.ended room.ends.ends)
    (carries_then room.ended mid new (same_row room.ended mid refl refl) (repeats_carry JudgesOne judges_carry room.judges.count mid new room.judges.judges))))

-- ---- at the door

pub wakes_carry : (number : ℕ) (old new : BooksState) → Wakes number old new → Carries [] old new
wakes_carry number old new (inl one) = carries_to (woken_carries one.at old one.sleeps.stands one.sleeps.behind) one.books
wakes_carry number old new (inr none) = carries_to (carries_none old) none.books

-- a guest is let in: it stands behind the others, and changes places with the first that sleeps
module _ (g : GuestState) (number : ℕ) (old : BooksState) where
  long : length (old.row.guests ++ newcomer g ∷ []) ≡ length old.row.guests + 1
  long = length-append old.row.guests (newcomer g ∷ [])

  pub let_in_sound : Sound old → Sound (let_in g number old)
  let_in_sound ok = (let e = long in let s = length-swap (old.row.guests ++ newcomer g ∷ []) (length old.row.guests) old.awake in omega (arith, e, s, ok))

  pub let_in_moves : Sound old → Moves [] (old.row.guests ++ newcomer g ∷ []) (let_in g number old).row.guests
  let_in_moves ok = (let e = long in moves_swapped (length old.row.guests) old.awake (old.row.guests ++ newcomer g ∷ []) (omega (arith, e)) (omega (arith, e, ok)))
