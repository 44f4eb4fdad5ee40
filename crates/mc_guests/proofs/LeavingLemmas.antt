-- Links that are let go, one after another.
use Rattle.std.specs.Prelude.{slice_get, nat_le, if◌then◌else◌}
use Rattle.std.proofs.Common.{◌≡◌, ◌⊎◌, inl, inr, ℕ, zero, suc, ◌+◌, ◌-◌, ◌<◌, ◌≤◌, Bool, true, false, List, [], ◌∷◌, ◌++◌, length, Some, refl, sym, ap, ◌∙◌, subst, arith}
use Rattle.std.proofs.lemmas.List.{length-append}
use Rattle.std.proofs.lemmas.Option.{same_Some}
use Rattle.mc_time.specs.Chains.{Repeats, none_yet, one_more}
use Rattle.mc_protocol.specs.declared.step.Steps.{Ghosts as Relations}
use Rattle.mc_guests.specs.Links.{LinkState}
use Rattle.mc_guests.specs.Guests.{RowGuest, has_ended}
use Rattle.mc_guests.specs.Budgets.{is_retry_due}
use Rattle.mc_guests.specs.Books.{RowState, BooksState, StandsAt, LinesUp, woken, swapped, Wakes, is_over, IsFateOf, Settles, SettlesFrom}
use Rattle.mc_guests.specs.Retries.{lined, tried_again, promised_to, turn_passed, struck_out, first_dropped, strays, strays_tried, all_strays_tried, begun_anew}
use Rattle.mc_guests.specs.Retries.{TakesTurn, goes_on as turn_goes, is_gone as turn_gone, EndsTurns, nobody_waits as turn_none, finds_none as turn_lacks}
use Rattle.mc_guests.specs.Retries.{LooksAtFirst, goes_on, is_gone, nobody_waits, finds_none, GoInTurn, GoBeside, LetsOnAll, LetsOn}
use Rattle.mc_guests.specs.Turns.{VisitsAll}
use Rattle.mc_guests.specs.Admissions.{WakesOneNamed, WakesAllNamed, WakesAfter, ComesNothing}
use Rattle.mc_guests.specs.Leaving.{gone_at, all_gone, AreLetGo}
use Rattle.mc_guests.specs.declared.guests.NextState.{NextState}
use Rattle.mc_guests.specs.declared.guests.WorkEnd.{WorkEnd}
use Rattle.mc_guests.specs.declared.link_calls.LinkCalls.{LinkCalls}
use Rattle.mc_guests.specs.declared.metered.WaitState.TheVariants.{Next}
use Rattle.mc_guests.proofs.BookLemmas.{long_swapped, awake_before}
use Rattle.mc_guests.proofs.SwapLemmas.{place_other, swap_reads}

get_behind : {A : Type 0} (xs : List A) (x : A) → slice_get (xs ++ x ∷ []) (length xs) ≡ Some x
get_behind [] x = refl
get_behind (y ∷ xs) x = get_behind xs x

-- the last of a list
pub last_stands : (items rest : List RowGuest) (guest : RowGuest) (numbers : List ℕ) (row : RowState) → record { guests = items; numbers = numbers } ≡ row
    → items ≡ rest ++ guest ∷ [] → StandsAt (length row.guests - 1) row guest
last_stands items rest guest numbers row is parts =
    let long : length items ≡ length rest + 1 = ap length parts ∙ length-append rest (guest ∷ []) in
    let at : length items - 1 ≡ length rest = omega (arith, long) in
    subst (λ (r : RowState). StandsAt (length r.guests - 1) r guest) is
    (ap (slice_get items) at ∙ ap (λ (l : List RowGuest). slice_get l (length rest)) parts ∙ get_behind rest guest)

-- who is last after two swaps stood at the place
module _ (at awake end count : ℕ) (row second third : RowState) (within : at < awake) (all : awake ≤ length row.guests)
    (swaps : second ≡ swapped at (awake - 1) row) (at_end : end ≡ length second.guests) (is_last : count ≡ end - 1)
    (swaps_end : third ≡ swapped (awake - 1) count second) where
  pub stood_there : (guest : RowGuest) → StandsAt (length third.guests - 1) third guest → StandsAt at row guest
  stood_there guest stands =
      let long = long_swapped at (awake - 1) row second swaps in
      let long_too = long_swapped (awake - 1) count second third swaps_end in
      let last : length third.guests - 1 ≡ count = omega (arith, long, long_too, at_end, is_last) in
      sym (ap (slice_get row.guests) (place_other at (awake - 1)))
      ∙ sym (swap_reads row.guests at (awake - 1) (awake - 1) (omega (arith, within, all)) (omega (arith, within, all)))
      ∙ sym (ap (λ (r : RowState). slice_get r.guests (awake - 1)) swaps)
      ∙ sym (ap (slice_get second.guests) (place_other (awake - 1) count))
      ∙ sym (swap_reads second.guests (awake - 1) count count (omega (arith, within, all, long)) (omega (arith, within, all, long, at_end, is_last)))
      ∙ sym (ap (λ (r : RowState). slice_get r.guests count) swaps_end)
      ∙ sym (ap (slice_get third.guests) last)
      ∙ stands

-- what lets links go, one after another
module _ (leaves : LinkState → (before after : ℕ) → Type 0) where
  pub go_then : (links more : List LinkState) (a b c : ℕ) → AreLetGo leaves links a b → AreLetGo leaves more b c → AreLetGo leaves (links ++ more) a c
  go_then [] more a b c first last = subst (λ (n : ℕ). AreLetGo leaves more n c) first last
  go_then (link ∷ links) more a b c (mid, one, first) last = (mid, one, go_then links more mid b c first last)

  pub go_to : (links : List LinkState) (a b c : ℕ) → AreLetGo leaves links a b → c ≡ b → AreLetGo leaves links a c
  go_to links a b c go same = subst (AreLetGo leaves links a) (sym same) go

  pub go_from : (links : List LinkState) (a b c : ℕ) → b ≡ a → AreLetGo leaves links b c → AreLetGo leaves links a c
  go_from links a b c same go = subst (λ (n : ℕ). AreLetGo leaves links n c) same go

  go_if : (goes : Bool) (link : LinkState) (a b : ℕ) → goes ≡ true → leaves link a b → AreLetGo leaves (if goes then link ∷ [] else []) a b
  go_if true link a b is left = (b, left, refl)
  go_if false link a b is left = absurd (cc)

  stay_if : (goes : Bool) (link : LinkState) (a b : ℕ) → goes ≡ false → b ≡ a → AreLetGo leaves (if goes then link ∷ [] else []) a b
  stay_if true link a b is same = absurd (cc)
  stay_if false link a b is same = same

  -- a guest is settled, and its link let go if it has ended
  abbrev pub SettlesTo : (at : ℕ) (old new : BooksState) (before after : WorkEnd) → Type 0
  SettlesTo at old new before after = (settles : Settles at old new before after) × AreLetGo leaves (gone_at settles) old.gone new.gone

  module _ (at : ℕ) (old new : BooksState) (before after : WorkEnd) (fate : NextState) (is : IsFateOf at old.row fate before after) (settles : Settles at old new before after) where
    is_ended : has_ended settles.guest.guest.last ≡ is_over fate
    is_ended = ap (λ (g : RowGuest). has_ended g.guest.last) (same_Some settles.guest is.guest (sym settles.stands ∙ is.stands)) ∙ sym is.over

    pub goes_to : is_over fate ≡ true → ((guest : RowGuest) × StandsAt at old.row guest × leaves guest.guest.link old.gone new.gone) → SettlesTo at old new before after
    goes_to over (guest, stands, left) = (
      settles,
      go_if (has_ended settles.guest.guest.last) settles.guest.guest.link old.gone new.gone (is_ended ∙ over)
          (subst (λ (g : RowGuest). leaves g.guest.link old.gone new.gone) (same_Some guest settles.guest (sym stands ∙ settles.stands)) left),
    )

    pub stays_to : is_over fate ≡ false → new.gone ≡ old.gone → SettlesTo at old new before after
    stays_to on same = (settles, stay_if (has_ended settles.guest.guest.last) settles.guest.guest.link old.gone new.gone (is_ended ∙ on) same)

  -- the awake guests from a place on are settled
  abbrev pub SettlesAllTo : (at : ℕ) (old new : BooksState) (before after : WorkEnd) → Type 0
  SettlesAllTo at old new before after = (settles : SettlesFrom at old new before after) × AreLetGo leaves (all_gone settles.1) old.gone new.gone

  pub nobody_goes : (awake : ℕ) (books : BooksState) (count : WorkEnd) → books.awake ≡ awake → SettlesAllTo awake books books count count × (awake ≤ books.awake)
  nobody_goes awake books count is = subst (λ (n : ℕ). SettlesAllTo n books books count count × (n ≤ books.awake)) is (((0, none_yet), refl), omega arith)

  pub one_more_goes : (at : ℕ) (old mid new : BooksState) (before between after : WorkEnd) → 0 < at → SettlesAllTo at old mid before between × (at ≤ mid.awake)
      → SettlesTo (at - 1) mid new between after → SettlesAllTo (at - 1) old new before after × (at - 1 ≤ new.awake)
  one_more_goes at old mid new before between after some front one =
      let e : at - 1 + 1 ≡ at = omega arith in (
        (
          (front.0.0.0 + 1, one_more front.0.0.1 (record { place = sym e; settles = one.0 })),
          go_then (all_gone front.0.0.1) (gone_at one.0) old.gone mid.gone new.gone front.0.1 one.1,
        ),
        awake_before (at - 1) mid new between after (omega arith) one.0,
      )

-- ---- what lets no link go

pub lined_gone : (at : ℕ) (old new : BooksState) → LinesUp at old new → new.gone ≡ old.gone
lined_gone at old new (inl queued) = ap (λ (b : BooksState). b.gone) queued.2
lined_gone at old new (inr stray) = ap (λ (b : BooksState). b.gone) stray

pub wakes_gone : (number : ℕ) (old new : BooksState) → Wakes number old new → new.gone ≡ old.gone
wakes_gone number old new (inl one) = ap (λ (b : BooksState). b.gone) one.books
wakes_gone number old new (inr none) = ap (λ (b : BooksState). b.gone) none.books

named_gone : (count : ℕ) (old new : LinkCalls × BooksState) → Repeats WakesOneNamed count old new → new.1.gone ≡ old.1.gone
named_gone total old new none_yet = refl
named_gone total old new (one_more {count = count} {mid = mid} front last) = wakes_gone last.number mid.1 new.1 last.wakes ∙ named_gone count old mid front

pub all_named_gone : (talk : LinkCalls) (old : BooksState) (later : LinkCalls) (new : BooksState) → WakesAllNamed talk old later new → new.gone ≡ old.gone
all_named_gone talk old later new w = named_gone w.wakes.0 (talk, old) (w.last, new) w.wakes.1

pub nothing_gone : (is_quiet : Bool) (talk : LinkCalls) (old : BooksState) (later : LinkCalls) (new : BooksState) → ComesNothing is_quiet talk old later new → new.gone ≡ old.gone
nothing_gone is_quiet talk old later new none = after _ _ none.rests ∙ all_named_gone talk old none.last none.between none.wakes
  where
    after : (b : Bool) (mid : LinkCalls) → WakesAfter b mid none.between later new → new.gone ≡ none.between.gone
    after true mid w = all_named_gone mid none.between later new w
    after false mid w = ap (λ (b : BooksState). b.gone) w.1

either_way : (b : Bool) → (b ≡ true) ⊎ (b ≡ false)
either_way true = inl refl
either_way false = inr refl

if_gone : (b : Bool) (one other : BooksState) (n : ℕ) → one.gone ≡ n → other.gone ≡ n → (if b then one else other).gone ≡ n
if_gone true one other n first second = first
if_gone false one other n first second = second

tried_gone : (at : ℕ) (books : BooksState) → (tried_again at books).gone ≡ books.gone
tried_gone at books = if_gone (nat_le books.awake at) (woken at (lined at Next books)) (lined at Next books) books.gone refl refl

turn_leaves : (old new : BooksState) → TakesTurn old new → new.gone ≡ old.gone
turn_leaves old new (turn_goes {number = number} {at = at} turn waits room) = tried_gone at (turn_passed (struck_out (promised_to waits.guest old)))
turn_leaves old new (turn_gone turn none) = refl

end_leaves : (old new : BooksState) → EndsTurns old new → new.gone ≡ old.gone
end_leaves old new (turn_none none) = refl
end_leaves old new (turn_lacks turn waits none) = refl

look_leaves : (old new : BooksState) → LooksAtFirst old new → new.gone ≡ old.gone
look_leaves old new (nobody_waits none) = refl
look_leaves old new (goes_on {number = number} {at = at} first waits room) = tried_gone at (first_dropped (promised_to waits.guest old))
look_leaves old new (finds_none first waits none) = refl
look_leaves old new (is_gone first none) = refl

-- a step that lets no link go, repeated
module _ (step : BooksState → BooksState → Type 0) (one : (old new : BooksState) → step old new → new.gone ≡ old.gone) where
  pub repeats_leave : (count : ℕ) (old new : BooksState) → Repeats step count old new → new.gone ≡ old.gone
  repeats_leave total old new none_yet = refl
  repeats_leave total old new (one_more {count = count} {mid = mid} front last) = one mid new last ∙ repeats_leave count old mid front

strays_leave : (count from : ℕ) (books : BooksState) → (strays_tried count from books).gone ≡ books.gone
strays_leave zero from books = refl
strays_leave (suc count) from books =
    let mid : BooksState = strays_tried count from books in
    if_gone (strays (slice_get mid.row.guests (from + count))) (tried_again (from + count) mid) mid mid.gone (tried_gone (from + count) mid) refl ∙ strays_leave count from books

all_strays_leave : (books : BooksState) → (all_strays_tried books).gone ≡ books.gone
all_strays_leave books =
    let base : BooksState = record books { has_strays = false } in
    if_gone books.has_strays (strays_tried (length books.row.guests - books.awake) books.awake base) books books.gone
    (strays_leave (length books.row.guests - books.awake) books.awake base) refl

in_turn_leave : (old new : BooksState) → GoInTurn old new → new.gone ≡ old.gone
in_turn_leave old new go = over go.over ∙ repeats_leave TakesTurn turn_leaves go.count old go.last go.turns
  where
    over : {A B : Type 0} → (A × (new ≡ go.last)) ⊎ (B × EndsTurns go.last new) → new.gone ≡ go.last.gone
    over (inl many) = ap (λ (b : BooksState). b.gone) many.1
    over (inr few) = end_leaves go.last new few.1

beside_leave : (old new : BooksState) → GoBeside old new → new.gone ≡ old.gone
beside_leave old new beside = elim (either_way old.budget.is_kept) [
  | inl kept ↦ ap (λ (b : BooksState). b.gone) (beside.waits kept)
  | inr none ↦ repeats_leave LooksAtFirst look_leaves _ old new (beside.goes none)
]

lets_on_all_leave : (old new : BooksState) → LetsOnAll old new → new.gone ≡ old.gone
lets_on_all_leave old new on =
    ap (λ (b : BooksState). b.gone) on.strays ∙ all_strays_leave on.after_looks ∙ beside_leave on.after_turns on.after_looks on.looks ∙ in_turn_leave old on.after_turns on.turns

lets_on_leaves : (old new : BooksState) → LetsOn old new → new.gone ≡ old.gone
lets_on_leaves old new lets = elim (either_way (is_retry_due old.budget)) [
  | inl due ↦ lets_on_all_leave (begun_anew old) new (lets.due due)
  | inr early ↦ ap (λ (b : BooksState). b.gone) (lets.early early)
]

pub visits_leave : {S : Type 0} (relations : Relations S) (now : ℕ) (old new : BooksState) (before after : S) → VisitsAll relations now old new before after → new.gone ≡ old.gone
visits_leave relations now old new before after v =
    ap (λ (b : BooksState). b.gone) v.visits.keeps.same ∙ lets_on_leaves old v.between v.wakes
