-- What a storage command may charge at most is what it was when the door was made.
use Rattle.std.specs.Prelude.{slice_get, if◌then◌else◌}
use Rattle.std.proofs.Common.{◌≡◌, inl, inr, ℕ, zero, suc, Bool, true, false, List, [], ◌∷◌, ◌++◌, Some, refl, sym, ap, ◌∙◌, subst}
use Rattle.std.proofs.lemmas.Option.{none-some, same_Some}
use Rattle.mc_time.specs.Chains.{Repeats, none_yet, one_more}
use Rattle.mc_guests.specs.Links.{LinkState}
use Rattle.mc_guests.specs.Books.{BooksState}
use Rattle.mc_guests.specs.Admissions.{Opens, link as of_link, none_now, none_more, over, LinkCame, OpensForAll, as_many, then_none}
use Rattle.mc_guests.specs.declared.admission.Admission.{Admission}
use Rattle.mc_guests.specs.declared.guests.WorkEnd.{WorkEnd}
use Rattle.mc_workers.specs.Rounds.{WorkState, WorksOn}
use Rattle.mc_guests.specs.Arrivals.{Arrival, is_first, admitted, came_in, all_came_in, came_between}
use Rattle.mc_workers.specs.Came.{came_since}
use Rattle.mc_worker_laws.proofs.RowLemmas.{get_either}

-- each of these links may charge so much
abbrev pub AllMay : ℕ → List Arrival → Type 0
AllMay most came = (at : ℕ) (a : Arrival) → slice_get came at ≡ Some a → a.most ≡ most

pub all_both : (most : ℕ) (xs ys : List Arrival) → AllMay most xs → AllMay most ys → AllMay most (xs ++ ys)
all_both most xs ys f g at p is = elim (get_either xs ys at p is) [ inl one ↦ f at p one | inr two ↦ g two.0 p two.1 ]

none_came : (most : ℕ) → AllMay most []
none_came most at p is = absurd (none-some p is)

one_came : (a : Arrival) → AllMay a.most (a ∷ [])
one_came a zero p is = sym (ap (λ (q : Arrival). q.most) (same_Some a p is))
one_came a (suc at) p is = absurd (none-some p is)

-- so may those that were admitted
admitted_one : (most : ℕ) (a : Arrival) (came : List Arrival) (b : Bool) → a.most ≡ most
    → ((at : ℕ) (p : ℕ × LinkState) → slice_get (admitted came) at ≡ Some p → p.0 ≡ most)
    → (at : ℕ) (p : ℕ × LinkState) → slice_get (if b then (a.most, a.state) ∷ admitted came else admitted came) at ≡ Some p → p.0 ≡ most
admitted_one most a came true first later zero p is = sym (ap (λ (q : ℕ × LinkState). q.0) (same_Some (a.most, a.state) p is)) ∙ first
admitted_one most a came true first later (suc at) p is = later at p is
admitted_one most a came false first later at p is = later at p is

pub admitted_may : (most : ℕ) (came : List Arrival) → AllMay most came → (at : ℕ) (p : ℕ × LinkState) → slice_get (admitted came) at ≡ Some p → p.0 ≡ most
admitted_may most [] may at p is = absurd (none-some p is)
admitted_may most (a ∷ came) may at p is =
    admitted_one most a came a.is_admitted (may 0 a refl) (admitted_may most came (λ k c there. may (suc k) c there)) at p is

-- the door keeps it, and so may each link that came
abbrev pub KeepsMost : Admission → Admission → List Arrival → Type 0
KeepsMost old new came = (new.greatest ≡ old.greatest) × AllMay old.greatest came

opens_most : {is_quiet goes_on : Bool} {door later : Admission} {old new : BooksState} {before after : WorkEnd}
    → (opens : Opens is_quiet door later old new before after goes_on) → KeepsMost door later (came_in opens)
opens_most (of_link {door = door} lets wakes) = (refl, one_came (record { most = door.greatest; state = lets.link; is_admitted = is_first lets.either }))
opens_most {door = door} (none_now nothing) = (refl, none_came door.greatest)
opens_most {door = door} (none_more some nothing) = (refl, none_came door.greatest)
opens_most {door = door} (over none) = (refl, none_came door.greatest)

both_most : (a b c : Admission) (xs ys : List Arrival) → KeepsMost a b xs → KeepsMost b c ys → KeepsMost a c (xs ++ ys)
both_most a b c xs ys f g = (g.0 ∙ f.0, all_both a.greatest xs ys f.1 (subst (λ (n : ℕ). AllMay n ys) f.0 g.1))

came_most : (count : ℕ) (old new : Admission × BooksState × WorkEnd) → (came : Repeats LinkCame count old new) → KeepsMost old.0 new.0 (all_came_in came)
came_most total old new none_yet = (refl, none_came old.0.greatest)
came_most total old new (one_more {count = count} {mid = mid} front last) =
    both_most old.0 mid.0 new.0 (all_came_in front) (came_in last.opens) (came_most count old mid front) (opens_most last.opens)

pub all_most : {goes_on : Bool} {door later : Admission} {old new : BooksState} {before after : WorkEnd}
    → (opens : OpensForAll door later old new before after goes_on) → KeepsMost door later (came_between opens)
all_most {door = door} {later = later} {old = old} {new = new} {before = before} {after = after} (as_many came) = came_most 32 (door, old, before) (later, new, after) came
all_most {door = door} {later = later} {old = old} {before = before} (then_none {count = count} {last = last} {between = between} {mid = mid} few came opens none) =
    both_most door last later (all_came_in came) (came_in opens) (came_most count (door, old, before) (last, between, mid) came) (opens_most opens)

pub since_most : {K : Type 0} (hash_of : K → List ℕ → ℕ) (may_give : ℕ → Type 0) (count : ℕ) (old new : WorkState K)
    → (works : Repeats (WorksOn hash_of may_give) count old new) → KeepsMost old.door new.door (came_since hash_of may_give works)
since_most hash_of may_give total old new none_yet = (refl, none_came old.door.greatest)
since_most hash_of may_give total old new (one_more {count = count} {mid = mid} front last) =
    both_most old.door mid.door new.door (came_since hash_of may_give front) (came_between last.opens) (since_most hash_of may_give count old mid front) (all_most last.opens)
