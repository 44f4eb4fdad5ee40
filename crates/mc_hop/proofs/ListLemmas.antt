-- Lists by index: what a read finds after a list was set at one place, pushed, joined with another, or had one taken out.
use Rattle.std.proofs.Common.{◌≡◌, ◌≢◌, ℕ, zero, suc, ◌+◌, ◌-◌, ◌<◌, ◌⊎◌, inl, inr, List, [], ◌∷◌, ◌++◌, Option, Some, None, is_some, true, map, replicate, length, get_or, set}
use Rattle.std.proofs.Common.{refl, ap, ◌∙◌, arith, ⊎_elim}
use Rattle.std.specs.Prelude.{slice_get}
use Rattle.std.proofs.lemmas.Option.{none-some, slice_get-get_or}
use Rattle.std.proofs.lemmas.List.{length-set, length-append, get_or-set_other, get_or_append_left, get_or-append-add, get_or_push}
use Rattle.std.proofs.lemmas.Grind.{get_or-set_at}
use Rattle.mc_hop.specs.Links.{IsSwapped}

-- what `grind` wants to know of reads
pub ruleset reads = (get_or-set_at, get_or-set_other, get_or_append_left, get_or_push, length-set, length-append)

pub same_Some : {X : Type 0} (x y : X) → Some x ≡ Some y → x ≡ y
same_Some x y e = cc

-- what stands in a bucket that has an entry
pub entry_of : {X : Type 0} (o : Option X) → is_some o ≡ true → (x : X) × (o ≡ Some x)
entry_of None e = cc
entry_of (Some x) e = (x, refl)

-- a bucket that has an entry is there
pub filled_inside : {X : Type 0} (items : List (Option X)) (at : ℕ) (x : X) → get_or items at None ≡ Some x → at < length items
filled_inside [] at x e = absurd (none-some x e)
filled_inside (o ∷ items) zero x e = omega arith
filled_inside (o ∷ items) (suc at) x e = omega (arith, filled_inside items at x e)

-- what a bucket that has an entry had before one was set
pub stood : {X : Type 0} (items : List (Option X)) (at k : ℕ) (o : Option X) (y : X) → get_or (set items at o) k None ≡ Some y → ((k ≡ at) × (o ≡ Some y)) ⊎ ((k ≢ at) × (get_or items k None ≡ Some y))
stood [] at k o y e = absurd (none-some y e)
stood (x ∷ items) zero zero o y e = inl (refl, e)
stood (x ∷ items) zero (suc k) o y e = inr ((λ d. omega arith), e)
stood (x ∷ items) (suc at) zero o y e = inr ((λ d. omega arith), e)
stood (x ∷ items) (suc at) (suc k) o y e = ⊎_elim (λ a. inl (ap suc a.0, a.1)) (λ a. inr ((λ d. a.0 (omega arith)), a.1)) (stood items at k o y e)

pub some_there : {X : Type 0} (xs : List X) (i : ℕ) → i < length xs → (x : X) × (slice_get xs i ≡ Some x)
some_there [] i l = absurd (omega arith)
some_there (x ∷ xs) zero l = (x, refl)
some_there (x ∷ xs) (suc i) l = some_there xs i (omega arith)

pub get-push : {X : Type 0} (xs : List X) (y : X) (i : ℕ) → i < length xs → slice_get (xs ++ y ∷ []) i ≡ slice_get xs i
get-push xs y i l = grind (arith, reads, slice_get-get_or (xs ++ y ∷ []) i y, slice_get-get_or xs i y)

pub get-push_last : {X : Type 0} (xs : List X) (y : X) → slice_get (xs ++ y ∷ []) (length xs) ≡ Some y
get-push_last xs y = grind (arith, reads, slice_get-get_or (xs ++ y ∷ []) (length xs) y)

-- of a list of which the item at a place was taken out
module _ {X : Type 0} (old new : List X) (at : ℕ) (swap : IsSwapped old new at) where
  pub get-swapped : at < length new → slice_get new at ≡ slice_get old (length new)
  get-swapped l = let x = (some_there new at l).0 in grind (arith, slice_get-get_or new at x, slice_get-get_or old (length new) x, swap.last x, swap.shorter)

  pub get-others : (i : ℕ) → i ≢ at → i < length new → slice_get new i ≡ slice_get old i
  get-others i d l = let x = (some_there new i l).0 in grind (arith, slice_get-get_or new i x, slice_get-get_or old i x, swap.others i x, swap.shorter)

-- what `swap_remove` says of each place
pub swapped : {X : Type 0} {old new : List X} {p old_len new_len : ℕ} → old_len ≡ length old → new_len ≡ length new → new_len + 1 ≡ old_len
    → ((d : X) → p + 1 < old_len → get_or new p d ≡ get_or old (old_len - 1) d) × ((k : ℕ) (d : X) → k ≢ p → k + 1 < old_len → get_or new k d ≡ get_or old k d) → IsSwapped old new p
swapped {X} {old} {new} {p} o n less by = record {
  shorter = omega arith;
  last = λ d l. by.0 d (omega arith) ∙ ap (λ (m : ℕ). get_or old (m - 1) d) o;
  others = λ k d apart l. by.1 k d apart (omega arith);
}

pub map-replicate : {A B : Type 0} (f : A → B) (n : ℕ) (a : A) → map f (replicate n a) ≡ replicate n (f a)
map-replicate f zero a = refl
map-replicate {B = B} f (suc n) a = ap (λ (l : List B). f a ∷ l) (map-replicate f n a)

pub get-replicate : {A : Type 0} (n i : ℕ) (a : A) → get_or (replicate n a) i a ≡ a
get-replicate zero i a = refl
get-replicate (suc n) zero a = refl
get-replicate (suc n) (suc i) a = get-replicate n i a

-- ---- one list behind another

pub in_one : {X : Type 0} (xs ys : List (Option X)) (at : ℕ) (x : X) → get_or (xs ++ ys) at None ≡ Some x → (get_or xs at None ≡ Some x)
    ⊎ ((other : ℕ) × (at ≡ length xs + other) × (get_or ys other None ≡ Some x))
in_one [] ys at x e = inr (at, omega arith, e)
in_one (o ∷ xs) ys zero x e = inl e
in_one (o ∷ xs) ys (suc at) x e = ⊎_elim inl (λ r. inr (r.0, omega (arith, r.1), r.2)) (in_one xs ys at x e)

pub in_first : {X : Type 0} (xs ys : List (Option X)) (at : ℕ) (x : X) → get_or xs at None ≡ Some x → get_or (xs ++ ys) at None ≡ Some x
in_first xs ys at x e = get_or_append_left xs ys None at (filled_inside xs at x e) ∙ e

pub in_second : {X : Type 0} (xs ys : List (Option X)) (at : ℕ) (x : X) → get_or ys at None ≡ Some x → get_or (xs ++ ys) (length xs + at) None ≡ Some x
in_second xs ys at x e = get_or-append-add xs ys at None ∙ e
