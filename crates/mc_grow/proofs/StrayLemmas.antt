-- A stray goes out, to the table or for good, and the strays are tried one by one.
use Rattle.mc_grow.proofs.Words.{◌≡◌, ℕ, zero, suc, ◌+◌, ◌-◌, ◌<◌, ◌≤◌, inl, inr, Bool, true, false, if◌then◌else◌, List, [], ◌∷◌, ◌++◌, map, length, take, drop, set, Option, Some, None}
use Rattle.mc_grow.proofs.Words.{add-one, get_or, refl, sym, ap, subst, ◌∙◌, arith, none-some, cases_eq, append-nil, length-map, take_all, drop-cons, take-suc, swap_remove, get, insert}
use Rattle.mc_grow.proofs.Words.{IsSwapped, AreApart, content, reads, apart_parts, same_entries, HoldsAll, IsTried, AreAdded, AreTried, IsAdded, IsCrowded, Side, cells_of, home_in}
use Rattle.mc_grow.specs.Adding.{NoneNear}
use Rattle.std.proofs.lemmas.List.Sorted.{IsPermutation-pop_more, IsPermutation-refl, IsPermutation-swap_remove, length_permutation}
use Rattle.std.proofs.Math.ListN.{drop_of_length-le}
use Rattle.std.specs.List.Sorted.{IsPermutation}
use Rattle.mc_grow.proofs.PartLemmas.{less_at, less_other, some_stray, stood_less, stray_inside, stray_is, stray_there}
use Rattle.mc_grow.proofs.MoveLemmas.{IsOut, moved_back, new_to_each, one_added, out_second, out_taken}

-- near a crowded home no bucket is empty
none_near : {X : Type 0} (hash_of : X → ℕ) (k : ℕ) (items : List (Option X)) (home : ℕ) → IsCrowded hash_of k items home → NoneNear items home
none_near hash_of k items home (inl none) at near = none at near.low (omega (arith, near.high)) near.empty
none_near hash_of k items home (inr stuck) at near = stuck.2 at near.low (omega (arith, near.high, stuck.1.low)) near.empty

-- ---- a stray goes out

module _ {X : Type 0} (hash_of : X → ℕ) (key_of : X → List ℕ) (strays less : List X) (at : ℕ) (x : X) (swap : IsSwapped strays less at) (below : at < length strays) (is : x ≡ get_or strays at x) where
  apart_less : AreApart hash_of key_of (map Some strays) → AreApart hash_of key_of (map Some less)
  apart_less apart p q y z e f hashes keys =
      let first = stood_less strays less at swap p y e in
      let second = stood_less strays less at swap q z f in
      grind (arith, stray_inside less p y e, stray_inside less q z f, apart p q y z, apart p (length less) y z, apart (length less) q y z)

  pub stray_out : AreApart hash_of key_of (map Some strays) → IsOut hash_of key_of x (map Some strays) (map Some less)
  stray_out apart =
      let out = out_taken hash_of key_of (map Some strays) at x apart (stray_there strays at x below is) in
      let same =
      same_entries hash_of key_of (map Some less) (set (map Some strays) at None) (apart_less apart) out.apart (λ y. (
        λ has.
            elim (stood_less strays less at swap has.0 y has.1) [
              | (inl a) ↦ (has.0, grind (arith, reads))
              | (inr b) ↦ (length less, grind (arith, reads, stray_inside less has.0 y has.1))
            ],
        λ has.
            elim (cases_eq has.0 (length less)) [
              | (inl e) ↦ (at, grind (arith, reads, has.1, cases_eq has.0 at, length-map strays Some, less_at strays less at swap, swap.shorter, none-some y))
              | (inr d) ↦ (has.0, grind (arith, reads, has.1, cases_eq has.0 at, length-map strays Some, less_other strays less at swap has.0, swap.shorter, none-some y, stray_inside strays has.0 y))
            ],
      )) in
      record {
        back = out.back ∙ (λ i. insert (sym same i) (hash_of x ∷ key_of x) x);
        gone = (λ i. get (same i) (hash_of x ∷ key_of x)) ∙ out.gone;
        apart = apart_less apart;
      }

  pub stray_is_new : (items : List (Option X)) → AreApart hash_of key_of (items ++ map Some strays) → get (content hash_of key_of items) (hash_of x ∷ key_of x) ≡ None
  stray_is_new items apart =
      (new_to_each hash_of key_of items (map Some less) (hash_of x ∷ key_of x)
      (out_second hash_of key_of items (map Some strays) (map Some less) x apart (stray_out (apart_parts hash_of key_of items (map Some strays) apart).1)).gone).0

  -- it goes to the table
  pub stray_put : (items others : List (Option X)) → AreApart hash_of key_of (items ++ map Some strays) → AreApart hash_of key_of others
      → content hash_of key_of others ≡ insert (content hash_of key_of items) (hash_of x ∷ key_of x) x → HoldsAll hash_of key_of (items ++ map Some strays) (others ++ map Some less)
  stray_put items others apart own put =
      moved_back hash_of key_of items (map Some strays) (map Some less) others x apart (stray_out (apart_parts hash_of key_of items (map Some strays) apart).1) (record { come = put; apart = own })

-- a stray stays without a search, as no bucket can be had near its home
pub stays_crowded : {X : Type 0} (hash_of : X → ℕ) (key_of : X → List ℕ) (k at home : ℕ) (side : Side X) → at < length side.strays
    → ((x : X) → x ≡ get_or side.strays at x → home ≡ home_in k (hash_of x)) → IsCrowded hash_of k side.items home → IsTried hash_of key_of k at false side side
stays_crowded {X} hash_of key_of k at home side inside its crowded =
    let x = some_stray side.strays at inside in
    let there : x.0 ≡ get_or side.strays at x.0 = sym (stray_is side.strays at x.0 x.0 x.1) in
    let here = subst (IsCrowded hash_of k side.items) (its x.0 there) crowded in
    record { entry = x.0; inside = inside; there = there; outcome = (refl, none_near hash_of k side.items (home_in k (hash_of x.0)) here, here, refl) }

-- its home is crowded, once it was tried and stays
pub tried_crowded : {X : Type 0} (hash_of : X → ℕ) (key_of : X → List ℕ) (k at home : ℕ) (old new : Side X)
    → ((x : X) → x ≡ get_or old.strays at x → home ≡ home_in k (hash_of x)) → IsTried hash_of key_of k at false old new → IsCrowded hash_of k new.items home
tried_crowded hash_of key_of k at home old new its one = subst (IsCrowded hash_of k new.items) (sym (its one.entry one.there)) one.outcome.2

-- ---- the strays are tried

-- what was not tried yet, when a stray of it goes out
swapped_out : {X : Type 0} (xs : List X) (at : ℕ) (x : X) → at < length xs → x ≡ get_or xs at x
    → (take at (swap_remove xs at x) ≡ take at xs) × IsPermutation (drop at xs) (x ∷ drop at (swap_remove xs at x))
swapped_out [] at x l there = absurd (omega arith)
swapped_out (y ∷ ys) zero x l there = (refl, IsPermutation-swap_remove (y ∷ ys) zero x l there)
swapped_out {X} (y ∷ ys) (suc at) x l there =
    let rest = swapped_out ys at x (omega arith) there in
    let is : swap_remove (y ∷ ys) (suc at) x ≡ y ∷ swap_remove ys at x =
    ap (λ (n : ℕ). take n (set (y ∷ ys) (suc at) (get_or (y ∷ ys) n x))) {x = length (y ∷ ys) - 1} {y = suc (length ys - 1)} (omega (arith, l)) in
    (ap (take (suc at)) is ∙ ap (λ (l : List X). y ∷ l) rest.0, subst (λ (l : List X). IsPermutation (drop at ys) (x ∷ drop (suc at) l)) (sym is) rest.1)

-- after so many turns, of which some strays were kept
pub record TriedSoFar {X : Type 0} (hash_of : X → ℕ) (key_of : X → List ℕ) (k turn kept : ℕ) (start side : Side X) : Type 0 where
  pub tried : List X
  pub each : IsPermutation start.strays (tried ++ drop kept side.strays)
  pub many : turn + (length side.strays - kept) ≡ length start.strays
  pub inside : kept ≤ length side.strays
  pub added : AreAdded hash_of key_of k tried (record start { strays = [] }) (record side { strays = take kept side.strays })
  pub held : HoldsAll hash_of key_of (cells_of start) (cells_of side)

-- a turn more, in which an entry was added to the table and the strays that were kept
tried_step : {X : Type 0} {hash_of : X → ℕ} {key_of : X → List ℕ} {k turn kept : ℕ} {start side : Side X} (kept_now : ℕ) (side_now : Side X) (x : X)
    → TriedSoFar hash_of key_of k turn kept start side
    → IsPermutation (drop kept side.strays) (x ∷ drop kept_now side_now.strays)
    → IsAdded hash_of key_of k x (record side { strays = take kept side.strays }) (record side_now { strays = take kept_now side_now.strays })
    → (kept_now ≤ length side_now.strays) × (length side_now.strays - kept_now + 1 ≡ length side.strays - kept) → HoldsAll hash_of key_of (cells_of side) (cells_of side_now)
    → TriedSoFar hash_of key_of k (turn + 1) kept_now start side_now
tried_step {X} {kept = kept} {start} {side} kept_now side_now x before moves added fewer held = record {
  tried = before.tried ++ (x ∷ []);
  each = IsPermutation-pop_more start.strays before.tried (drop kept side.strays) (drop kept_now side_now.strays) x before.each moves;
  many = omega (arith, before.many, fewer.1);
  inside = fewer.0;
  added = one_added before.tried x (record start { strays = [] }) (record side { strays = take kept side.strays }) (record side_now { strays = take kept_now side_now.strays }) before.added added;
  held = record { same = held.same ∙ before.held.same; apart = held.apart };
}

-- when each had its turn, the strays that were kept are all
pub all_tried : {X : Type 0} (hash_of : X → ℕ) (key_of : X → List ℕ) (k turn kept : ℕ) (start side : Side X) → TriedSoFar hash_of key_of k turn kept start side
    → length start.strays ≤ turn → AreTried hash_of key_of k start side
all_tried {X} hash_of key_of k turn kept start side so_far done =
    let ends : length side.strays ≤ kept = omega (arith, so_far.many, done) in
    record {
      tried = so_far.tried;
      each = subst (λ (l : List X). IsPermutation start.strays l) (ap (λ (l : List X). so_far.tried ++ l) (drop_of_length-le side.strays ends) ∙ append-nil so_far.tried) so_far.each;
      added = subst (λ (l : List X). AreAdded hash_of key_of k so_far.tried (record start { strays = [] }) (record side { strays = l })) (take_all kept side.strays ends) so_far.added;
    }

pub tried_more : {X : Type 0} (hash_of : X → ℕ) (key_of : X → List ℕ) (k turn kept kept_now : ℕ) (put : Bool) (start side side_now : Side X) → TriedSoFar hash_of key_of k turn kept start side
    → IsTried hash_of key_of k kept put side side_now → HoldsAll hash_of key_of (cells_of side) (cells_of side_now) → kept_now ≡ (if put then kept else kept + 1)
    → TriedSoFar hash_of key_of k (turn + 1) kept_now start side_now
tried_more {X} hash_of key_of k turn kept kept_now true start side side_now before one held next =
    let x = one.entry in
    let old = side.strays in
    let out = subst (λ (l : List X). (take kept l ≡ take kept old) × IsPermutation (drop kept old) (x ∷ drop kept l)) (sym one.outcome.2) (swapped_out old kept x one.inside one.there) in
    let fewer = length_permutation old (x ∷ swap_remove old kept x) (IsPermutation-swap_remove old kept x one.inside one.there) in
    subst (λ (n : ℕ). TriedSoFar hash_of key_of k (turn + 1) n start side_now) (sym next) (tried_step kept side_now x before out.1
    (inl (record { had = one.outcome.1; placed = one.outcome.0; strays = out.0 })) (omega (arith, ap length one.outcome.2, fewer), omega (arith, ap length one.outcome.2, fewer)) held)
tried_more {X} hash_of key_of k turn kept kept_now false start side side_now before one held next =
    let x = one.entry in
    let old = side.strays in
    let same : side_now.strays ≡ old = one.outcome.3 in
    let front : drop kept old ≡ x ∷ drop (kept + 1) side_now.strays = rw (add-one, same) (drop-cons old kept x one.inside ∙ ap (λ (y : X). y ∷ drop (suc kept) old) (sym one.there)) in
    let taken : take (kept + 1) side_now.strays ≡ take kept old ++ (x ∷ []) = rw (add-one, same) (take-suc old kept x one.inside ∙ ap (λ (y : X). take kept old ++ (y ∷ [])) (sym one.there)) in
    subst (λ (n : ℕ). TriedSoFar hash_of key_of k (turn + 1) n start side_now) (sym next) (tried_step (kept + 1) side_now x before
    (subst (IsPermutation (drop kept old)) front (IsPermutation-refl (drop kept old))) (inr (record { none_near = one.outcome.1; same = one.outcome.0; full = one.outcome.2; strays = taken }))
    (omega (arith, ap length same), omega (arith, ap length same)) held)
