-- What a change of one bucket changes in the table's content.
use Rattle.std.proofs.Common.{◌≡◌, ℕ, zero, suc, ◌<◌, ◌⊎◌, inl, inr, Bool, true, cond, List, [], ◌∷◌, Option, Some, None, length, get_or, set, refl, sym, ap, ◌∙◌, arith}
use Rattle.std.proofs.lemmas.Option.{none-some}
use Rattle.std.proofs.lemmas.Bool.{cases_Bool, cond-true, cond-false}
use Rattle.std.proofs.lemmas.Map.Views.{tells_apart}
use Rattle.std.proofs.lemmas.Cmp.{eq_by_cmp_equiv}
use Rattle.std.proofs.lemmas.List.{length-set, set-set, set-get_or, get_or-set_same}
use Rattle.std.specs.Ordering.{nat_cmp, eq_by_cmp}
use Rattle.std.specs.declared.cmp.Ordering.{Ordering}
use Rattle.std.specs.Cmp.Lexicographic.{slice_cmp, nat_list_cmp_total}
use Rattle.std.specs.FinMap.{FinMap, get, insert, remove, get-insert, get-remove, get-empty, same_map, nat_cmp-IsAntisymmetric, slice_cmp-IsAntisymmetric}
use Rattle.mc_hop.specs.Tables.{AreApart, IsAbsent}
use Rattle.mc_hop.specs.Contents.{content}
use Rattle.mc_hop.proofs.ListLemmas.{filled_inside, stood}

abbrev pub order : List ℕ → List ℕ → Ordering
order = slice_cmp nat_cmp

abbrev pub Map : Type 0 → Type 0
Map X = FinMap order X

abbrev pub same : List ℕ → List ℕ → Bool
same = eq_by_cmp order

pub same_key : (p q : List ℕ) → same p q ≡ true → p ≡ q
same_key = tells_apart (slice_cmp-IsAntisymmetric nat_cmp-IsAntisymmetric)

pub same_self : (q : List ℕ) → same q q ≡ true
same_self q = (eq_by_cmp_equiv nat_list_cmp_total).refl q

pub head_of : {x y : ℕ} {xs ys : List ℕ} → x ∷ xs ≡ y ∷ ys → x ≡ y
head_of e = cc

pub tail_of : {x y : ℕ} {xs ys : List ℕ} → x ∷ xs ≡ y ∷ ys → xs ≡ ys
tail_of e = cc

-- ---- maps

module _ {X : Type 0} where
  pub alike : (m n : Map X) → ((q : List ℕ) → get m q ≡ get n q) → m ≡ n
  alike = same_map nat_list_cmp_total (slice_cmp-IsAntisymmetric nat_cmp-IsAntisymmetric)

  pub after_insert : (m : Map X) (q : List ℕ) (x : X) (p : List ℕ) → get (insert m q x) p ≡ cond (same p q) (Some x) (get m p)
  after_insert m q x p = get-insert nat_list_cmp_total m q x p

pub ruleset inserts = (cond-true, cond-false, after_insert)

module _ {X : Type 0} where
  -- what an insert answers: the new entry at its key, and what was there at each other
  pub at_its_key : (m : Map X) (k : List ℕ) (x : X) → get (insert m k x) k ≡ Some x
  at_its_key m k x = after_insert m k x k ∙ ap (λ (b : Bool). cond b (Some x) (get m k)) (same_self k)

  pub at_a_key : (m : Map X) (k : List ℕ) (x : X) (q : List ℕ) → (q ≡ k) ⊎ (get (insert m k x) q ≡ get m q)
  at_a_key m k x q =
      elim (cases_Bool (same q k)) [ (inl e) ↦ inl (same_key q k e) | (inr e) ↦ inr (after_insert m k x q ∙ cond-false (same q k) (Some x) (get m q) e) ]

  pub insert_again : (m : Map X) (q : List ℕ) (x y : X) → insert (insert m q x) q y ≡ insert m q y
  insert_again m q x y = alike _ _ (λ p. grind (arith, inserts, cases_Bool (same p q)))

  -- an entry of a new key is put in and taken out
  pub remove-insert : (m : Map X) (q : List ℕ) (x : X) → get m q ≡ None → remove (insert m q x) q ≡ m
  remove-insert m q x none = alike _ _ (λ p. grind (arith, inserts, cases_Bool (same p q), get-remove nat_list_cmp_total (insert m q x) q p, same_key p q))

  insert_swap : (m : Map X) (p q : List ℕ) (x y : X) → (p ≡ q → ⊥) → insert (insert m p x) q y ≡ insert (insert m q y) p x
  insert_swap m p q x y apart =
      alike _ _ (λ r. grind (arith, inserts, cases_Bool (same r p), cases_Bool (same r q), same_key r p, same_key r q))

module _ {X : Type 0} (hash_of : X → ℕ) (key_of : X → List ℕ) where
  abbrev pub key : X → List ℕ
  key x = hash_of x ∷ key_of x

  abbrev pub map_of : List (Option X) → Map X
  map_of = content hash_of key_of

  absent_rest : (o : Option X) (items : List (Option X)) (hash : ℕ) (k : List ℕ) → IsAbsent hash_of key_of (o ∷ items) hash k → IsAbsent hash_of key_of items hash k
  absent_rest o items hash k absent at is = absent (suc at) (record { entry = is.entry; there = is.there; same_hash = is.same_hash; same_key = is.same_key })

  absent_first : (x : X) (items : List (Option X)) (hash : ℕ) (k : List ℕ) → IsAbsent hash_of key_of (Some x ∷ items) hash k → get (map_of items) (hash ∷ k) ≡ None
      → get (map_of (Some x ∷ items)) (hash ∷ k) ≡ None
  absent_first x items hash k absent none =
      let apart : hash_of x ∷ key_of x ≡ hash ∷ k → ⊥ = λ e. absent 0 (record { entry = x; there = refl; same_hash = head_of e; same_key = tail_of e }) in
      grind (arith, inserts, cases_Bool (same (hash ∷ k) (key x)), same_key (hash ∷ k) (key x))

  -- a key that no bucket has
  pub not_found : (items : List (Option X)) (hash : ℕ) (k : List ℕ) → IsAbsent hash_of key_of items hash k → get (map_of items) (hash ∷ k) ≡ None
  not_found [] hash k absent = get-empty order (hash ∷ k)
  not_found (None ∷ items) hash k absent = not_found items hash k (absent_rest None items hash k absent)
  not_found (Some x ∷ items) hash k absent = absent_first x items hash k absent (not_found items hash k (absent_rest (Some x) items hash k absent))

  pub none_more : (items : List (Option X)) (y : X) (q : List ℕ) → get (map_of (Some y ∷ items)) q ≡ None → (q ≡ key y → ⊥) × (get (map_of items) q ≡ None)
  none_more items y q none = (λ e. grind (arith, inserts, same_self q), grind (arith, inserts, cases_Bool (same q (key y))))

  -- an entry of a new key in an empty bucket
  pub content-put : (items : List (Option X)) (at : ℕ) (x : X) → at < length items → get_or items at None ≡ None → get (map_of items) (hash_of x ∷ key_of x) ≡ None
      → map_of (set items at (Some x)) ≡ insert (map_of items) (hash_of x ∷ key_of x) x
  content-put [] at x l e none = absurd (omega arith)
  content-put (None ∷ items) zero x l e none = refl
  content-put (Some y ∷ items) zero x l e none = absurd (none-some y (sym e))
  content-put (None ∷ items) (suc at) x l e none = content-put items at x (omega arith) e none
  content-put (Some y ∷ items) (suc at) x l e none =
      let more = none_more items y (key x) none in
      ap (λ (m : Map X). insert m (key y) y) (content-put items at x (omega arith) e more.1) ∙ insert_swap (map_of items) (key x) (key y) x y more.0

  -- where the entry of a bucket is taken out no bucket has its key
  pub gone_after : (items : List (Option X)) (at : ℕ) (x : X) → AreApart hash_of key_of items → get_or items at None ≡ Some x → IsAbsent hash_of key_of (set items at None) (hash_of x) (key_of x)
  gone_after items at x apart there p is = grind (arith, stood items at p None is.entry is.there, apart p at is.entry x)

  -- a bucket whose entry was taken out gets another
  refill : (items : List (Option X)) (at : ℕ) (x y : X) → AreApart hash_of key_of items → get_or items at None ≡ Some x → key x ≡ key y
      → map_of (set items at (Some y)) ≡ insert (map_of (set items at None)) (key y) y
  refill items at x y apart there is =
      let inside = filled_inside items at x there in
      ap map_of (sym (set-set items at None (Some y)))
      ∙ content-put (set items at None) at y (omega (arith, length-set items at None)) (get_or-set_same items at None None inside)
      (ap (get (map_of (set items at None))) (sym is) ∙ not_found (set items at None) _ _ (gone_after items at x apart there))

  -- put back, it makes the content that was there
  pub content-back : (items : List (Option X)) (at : ℕ) (x : X) → AreApart hash_of key_of items → get_or items at None ≡ Some x
      → map_of items ≡ insert (map_of (set items at None)) (hash_of x ∷ key_of x) x
  content-back items at x apart there = ap map_of (sym (ap (set items at) (sym there) ∙ set-get_or items at None)) ∙ refill items at x x apart there refl

  pub content-remove : (items : List (Option X)) (at : ℕ) (x : X) → AreApart hash_of key_of items → get_or items at None ≡ Some x
      → map_of (set items at None) ≡ remove (map_of items) (hash_of x ∷ key_of x)
  content-remove items at x apart there =
      sym (ap (λ (m : Map X). remove m (key x)) (content-back items at x apart there)
      ∙ remove-insert (map_of (set items at None)) (key x) x (not_found (set items at None) _ _ (gone_after items at x apart there)))

  -- another entry of the same hash and key in its place
  pub content-over : (items : List (Option X)) (at : ℕ) (x y : X) → AreApart hash_of key_of items → get_or items at None ≡ Some x → hash_of y ≡ hash_of x → key_of y ≡ key_of x
      → map_of (set items at (Some y)) ≡ insert (map_of items) (hash_of x ∷ key_of x) y
  content-over items at x y apart there same_hash same_keys =
      refill items at x y apart there (λ i. sym same_hash i ∷ sym same_keys i)
      ∙ (λ i. insert (map_of (set items at None)) (same_hash i ∷ same_keys i) y)
      ∙ sym (ap (λ (m : Map X). insert m (key x) y) (content-back items at x apart there) ∙ insert_again (map_of (set items at None)) (key x) x y)
