-- What the content of buckets has.
use Rattle.std.proofs.Common.{◌≡◌, ℕ, zero, suc, ◌+◌, ◌↔◌, true, false, cond, List, [], ◌∷◌, ◌++◌, Option, Some, None, is_some, length, get_or, refl}
use Rattle.std.proofs.Common.{sym, ap, ◌∙◌, arith, ⊎_elim}
use Rattle.std.proofs.lemmas.Bool.{cases_Bool}
use Rattle.std.proofs.lemmas.Option.{none-some}
use Rattle.std.specs.Option.{option_or}
use Rattle.std.specs.Cmp.Lexicographic.{nat_list_cmp_total}
use Rattle.std.specs.FinMap.{get, get-empty, insert, len, len-empty, len-insert}
use Rattle.mc_hop.specs.Cells.{filled}
use Rattle.mc_hop.specs.Tables.{AreApart, HasEntry, IsAbsent}
use Rattle.mc_hop.specs.Contents.{AreDisjoint, content}
use Rattle.mc_hop.proofs.ListLemmas.{filled_inside, in_first, in_second, in_one, same_Some}
use Rattle.mc_hop.proofs.ContentLemmas.{Map, after_insert, alike, head_of, key, none_more, not_found, order, same, same_key, tail_of, inserts}
use Rattle.mc_hop.proofs.ContentLemmas.{content-put, content-remove, content-back, content-over}

-- an option or another
or_some : {X : Type 0} (o p : Option X) (x : X) → o ≡ Some x → option_or o p ≡ Some x
or_some o p x e = ap (λ r. option_or r p) e

or_none : {X : Type 0} (o p : Option X) → o ≡ None → option_or o p ≡ p
or_none o p e = ap (λ r. option_or r p) e

same_options : {X : Type 0} (o p : Option X) → ((x : X) → o ≡ Some x → p ≡ Some x) → ((x : X) → p ≡ Some x → o ≡ Some x) → o ≡ p
same_options None None to from = refl
same_options None (Some y) to from = from y refl
same_options (Some x) p to from = sym (to x refl)

module _ {X : Type 0} (hash_of : X → ℕ) (key_of : X → List ℕ) where
  abbrev map_of : List (Option X) → Map X
  map_of = content hash_of key_of

  abbrev its : X → List ℕ
  its = key hash_of key_of

  pub entry_there : (items : List (Option X)) (q : List ℕ) (x : X) → get (map_of items) q ≡ Some x → (q ≡ hash_of x ∷ key_of x) × HasEntry items x
  entry_there [] q x e = absurd (none-some x (sym (get-empty order q) ∙ e))
  entry_there (None ∷ items) q x e = let r = entry_there items q x e in (r.0, (suc r.1.0, r.1.1))
  entry_there (Some y ∷ items) q x e =
      elim (same q (its y)) as (λ b. same q (its y) ≡ b → cond b (Some y) (get (map_of items) q) ≡ Some x → (q ≡ its x) × HasEntry (Some y ∷ items) x) [
        | true ↦ λ t h. (same_key q (its y) t ∙ ap its (same_Some y x h), (0, h))
        | false ↦ λ t h. let r = entry_there items q x h in (r.0, (suc r.1.0, r.1.1))
      ] refl (sym (after_insert (map_of items) (its y) y q) ∙ e)

  some_by : (items : List (Option X)) (at : ℕ) (x : X) → get_or items at None ≡ Some x → get (map_of items) (its x) ≡ None → ⊥
  some_by [] at x e n = none-some x e
  some_by (None ∷ items) zero x e n = none-some x e
  some_by (None ∷ items) (suc at) x e n = some_by items at x e n
  some_by (Some y ∷ items) zero x e n = (none_more hash_of key_of items y (its x) n).0 (ap its (sym (same_Some y x e)))
  some_by (Some y ∷ items) (suc at) x e n = some_by items at x e (none_more hash_of key_of items y (its x) n).1

  pub entry_found : (items : List (Option X)) (x : X) → AreApart hash_of key_of items → HasEntry items x → get (map_of items) (hash_of x ∷ key_of x) ≡ Some x
  entry_found items x apart has =
      elim (get (map_of items) (its x)) as (λ o. get (map_of items) (its x) ≡ o → o ≡ Some x) [
        | None ↦ λ e. absurd (some_by items has.0 x has.1 e)
        | Some y ↦ λ e.
            let r = entry_there items (its x) y e in
            sym r.1.1 ∙ ap (λ (n : ℕ). get_or items n None) (sym (apart has.0 r.1.0 x y has.1 r.1.1 (head_of r.0) (tail_of r.0))) ∙ has.1
      ] refl

  pub absent_of : (items : List (Option X)) (hash : ℕ) (k : List ℕ) → get (map_of items) (hash ∷ k) ≡ None → IsAbsent hash_of key_of items hash k
  absent_of items hash k e at is = some_by items at is.entry is.there (ap (get (map_of items)) (λ i. is.same_hash i ∷ is.same_key i) ∙ e)

  pub entry_absent : (items : List (Option X)) (hash : ℕ) (k : List ℕ) → IsAbsent hash_of key_of items hash k ↔ (get (map_of items) (hash ∷ k) ≡ None)
  entry_absent items hash k = (not_found hash_of key_of items hash k, absent_of items hash k)

  found_too : (items others : List (Option X)) → AreApart hash_of key_of others → ((x : X) → HasEntry items x → HasEntry others x) → (q : List ℕ) (x : X)
      → get (map_of items) q ≡ Some x → get (map_of others) q ≡ Some x
  found_too items others apart to q x e = let r = entry_there items q x e in ap (get (map_of others)) r.0 ∙ entry_found others x apart (to x r.1)

  pub same_entries : (items others : List (Option X)) → AreApart hash_of key_of items → AreApart hash_of key_of others → ((x : X) → HasEntry items x ↔ HasEntry others x) → map_of items ≡ map_of others
  same_entries items others apart apart_others both =
      alike _ _ (λ q. same_options _ _ (found_too items others apart_others (λ x. (both x).0) q) (found_too others items apart (λ x. (both x).1) q))

  pub no_entries : (items : List (Option X)) → filled items ≡ 0 → map_of items ≡ map_of []
  no_entries [] e = refl
  no_entries (None ∷ items) e = no_entries items e
  no_entries (Some x ∷ items) e = absurd (omega (arith, e))

  apart_rest : (o : Option X) (items : List (Option X)) → AreApart hash_of key_of (o ∷ items) → AreApart hash_of key_of items
  apart_rest o items apart at other x y e f hashes keys = omega (arith, apart (suc at) (suc other) x y e f hashes keys)

  pub many_entries : (items : List (Option X)) → AreApart hash_of key_of items → len (map_of items) ≡ filled items
  many_entries [] apart = len-empty order X
  many_entries (None ∷ items) apart = many_entries items (apart_rest None items apart)
  many_entries (Some x ∷ items) apart =
      let fresh : IsAbsent hash_of key_of items (hash_of x) (key_of x) = λ at is. omega (arith, apart zero (suc at) x is.entry refl is.there (sym is.same_hash) (sym is.same_key)) in
      len-insert nat_list_cmp_total (map_of items) (its x) x
      ∙ ap (λ (o : Option X). cond (is_some o) (len (map_of items)) (len (map_of items) + 1))
      (not_found hash_of key_of items (hash_of x) (key_of x) fresh)
      ∙ ap (λ (n : ℕ). n + 1) (many_entries items (apart_rest (Some x) items apart))

  -- ---- two lists, one after the other

  more_joined : (xs ys : List (Option X)) (x : X) (q : List ℕ) → get (map_of (xs ++ ys)) q ≡ option_or (get (map_of xs) q) (get (map_of ys) q)
      → get (map_of (Some x ∷ xs ++ ys)) q ≡ option_or (get (map_of (Some x ∷ xs)) q) (get (map_of ys) q)
  more_joined xs ys x q e =
      let first = or_some (get (map_of (Some x ∷ xs)) q) (get (map_of ys) q) x in
      grind (arith, inserts, cases_Bool (same q (its x)))

  pub get_joined : (xs ys : List (Option X)) (q : List ℕ) → get (map_of (xs ++ ys)) q ≡ option_or (get (map_of xs) q) (get (map_of ys) q)
  get_joined [] ys q = sym (or_none _ _ (get-empty order q))
  get_joined (None ∷ xs) ys q = get_joined xs ys q
  get_joined (Some x ∷ xs) ys q = more_joined xs ys x q (get_joined xs ys q)

  pub joined_parts : (xs ys zs others : List (Option X)) → map_of xs ≡ map_of zs → map_of ys ≡ map_of others → map_of (xs ++ ys) ≡ map_of (zs ++ others)
  joined_parts xs ys zs others first second =
      alike (map_of (xs ++ ys)) (map_of (zs ++ others)) (λ q. get_joined xs ys q ∙ (λ i. option_or (get (first i) q) (get (second i) q)) ∙ sym (get_joined zs others q))

  pub joined_first : (xs ys zs : List (Option X)) (p : List ℕ) (x : X) → map_of zs ≡ insert (map_of xs) p x → map_of (zs ++ ys) ≡ insert (map_of (xs ++ ys)) p x
  joined_first xs ys zs p x put =
      alike _ _ (λ q.
      let first = or_some (get (map_of zs) q) (get (map_of ys) q) x in
      grind (arith, inserts, cases_Bool (same q p), get_joined zs ys q, get_joined xs ys q, ap (λ (m : Map X). get m q) put))

  pub joined_second : (xs ys zs : List (Option X)) (p : List ℕ) (x : X) → get (map_of xs) p ≡ None → map_of zs ≡ insert (map_of ys) p x → map_of (xs ++ zs) ≡ insert (map_of (xs ++ ys)) p x
  joined_second xs ys zs p x none put =
      alike _ _ (λ q.
      let second = or_none (get (map_of xs) q) (get (map_of zs) q) in
      grind (arith, inserts, cases_Bool (same q p), same_key q p, get_joined xs zs q, get_joined xs ys q, ap (λ (m : Map X). get m q) put))

  pub apart_parts : (xs ys : List (Option X)) → AreApart hash_of key_of (xs ++ ys) → AreApart hash_of key_of xs × AreApart hash_of key_of ys × AreDisjoint (map_of xs) (map_of ys)
  apart_parts xs ys apart = (
    λ at other x y e f. apart at other x y (in_first xs ys at x e) (in_first xs ys other y f),
    λ at other x y e f hashes keys. omega (arith, apart (length xs + at) (length xs + other) x y (in_second xs ys at x e) (in_second xs ys other y f) hashes keys),
    λ q x y e f.
        let r = entry_there xs q x e in
        let s = entry_there ys q y f in
        let one = apart r.1.0 (length xs + s.1.0) x y (in_first xs ys r.1.0 x r.1.1) (in_second xs ys s.1.0 y s.1.1) (head_of (sym r.0 ∙ s.0)) (tail_of (sym r.0 ∙ s.0)) in
        omega (arith, filled_inside xs r.1.0 x r.1.1),
  )

  pub apart_joined : (xs ys : List (Option X)) → AreApart hash_of key_of xs × AreApart hash_of key_of ys × AreDisjoint (map_of xs) (map_of ys) → AreApart hash_of key_of (xs ++ ys)
  apart_joined xs ys parts at other x y e f hashes keys =
      let cross = λ (n m : ℕ) (u v : X) (a : get_or xs n None ≡ Some u) (b : get_or ys m None ≡ Some v) (is : its u ≡ its v).
      parts.2 (its u) u v (entry_found xs u parts.0 (n, a)) (ap (get (map_of ys)) is ∙ entry_found ys v parts.1 (m, b)) in
      ⊎_elim (λ a. ⊎_elim (λ b. parts.0 at other x y a b hashes keys) (λ b. absurd (cross at b.0 x y a b.2 (λ i. hashes i ∷ keys i))) (in_one xs ys other y f))
      (λ a. ⊎_elim (λ b. absurd (cross other a.0 y x b a.2 (λ i. sym hashes i ∷ sym keys i))) (λ b. omega (arith, a.1, b.1, parts.1 a.0 b.0 x y a.2 b.2 hashes keys)) (in_one xs ys other y f))
      (in_one xs ys at x e)

  pub are_apart : (xs ys : List (Option X)) → AreApart hash_of key_of (xs ++ ys) ↔ (AreApart hash_of key_of xs × AreApart hash_of key_of ys × AreDisjoint (map_of xs) (map_of ys))
  are_apart xs ys = (apart_parts xs ys, apart_joined xs ys)

-- the clauses of the laws, but for those that go both ways
pub ruleset entry_rules = (entry_found, entry_there, same_entries, no_entries)

pub ruleset change_rules = (content-put, content-remove, content-back, content-over)

pub ruleset list_rules = (get_joined, joined_parts, joined_first, joined_second)
