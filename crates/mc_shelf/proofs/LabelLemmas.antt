-- Entries under their labels, a hash and a key in one list, in one finite map: what stands of one part of them under the keys alone.
use Rattle.mc_shelf.proofs.Common.{[], ◌∙◌, ◌∷◌, ◌≡◌, ap, Bool, cond, cond_both, drop, entries, entries_in, entries_sorted, EntriesAreKeyed, EntryMap, EntryState, eq_by_cmp, Equal, false}
use Rattle.mc_shelf.proofs.Common.{find, FinMap, from_entries, get, get-entries, get-from_entries, Greater, is_eq, is_sorted, Less, List, map, nat_list_cmp_total, None, none-some, Option}
use Rattle.mc_shelf.proofs.Common.{Ordering, refl, same_Some, Some, StandsIn, sym, tied_itself, true, ℕ}
use Rattle.std.proofs.Common.{T, is_lt}
use Rattle.std.specs.FinMap.Entries.{below_all}
use Rattle.mc_protocol.proofs.CountLemmas.{first, second}
use Rattle.mc_protocol.proofs.ItemLemmas.{is_equal}
use Rattle.mc_shelf.proofs.KeyLemmas.{order, same_key}

abbrev pub same : List ℕ → List ℕ → Bool
same = eq_by_cmp order

abbrev Labelled : Type 0
Labelled = List ℕ × EntryState

-- ---- labels

pub same_list : (p q : List ℕ) → same p q ≡ true → p ≡ q
same_list p q e = same_key p q (is_equal (order p q) e)

pub same_itself : (q : List ℕ) → same q q ≡ true
same_itself q = ap is_eq (tied_itself nat_list_cmp_total q)

-- what is nothing that could be named is nothing
pub none_by : {A : Type 0} (o : Option A) → ((x : A) → o ≡ Some x → ⊥) → o ≡ None
none_by None never = refl
none_by (Some x) never = absurd (never x refl)

module _ (m : EntryMap) (keyed : EntriesAreKeyed m) where
  -- an entry stands under its own label
  pub own : (at : List ℕ) (e : EntryState) → get m at ≡ Some e → StandsIn m e
  own at e is = ap (get m) (sym (keyed.labelled at e is)) ∙ is

  pub own_key : (hash : ℕ) (key : List ℕ) (e : EntryState) → get m (hash ∷ key) ≡ Some e → e.key ≡ key
  own_key hash key e is = sym (ap (drop 1) (keyed.labelled (hash ∷ key) e is))

  -- entries of one key have one label, and are one
  pub same_label : (a b : EntryState) → StandsIn m a → StandsIn m b → a.key ≡ b.key → a.hash ∷ a.key ≡ b.hash ∷ b.key
  same_label a b ea eb keys = let hashes = keyed.one_hash a b ea eb keys in λ i. hashes i ∷ keys i

  same_entry : (a b : EntryState) → StandsIn m a → StandsIn m b → a.key ≡ b.key → a ≡ b
  same_entry a b ea eb keys = same_Some a b (sym ea ∙ ap (get m) (same_label a b ea eb keys) ∙ eb)

-- ---- lists of entries in the order of their labels

less : (o : Ordering) → T (is_lt o) → o ≡ Less
less Less p = refl
less Equal p = absurd p
less Greater p = absurd p

rest_none : {A : Type 0} (b : Bool) (x : A) (o : Option A) → cond b (Some x) o ≡ None → o ≡ None
rest_none true x o e = absurd (none-some x (sym e))
rest_none false x o e = e

find_first : (p : Labelled) (es : List Labelled) → find order p.0 (p ∷ es) ≡ Some p.1
find_first p es = ap (λ b. cond b (Some p.1) (find order p.0 es)) (same_itself p.0)

find_below : (q : List ℕ) (es : List Labelled) → T (below_all order q es) → find order q es ≡ None
find_below q [] h = refl
find_below q (p ∷ es) h = ap (λ o. cond (is_eq o) (Some p.1) (find order q es)) (less _ (first _ _ h)) ∙ find_below q es (second _ _ h)

-- what is found behind a lesser label is found with it too
find_later : (p : Labelled) (es : List Labelled) (at : List ℕ) (e : EntryState) → T (below_all order p.0 es) → find order at es ≡ Some e → find order at (p ∷ es) ≡ Some e
find_later p es at e below found =
    cond_both (same at p.0) (Some p.1) (find order at es) (λ o. o ≡ Some e)
    (λ t. absurd (none-some e (sym (find_below p.0 es below) ∙ ap (λ q. find order q es) (sym (same_list at p.0 t)) ∙ found))) (λ t. found)

-- an entry of a list, of this key and with this part
record InList {X : Type 0} (part : EntryState → X) (es : List Labelled) (key : List ℕ) (x : X) : Type 0 where
  at : List ℕ
  entry : EntryState
  there : find order at es ≡ Some entry
  same_key : entry.key ≡ key
  same_part : part entry ≡ x

-- ---- one part of the entries under their keys

-- an entry of a map, of this key and with this part
pub record Held {X : Type 0} (part : EntryState → X) (m : EntryMap) (key : List ℕ) (x : X) : Type 0 where
  pub entry : EntryState
  pub there : get m (entry.hash ∷ key) ≡ Some entry
  pub same_key : entry.key ≡ key
  pub same_part : part entry ≡ x

module _ {X : Type 0} (part : EntryState → X) where
  abbrev pair : EntryState → List ℕ × X
  pair e = (e.key, part e)

  abbrev pairs : List Labelled → List (List ℕ × X)
  pairs es = map pair (map (λ p. p.1) es)

  abbrev pub parts_in : EntryMap → FinMap order X
  parts_in m = from_entries (map pair (entries_in m))

  in_list : (es : List Labelled) → T (is_sorted order es) → (key : List ℕ) (x : X) → find order key (pairs es) ≡ Some x → InList part es key x
  in_list [] h key x found = absurd (none-some x found)
  in_list (p ∷ es) h key x found =
      cond_both (same key p.1.key) (Some (part p.1)) (find order key (pairs es)) (λ o. o ≡ Some x → InList part (p ∷ es) key x)
      (λ t is. record { at = p.0; entry = p.1; there = find_first p es; same_key = sym (same_list key p.1.key t); same_part = same_Some (part p.1) x is })
      (λ t is. let s = in_list es (second _ _ h) key x is in
      record { at = s.at; entry = s.entry; there = find_later p es s.at s.entry (first _ _ h) s.there; same_key = s.same_key; same_part = s.same_part }) found

  not_missed : (es : List Labelled) (at : List ℕ) (e : EntryState) → find order at es ≡ Some e → find order e.key (pairs es) ≡ None → ⊥
  not_missed [] at e found none = none-some e found
  not_missed (p ∷ es) at e found none =
      cond_both (same at p.0) (Some p.1) (find order at es) (λ o. o ≡ Some e → ⊥)
      (λ _ is. let tied : same e.key p.1.key ≡ true = ap (λ (d : EntryState). same e.key d.key) (same_Some p.1 e is) ∙ same_itself e.key in
      none-some (part p.1) (sym none ∙ ap (λ b. cond b (Some (part p.1)) (find order e.key (pairs es))) tied))
      (λ _ is. not_missed es at e is (rest_none (same e.key p.1.key) (part p.1) (find order e.key (pairs es)) none)) found

  module _ (m : EntryMap) (keyed : EntriesAreKeyed m) where
    at_key : (key : List ℕ) → get (parts_in m) key ≡ find order key (pairs (entries m))
    at_key key = get-from_entries nat_list_cmp_total (pairs (entries m)) key

    -- what stands under a key is an entry's
    pub held : (key : List ℕ) (x : X) → get (parts_in m) key ≡ Some x → Held part m key x
    held key x is =
        let s = in_list (entries m) (entries_sorted m) key x (sym (at_key key) ∙ is) in
        let there : get m s.at ≡ Some s.entry = get-entries m s.at ∙ s.there in
        record { entry = s.entry; there = ap (λ q. get m (s.entry.hash ∷ q)) (sym s.same_key) ∙ own m keyed s.at s.entry there; same_key = s.same_key; same_part = s.same_part }

    -- an entry's part stands under its key
    pub part_there : (hash : ℕ) (key : List ℕ) (e : EntryState) → get m (hash ∷ key) ≡ Some e → get (parts_in m) key ≡ Some (part e)
    part_there hash key e is =
        let e_key = own_key m keyed hash key e is in
        elim (get (parts_in m) key) as (λ o. get (parts_in m) key ≡ o → o ≡ Some (part e)) [
          | None ↦ λ none. absurd (not_missed (entries m) (hash ∷ key) e (sym (get-entries m (hash ∷ key)) ∙ is) (sym (at_key e.key) ∙ ap (get (parts_in m)) e_key ∙ none))
          | Some x ↦ λ some.
              let s = held key x some in
              let one : s.entry ≡ e = same_entry m keyed s.entry e (own m keyed (s.entry.hash ∷ key) s.entry s.there) (own m keyed (hash ∷ key) e is) (s.same_key ∙ sym e_key) in
              ap Some (sym s.same_part ∙ ap part one)
        ] refl

    -- nothing stands under a key that no entry has, and under no other
    pub no_part : (key : List ℕ) → ((hash : ℕ) → get m (hash ∷ key) ≡ None) → get (parts_in m) key ≡ None
    no_part key none = none_by _ (λ x is. let s = held key x is in none-some s.entry (sym (none s.entry.hash) ∙ s.there))

    pub no_entry : (key : List ℕ) → get (parts_in m) key ≡ None → (hash : ℕ) → get m (hash ∷ key) ≡ None
    no_entry key none hash = none_by _ (λ e is. none-some (part e) (sym none ∙ part_there hash key e is))

  -- two maps with the same entries of a key have the same under it
  pub part_same : (m n : EntryMap) → EntriesAreKeyed m → EntriesAreKeyed n → (key : List ℕ) → ((hash : ℕ) → get m (hash ∷ key) ≡ get n (hash ∷ key)) → get (parts_in m) key ≡ get (parts_in n) key
  part_same m n km kn key alike = elim (get (parts_in n) key) as (λ o. get (parts_in n) key ≡ o → get (parts_in m) key ≡ o) [
    | None ↦ λ is. no_part m km key (λ hash. alike hash ∙ no_entry n kn key is hash)
    | Some x ↦ λ is.
        let s = held n kn key x is in
        part_there m km s.entry.hash key s.entry (alike s.entry.hash ∙ s.there) ∙ ap Some s.same_part
  ] refl
