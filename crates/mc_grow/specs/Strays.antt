-- The strays of an index: a list, and the order of their hashes and keys, in which a search halves what is left.
use Rattle.std.specs.Prelude.{◌≡◌, ℕ, ◌<◌, ◌≤◌, List, [], ◌∷◌, map, length, slice_index_or, slice_set, refl}
use Rattle.std.specs.Coded.{Coded, code_by, coded×, coded_ℕ, coded_list}
use Rattle.std.specs.Ordering.{nat_cmp}
use Rattle.std.specs.declared.cmp.Ordering.TheVariants.{Less}
use Rattle.std.specs.Cmp.Lexicographic.{slice_cmp}
use Rattle.std.specs.List.{remove}

-- the strays by their numbers, and how many there is room for
pub record StraysState (X : Type 0) : Type 0 where
  pub items : List X
  pub room : ℕ

abbrev pub coded_strays : {X : Type 0} → Coded X → Coded (StraysState X)
coded_strays {X} item =
    code_by (List X × ℕ) (coded× (coded_list item) coded_ℕ)
    (λ s. (s.items, s.room))
    (λ p. record { items = p.0; room = p.1 })
    (λ _. refl)

-- the hash and the key of each, the hash first
abbrev pub keys_in : {X : Type 0} → (X → ℕ) → (X → List ℕ) → List X → List (List ℕ)
keys_in hash_of key_of items = map (λ x. hash_of x ∷ key_of x) items

-- the hash and the key whose number stands at a place of the order
abbrev pub key_by : (keys : List (List ℕ)) (order : List ℕ) (place : ℕ) → List ℕ
key_by keys order place = slice_index_or keys (slice_index_or order place 0) []

-- one hash and key comes before another: its hash is lower, or of one hash its key is the first of the two
abbrev pub IsBefore : (key other : List ℕ) → Type 0
IsBefore key other = slice_cmp nat_cmp key other ≡ Less

-- Each number stands in the order, and hashes and keys rise from place to place.
pub record IsOrder (keys : List (List ℕ)) (order : List ℕ) : Type 0 where
  pub same_length : length order ≡ length keys
  pub inside : (p : ℕ) → p < length order → slice_index_or order p 0 < length keys
  pub each : (n : ℕ) → n < length keys → (p : ℕ) × (p < length order) × (slice_index_or order p 0 ≡ n)
  pub rises : (p q : ℕ) → p < q → q < length order → IsBefore (key_by keys order p) (key_by keys order q)

-- each stray's hash stands under its number, and the numbers stand in the order of hashes and keys
pub record IsListed {X : Type 0} (hash_of : X → ℕ) (key_of : X → List ℕ) (items : List X) (known order : List ℕ) : Type 0 where
  pub hashes : known ≡ map hash_of items
  pub sorted : IsOrder (keys_in hash_of key_of items) order

-- what stands before a place comes before a hash and key, and what stands from there on comes behind it
pub record IsGap (keys : List (List ℕ)) (order : List ℕ) (key : List ℕ) (place : ℕ) : Type 0 where
  pub inside : place ≤ length order
  pub before : (p : ℕ) → p < place → IsBefore (key_by keys order p) key
  pub behind : (p : ℕ) → place ≤ p → p < length order → IsBefore key (key_by keys order p)

-- the order without a place, where the last number has become the one that stood there
abbrev pub forgotten : (order : List ℕ) (place last : ℕ) → List ℕ
forgotten order place last = remove (slice_set order last (slice_index_or order place 0)) place
