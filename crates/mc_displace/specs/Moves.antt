-- Which entry can be moved into an empty bucket, and where bringing one near ends.
use Rattle.std.specs.Prelude.{◌≡◌, ℕ, ◌+◌, ◌<◌, ◌≤◌, List, Option, Some, None, slice_index_or}
use Rattle.mc_hop.specs.Tables.{HopState, home_in, bucket_at}

-- the bucket's entry stands before the empty bucket, and that is within 31 of its home
pub record IsMovable {X : Type 0} (hash_of : X → ℕ) (k : ℕ) (items : List (Option X))
    (free at : ℕ) : Type 0 where
  pub entry : X
  pub there : slice_index_or items at None ≡ Some entry
  pub before : at < free
  pub reach : free ≤ home_in k (hash_of entry) + 31

-- none is
abbrev pub NoneMovable : {X : Type 0} → (X → ℕ) → HopState X → (free : ℕ) → Type 0
NoneMovable hash_of table free =
    (at : ℕ) → IsMovable hash_of table.k table.items free at → ⊥

-- an entry that the bucket at that place holds has this home
abbrev pub HasHome : {X : Type 0} → (X → ℕ) → HopState X → (at home : ℕ) → Type 0
HasHome {X} hash_of table at home =
    (entry : X) → bucket_at table.items at ≡ Some entry → home_in table.k (hash_of entry) ≡ home

-- of a home and a place: the entry at the place can be moved, has that home, and is within 31 of
-- the empty bucket
abbrev pub CanMove : {X : Type 0} → (X → ℕ) → HopState X → (free : ℕ) → ℕ × ℕ → Type 0
CanMove hash_of table free found =
    IsMovable hash_of table.k table.items free found.1
    × HasHome hash_of table found.1 found.0 × (free ≤ found.1 + 31)

-- an empty bucket within 31 of the home
pub record IsNear {X : Type 0} (items : List (Option X)) (home at : ℕ) : Type 0 where
  pub low : home ≤ at
  pub high : at ≤ home + 31
  pub empty : slice_index_or items at None ≡ None

-- an empty bucket that is further off, into which no entry can be moved
pub record IsStuck {X : Type 0} (hash_of : X → ℕ) (k : ℕ) (items : List (Option X))
    (home at : ℕ) : Type 0 where
  pub low : home + 32 ≤ at
  pub high : at ≤ home + 255
  pub empty : slice_index_or items at None ≡ None
  pub none : (other : ℕ) → IsMovable hash_of k items at other → ⊥
