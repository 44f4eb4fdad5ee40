-- How entries come to a table: into a bucket near their homes, or else among the strays.
use Rattle.std.specs.Prelude.{◌≡◌, ℕ, ◌+◌, ◌<◌, ◌⊎◌, true, false, nat_lt, List, [], ◌∷◌, ◌++◌, Option, Some, map, length, IsPermutation}
use Rattle.std.specs.FinMap.{insert}
use Rattle.mc_time.specs.Chains.{Chain}
use Rattle.mc_hop.specs.Contents.{content}
use Rattle.mc_hop.specs.Tables.{HopState, NoneFree, home_in}
use Rattle.mc_displace.specs.Moves.{IsNear, IsStuck}
use Rattle.mc_grow.specs.Indexes.{IndexState, left}

-- No bucket can be had near a home: none of the 256 from it on is empty, or no entry can be moved into the empty one to which
-- moves have come, before which each bucket from the home on has an entry.
abbrev pub IsCrowded : {X : Type 0} → (X → ℕ) → ℕ → List (Option X) → (home : ℕ) → Type 0
IsCrowded hash_of k items home =
    NoneFree items home (home + 256) ⊎ ((at : ℕ) × IsStuck hash_of k items home at × NoneFree items home at)

-- no bucket within 31 of a home is empty
abbrev pub NoneNear : {X : Type 0} → List (Option X) → (home : ℕ) → Type 0
NoneNear items home = (at : ℕ) → IsNear items home at → ⊥

-- a table's buckets, and the strays beside it
pub record Side (X : Type 0) : Type 0 where
  pub items : List (Option X)
  pub strays : List X

-- the buckets, and then the strays
abbrev pub cells_of : {X : Type 0} → Side X → List (Option X)
cells_of side = side.items ++ map Some side.strays

-- an entry has come into the table, if a bucket could be had near its home
pub record IsPlaced {X : Type 0} (hash_of : X → ℕ) (key_of : X → List ℕ) (k : ℕ) (entry : X) (old new : Side X) : Type 0 where
  pub had : IsCrowded hash_of k old.items (home_in k (hash_of entry)) → ⊥
  pub placed : content hash_of key_of new.items
      ≡ insert (content hash_of key_of old.items) (hash_of entry ∷ key_of entry) entry
  pub strays : new.strays ≡ old.strays

-- an entry has come among the strays: no bucket near its home was empty, and none can be had there now, to which entries may have
-- been moved in the table
pub record IsStrayed {X : Type 0} (hash_of : X → ℕ) (key_of : X → List ℕ) (k : ℕ) (entry : X) (old new : Side X) : Type 0 where
  pub none_near : NoneNear old.items (home_in k (hash_of entry))
  pub same : content hash_of key_of new.items ≡ content hash_of key_of old.items
  pub full : IsCrowded hash_of k new.items (home_in k (hash_of entry))
  pub strays : new.strays ≡ old.strays ++ (entry ∷ [])

-- An entry was added by the rule. If an empty bucket is near its home it comes into the table, if
-- none can be had it comes among the strays, and else as the moves of other entries end.
abbrev pub IsAdded : {X : Type 0} → (X → ℕ) → (X → List ℕ) → ℕ → X → (old new : Side X) → Type 0
IsAdded hash_of key_of k entry old new =
    IsPlaced hash_of key_of k entry old new ⊎ IsStrayed hash_of key_of k entry old new

-- entries were added by the rule, one by one
abbrev pub AreAdded : {X : Type 0} → (X → ℕ) → (X → List ℕ) → ℕ → List X → (old new : Side X) → Type 0
AreAdded hash_of key_of k entries old new = Chain (λ before entry after. IsAdded hash_of key_of k entry before after) old entries new

-- the table and the strays of an index
abbrev pub side_of : {X : Type 0} → IndexState X → Side X
side_of index = record { items = index.table; strays = index.strays }

-- a table and the strays beside it
abbrev pub beside : {X : Type 0} → HopState X → List X → Side X
beside table strays = record { items = table.items; strays = strays }

-- An insert: the entry was added to the table and the strays, and the old table stays.
pub record IsInserted {X : Type 0} (hash_of : X → ℕ) (key_of : X → List ℕ) (entry : X) (old new : IndexState X) : Type 0 where
  pub added : IsAdded hash_of key_of new.k entry (side_of old) (side_of new)
  pub same_k : new.k ≡ old.k
  pub same_old : new.draining ≡ old.draining
  pub same_growing : new.growing ≡ old.growing

-- the strays were tried once more, each once, in some order; the ones without a bucket are strays again
pub record AreTried {X : Type 0} (hash_of : X → ℕ) (key_of : X → List ℕ) (k : ℕ) (old new : Side X) : Type 0 where
  pub tried : List X
  pub each : IsPermutation old.strays tried
  pub added : AreAdded hash_of key_of k tried (record old { strays = [] }) new

-- `n` entries were taken out of the old table, and added to the other by the rule, one by one
pub record AreTaken {X : Type 0} (hash_of : X → ℕ) (key_of : X → List ℕ) (k n : ℕ) (drained_old drained_new : List (Option X)) (old new : Side X) : Type 0 where
  pub entries : List X
  pub many : length entries ≡ n
  pub taken : content hash_of key_of (map Some entries ++ drained_new) ≡ content hash_of key_of drained_old
  pub added : AreAdded hash_of key_of k entries old new

-- So many entries were moved. If no growth runs all stands where it stood. When the old table is
-- empty it is gone, the strays are tried once more, and the growth is over.
pub record AreMoved {X : Type 0} (hash_of : X → ℕ) (key_of : X → List ℕ) (n : ℕ) (old new : IndexState X) : Type 0 where
  pub same_k : new.k ≡ old.k
  pub idle : old.growing ≡ false → new ≡ old
  pub after : Side X
  pub moved : AreTaken hash_of key_of old.k n old.draining new.draining (side_of old) after
  pub goes_on : 0 < left new → side_of new ≡ after
  pub ends : old.growing ≡ true → left new ≡ 0 → AreTried hash_of key_of old.k after (side_of new)
  pub dropped : left new ≡ 0 → new.draining ≡ []
  pub growing : new.growing ≡ nat_lt 0 (left new)
