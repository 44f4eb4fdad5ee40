-- What moving entries from one place to another keeps, and what a try of one stray brings.
use Rattle.std.specs.Prelude.{◌≡◌, ℕ, ◌<◌, Bool, true, false, List, ◌∷◌, Option, length, slice_index_or}
use Rattle.std.specs.List.{swap_remove}
use Rattle.std.specs.FinMap.{insert}
use Rattle.mc_hop.specs.Contents.{content}
use Rattle.mc_hop.specs.Tables.{AreApart, home_in}
use Rattle.mc_grow.specs.Adding.{IsAdded, IsCrowded, NoneNear, Side}

-- the content is as it was, and no hash and key stands twice
pub record HoldsAll {X : Type 0} (hash_of : X → ℕ) (key_of : X → List ℕ) (old new : List (Option X)) : Type 0 where
  pub same : content hash_of key_of new ≡ content hash_of key_of old
  pub apart : AreApart hash_of key_of new

-- an entry has come to buckets
pub record IsIn {X : Type 0} (hash_of : X → ℕ) (key_of : X → List ℕ) (x : X) (old new : List (Option X)) : Type 0 where
  pub come : content hash_of key_of new ≡ insert (content hash_of key_of old) (hash_of x ∷ key_of x) x
  pub apart : AreApart hash_of key_of new

-- one entry was taken out of the old table, and added to the other by the rule
pub record IsTaken {X : Type 0} (hash_of : X → ℕ) (key_of : X → List ℕ) (k : ℕ) (drained_old drained_new : List (Option X)) (old new : Side X) : Type 0 where
  pub entry : X
  pub taken : content hash_of key_of drained_old ≡ insert (content hash_of key_of drained_new) (hash_of entry ∷ key_of entry) entry
  pub added : IsAdded hash_of key_of k entry old new

-- what a try of a stray brings: the stray goes to the table, if a bucket could be had near its
-- home, and the last stray takes its place, or it stays, as no bucket was near and none can be had
abbrev pub IsOutcome : {X : Type 0} → (X → ℕ) → (X → List ℕ) → ℕ → (at : ℕ) → X → Bool → (old new : Side X) → Type 0
IsOutcome hash_of key_of k at entry true old new =
    (content hash_of key_of new.items ≡ insert (content hash_of key_of old.items) (hash_of entry ∷ key_of entry) entry)
    × (IsCrowded hash_of k old.items (home_in k (hash_of entry)) → ⊥) × (new.strays ≡ swap_remove old.strays at entry)
IsOutcome hash_of key_of k at entry false old new =
    (content hash_of key_of new.items ≡ content hash_of key_of old.items)
    × NoneNear old.items (home_in k (hash_of entry)) × IsCrowded hash_of k new.items (home_in k (hash_of entry)) × (new.strays ≡ old.strays)

-- the stray of that number was tried
pub record IsTried {X : Type 0} (hash_of : X → ℕ) (key_of : X → List ℕ) (k at : ℕ) (put : Bool) (old new : Side X) : Type 0 where
  pub entry : X
  pub inside : at < length old.strays
  pub there : entry ≡ slice_index_or old.strays at entry
  pub outcome : IsOutcome hash_of key_of k at entry put old new
