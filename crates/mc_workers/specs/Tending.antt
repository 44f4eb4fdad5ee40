-- A caller that a worker lends to its guests.
use Rattle.std.specs.Prelude.{◌≡◌, ℕ, ◌+◌, ◌%◌, Bool, List, nat_lt, if◌then◌else◌}
use Rattle.std.specs.Int.{div_ceil}
use Rattle.mc_shelf.specs.Stores.{StoreState}
use Rattle.mc_shared.specs.Shown.{CallerState}
use Rattle.mc_shared.specs.Asking.{AskingState, AsksOnce}
use Rattle.mc_shared.specs.History.{Operation, Stepped, Purged, start_of}
use Rattle.mc_shared.specs.Past.{Past, call}
use Rattle.mc_shared.specs.Steps.{entry_of}
use Rattle.mc_time.specs.Chains.{Repeats}

-- a caller of a store that began so
abbrev pub asked_by : {K : Type 0} → StoreState K → CallerState → AskingState K
asked_by began caller = record { began = began; table = caller.table; past = caller.past }

-- the moment of a decision: that of a step or of a purge
abbrev pub moment_of : Operation → ℕ
moment_of (Stepped step now reply) = now
moment_of (Purged shelf now) = now

module _ (may_give : ℕ → Type 0) where
  -- one further call: a step or a purge, at a moment that the clock may give
  pub record CallsOnce (old new : Past) : Type 0 where
    pub what : Operation
    pub given : may_give (moment_of what)
    pub past : new ≡ call old (entry_of old what)

  -- from one past to another by further calls alone
  abbrev pub Further : Past → Past → Type 0
  Further old new = (count : ℕ) × Repeats CallsOnce count old new

  -- the same caller with further calls
  pub record GoesFurther {K : Type 0} (old new : AskingState K) : Type 0 where
    pub began : new.began ≡ old.began
    pub table : new.table ≡ old.table
    pub calls : Further old.past new.past

-- the shelf behind one: the first behind the last
abbrev pub in_turn : (shelves shelf : ℕ) → ℕ
in_turn shelves shelf = if nat_lt (shelf + 1) shelves then shelf + 1 else 0

-- the shelf in turn was purged at a moment, by a call of its own, and the one behind it is next;
-- either stands beside its caller
abbrev pub TidiesNext : {K : Type 0} → (K → List ℕ → ℕ) → (now : ℕ)
    → (old new : ℕ × AskingState K) → Type 0
TidiesNext hash_of now old new =
    AsksOnce (start_of hash_of old.1.began) (Purged old.0 now) old.1 new.1
    × (new.0 ≡ in_turn old.1.began.settings.shelves old.0)

-- So many shelves of the store were purged in turn at a moment, from this one on, each by a call of
-- its own. The turn of that one is next.
abbrev pub Tidied : {K : Type 0} → (K → List ℕ → ℕ) → (now count turn next : ℕ)
    → (old new : AskingState K) → Type 0
Tidied hash_of now count turn next old new =
    Repeats (TidiesNext hash_of now) count (turn, old) (next, new)

-- How many shelves a worker tidies before a round. When the clock has risen it is one for each 64, so
-- that all have their turn in 64 risings. While writes lack chunks it is also one for each 16, so that
-- all have their turn in 16 rounds.
abbrev pub tidied_by : (risen lacks : Bool) → (shelves : ℕ) → ℕ
tidied_by risen lacks shelves =
    (if risen then div_ceil shelves 64 else 0) + (if lacks then div_ceil shelves 16 else 0)

-- Before a round so many shelves were purged in turn, and either writes lacked chunks or not.
pub record TidiesInTurn {K : Type 0} (hash_of : K → List ℕ → ℕ) (risen : Bool) (now turn next : ℕ)
    (old new : AskingState K) : Type 0 where
  pub lacks : Bool
  pub tidied : Tidied hash_of now (tidied_by risen lacks old.began.settings.shelves)
      (turn % old.began.settings.shelves) next old new
