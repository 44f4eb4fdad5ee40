-- The history: a list of entries, and the state that it makes of a state.
use Rattle.std.specs.Prelude.{◌≡◌, ℕ, ◌==◌, List, [], ◌∷◌}
use Rattle.mc_protocol.specs.declared.step.KeyStep.{KeyStep}
use Rattle.mc_protocol.specs.declared.reply.Reply.{Reply}
use Rattle.mc_protocol.specs.Plain.{Plain, Outcome, Answered, Spent, plain}
use Rattle.mc_protocol.specs.Purge.{purged}
use Rattle.mc_shelf.specs.Parts.{shelf_of}
use Rattle.mc_shelf.specs.Stores.{StoreState}

-- what a store began with: the number of shelves, the hash of each key, and the plain machine's
-- state
pub record Beginning : Type 0 where
  pub shelves : ℕ
  pub hash_of : List ℕ → ℕ
  pub plain : Plain

-- what a store with this state begins with; hash_of is the hash function of its hasher
abbrev pub start_of : {K : Type 0} → (K → List ℕ → ℕ) → StoreState K → Beginning
start_of hash_of store = record {
  shelves = store.settings.shelves;
  hash_of = hash_of store.hasher;
  plain = store.plain;
}

-- the shelf of a key
abbrev pub shelf_in : Beginning → List ℕ → ℕ
shelf_in start key = shelf_of start.hash_of start.shelves key

-- a step with its moment and its reply, or a purge of a shelf
pub data Operation : Type 0 where
  Stepped : KeyStep → (now : ℕ) → Reply → Operation
  Purged : (shelf now : ℕ) → Operation

-- A caller's name, newest number first. The first caller's is empty. Another's is the number of
-- callers that its maker had made before, and then its maker's name.
abbrev pub Name : Type 0
Name = List ℕ

-- an entry: the caller's name, the call's number among that caller's, and the operation
pub record HistoryEntry : Type 0 where
  pub by : Name
  pub number : ℕ
  pub what : Operation

-- the state after an outcome
abbrev pub left_by : Plain → Outcome → Plain
left_by old (Answered reply new) = new
left_by old Spent = old

-- the state after an operation
abbrev pub next : Beginning → Plain → Operation → Plain
next start m (Stepped step now reply) = left_by m (plain m step now)
next start m (Purged shelf now) = purged (λ key. shelf_in start key == shelf) now m

-- the plain machine gives this reply, and has a unique number if it needs one
abbrev pub IsRight : Plain → Operation → Type 0
IsRight m (Stepped step now reply) = (new : Plain) × (plain m step now ≡ Answered reply new)
IsRight m (Purged shelf now) = Unit {0}

-- the state after all entries
abbrev pub after : Beginning → Plain → List HistoryEntry → Plain
after start m [] = m
after start m (e ∷ es) = after start (next start m e.what) es

-- each reply is the plain machine's at its place
abbrev pub IsLegal : Beginning → Plain → List HistoryEntry → Type 0
IsLegal start m [] = Unit {0}
IsLegal start m (e ∷ es) = IsRight m e.what × IsLegal start (next start m e.what) es
