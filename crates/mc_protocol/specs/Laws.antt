-- Definitions for the laws of the plain machine.
use Rattle.std.specs.Prelude.{◌≡◌, ◌≢◌, ℕ, ◌-◌, ◌^◌, ◌≤◌, false, List, Option, Some, None, if◌then◌else◌}
use Rattle.std.specs.FinMap.{get}
use Rattle.mc_sizes.specs.Needs.{NeedState, need_for}
use Rattle.mc_protocol.specs.Commands.{View, OnKey, OnAll, view, key_of}
use Rattle.mc_protocol.specs.declared.step.KeyStep.{KeyStep}
use Rattle.mc_protocol.specs.declared.row.Row.{Row}
use Rattle.mc_protocol.specs.declared.row.Row.TheVariants.{Refuses, Reads, Touches, Deletes, Writes}
use Rattle.mc_protocol.specs.Plain.{Plain, Entry, Outcome, Answered, Spent, charge, item_need, chunks_in, has_room, standing, without_dead, keeps_chunk, block_of, written_block, row_of}

-- a step that is seen so is on one key
abbrev pub IsOnKeySeen : View → Type 0
IsOnKeySeen (OnKey key block) = Unit {0}
IsOnKeySeen (OnAll delay) = ⊥

-- a step on one key: any but a flush
abbrev pub IsOnKey : KeyStep → Type 0
IsOnKey step = IsOnKeySeen (view step)

-- the state as a step on one key finds it: the key's dead item is dropped
abbrev pub found_by : KeyStep → ℕ → Plain → Plain
found_by step now old = without_dead (standing old (key_of step) now) (key_of step) old

-- two states that have room for the same needs, as a step finds them
abbrev pub HaveSameRoom : KeyStep → ℕ → Plain → Plain → Type 0
HaveSameRoom step now a b =
    (need : NeedState) → has_room (found_by step now a) need ≡ has_room (found_by step now b) need

-- two states that have the same item at a key, and the same of all that isn't a key's and isn't of
-- the pages
pub record AgreeAt (key : List ℕ) (a b : Plain) : Type 0 where
  pub item : get a.items key ≡ get b.items key
  pub cut : a.cut ≡ b.cut
  pub next_unique : a.next_unique ≡ b.next_unique
  pub greatest : a.greatest ≡ b.greatest

-- the same answer, and states that agree at the key; or both are out of numbers
abbrev pub AgreeAfter : List ℕ → Outcome → Outcome → Type 0
AgreeAfter key (Answered reply a) (Answered other b) = (reply ≡ other) × AgreeAt key a b
AgreeAfter key (Answered reply a) Spent = ⊥
AgreeAfter key Spent (Answered other b) = ⊥
AgreeAfter key Spent Spent = Unit {0}

-- the charge that a row takes chunks for at a step's key, if it takes some
abbrev pub chunk_taken : KeyStep → Row → Option Entry → Option ℕ
chunk_taken step (Refuses refusal) item = None
chunk_taken step (Reads expiry) item = None
chunk_taken step (Touches expiry) item = None
chunk_taken step Deletes item = None
chunk_taken step (Writes flags expiry body) item =
    if keeps_chunk body (key_of step) item then None
    else Some (charge (key_of step) (written_block body (block_of step) item))

-- the charge that a step takes chunks for, if it takes some
abbrev pub chunk_of : KeyStep → ℕ → Plain → Option ℕ
chunk_of step now old =
    let item = standing old (key_of step) now in chunk_taken step (row_of step now item) item

-- what is written is neither too large nor short of a unique number, and its chunks can't be had
abbrev pub LacksChunk : Plain → Option ℕ → Type 0
LacksChunk old None = ⊥
LacksChunk old (Some charge) =
    (charge ≤ old.greatest) × (old.next_unique ≢ 2 ^ 64 - 1)
    × (has_room old (need_for charge) ≡ false)

-- how many chunks of the class an item has, and 0 if there is none
abbrev pub of_class : List ℕ → Option Entry → ℕ → ℕ
of_class key None class = 0
of_class key (Some item) class = chunks_in (item_need key item) class
