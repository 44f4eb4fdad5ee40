-- What the parts of a store keep of the plain machine's state.
use Rattle.std.specs.Prelude.{◌≡◌, ◌≢◌, ℕ, ◌<◌, ◌%◌, List, length, Some, None, slice_get}
use Rattle.std.specs.FinMap.{get}
use Rattle.mc_slab.specs.Classes.{IsClass}
use Rattle.mc_slab.specs.Slabs.{out_of}
use Rattle.mc_protocol.specs.Plain.{Plain, count_of, plain, Answered}
use Rattle.mc_protocol.specs.declared.step.KeyStep.{KeyStep}
use Rattle.mc_protocol.specs.declared.reply.Reply.{Reply}
use Rattle.mc_shelf.specs.States.{ShelfContent, ShelfState, DeskState, IsHash}

-- the shelf of a key: its hash modulo the number of shelves
abbrev pub shelf_of : (hash_of : List ℕ → ℕ) → (shelves : ℕ) → List ℕ → ℕ
shelf_of hash_of shelves key = hash_of key % shelves

-- The shelf at a place keeps its keys' part of the plain state: the state's items at its own keys
-- and none at others, its cut and its greatest charge; and each key stands with its own hash.
pub record IsShelfOf (hash_of : List ℕ → ℕ) (shelves : ℕ) (state : Plain) (at : ℕ)
    (shelf : ShelfContent) : Type 0 where
  pub greatest : shelf.greatest ≡ state.greatest
  pub cut : shelf.cut ≡ state.cut
  pub items : (key : List ℕ) → shelf_of hash_of shelves key ≡ at
      → get shelf.items key ≡ get state.items key
  pub apart : (key : List ℕ) → shelf_of hash_of shelves key ≢ at → get shelf.items key ≡ None
  pub hashes : (key : List ℕ) → IsHash shelf key (hash_of key)

-- The desk keeps the state's account: its next unique number, its limit, each class's pages, and as
-- chunks out its items.
pub record IsDeskOf (state : Plain) (desk : DeskState) : Type 0 where
  pub next_unique : desk.next_unique ≡ state.next_unique
  pub limit : desk.slab.limit ≡ state.limit
  pub pages : desk.slab.pages ≡ state.pages
  pub out : (class : ℕ) → IsClass class → out_of desk.slab class ≡ count_of state.items class

-- One shelf or more, in their order, and the desk that they share keep the state together.
pub record ArePartsOf (hash_of : List ℕ → ℕ) (state : Plain) (shelves : List ShelfState)
    (count : ℕ) (desk : DeskState) : Type 0 where
  pub number : length shelves ≡ count
  pub some_shelf : 0 < count
  pub each : (at : ℕ) (shelf : ShelfState) → slice_get shelves at ≡ Some shelf
      → IsShelfOf hash_of count state at shelf.content
  pub account : IsDeskOf state desk

-- The state goes from one to another by the shelf at a place and the desk alone: they are parts of
-- the new one as they stand now, and each other shelf that is a part of the old one is a part of
-- the new one as it was. The greatest charge and the limit of pages stay.
pub record GoesTo (hash_of : List ℕ → ℕ) (shelves at : ℕ) (old new : Plain) (shelf : ShelfContent)
    (desk : DeskState) : Type 0 where
  pub greatest : new.greatest ≡ old.greatest
  pub limit : new.limit ≡ old.limit
  pub own : IsShelfOf hash_of shelves new at shelf
  pub account : IsDeskOf new desk
  pub others : (other : ℕ) (still : ShelfContent) → other ≢ at
      → IsShelfOf hash_of shelves old other still → IsShelfOf hash_of shelves new other still

-- it does so as the plain machine does in a step, with that reply
pub record GoesByStep (hash_of : List ℕ → ℕ) (shelves at : ℕ) (step : KeyStep) (now : ℕ)
    (old : Plain) (reply : Reply) (shelf : ShelfContent) (desk : DeskState) : Type 0 where
  pub new : Plain
  pub answered : plain old step now ≡ Answered reply new
  pub goes : GoesTo hash_of shelves at old new shelf desk

-- It does so by the shelf alone: each desk that keeps the old state's account, and there is one,
-- keeps the new one's as it is.
pub record GoesWithoutDesk (hash_of : List ℕ → ℕ) (shelves at : ℕ) (step : KeyStep) (now : ℕ)
    (old : Plain) (reply : Reply) (shelf : ShelfContent) : Type 0 where
  pub new : Plain
  pub answered : plain old step now ≡ Answered reply new
  pub goes : (desk : DeskState) → IsDeskOf old desk → GoesTo hash_of shelves at old new shelf desk
  pub some_desk : (desk : DeskState) × IsDeskOf old desk
