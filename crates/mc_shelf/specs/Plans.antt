-- What a step asks of a shelf.
use Rattle.std.specs.Prelude.{◌≡◌, ◌≢◌, ◌⊎◌, ℕ, ◌+◌, ◌-◌, ◌^◌, ◌≤◌, ◌==◌, ◌&&◌, ◌||◌, not, Bool, true, false, List, [], ◌++◌, decimal, length, Option, Some, None, is_some, is_none, nat_le, nat_lt, if◌then◌else◌}
use Rattle.std.specs.FinMap.{get, insert}
use Rattle.std.specs.Borrow.{Bor}
use Rattle.mc_time.specs.declared.expiry.Expiry.{Expiry}
use Rattle.mc_protocol.specs.declared.step.KeyStep.{KeyStep}
use Rattle.mc_protocol.specs.declared.reply.Reply.{Reply}
use Rattle.mc_protocol.specs.declared.reply.Reply.TheVariants.{Touched, Deleted, TooLarge, NoChunk}
use Rattle.mc_protocol.specs.declared.row.Row.{Row}
use Rattle.mc_protocol.specs.declared.row.Row.TheVariants.{Refuses, Reads, Touches, Deletes, Writes}
use Rattle.mc_protocol.specs.declared.row.Body.{Body}
use Rattle.mc_protocol.specs.declared.row.Body.TheVariants.{Given, Appended, Prepended, Counted}
use Rattle.mc_protocol.specs.Rows.{standing_in}
use Rattle.mc_slab.specs.Classes.{IsClass}
use Rattle.mc_slab.specs.Needs.{NeedState, IsNeed, need_for, same_need}
use Rattle.mc_slab.specs.Chunks.{ChunksState, need_in}
use Rattle.mc_slab.specs.Slabs as slabs
use Rattle.mc_slab.specs.Slabs.{IsSlab, SlabState, WantsPages, out_of, has_room_with}
use Rattle.mc_protocol.specs.Commands.{key_of, longest_key}
use Rattle.mc_protocol.specs.Plain.{Plain, Entry, Outcome, Answered, Spent, MayFail, plain, charge, item_need, alive, hit_of, refusal_reply, block_of, written_block, write_reply, row_of}
use Rattle.mc_protocol.specs.Laws.{IsOnKey, of_class}
use Rattle.mc_shelf.specs.States.{EntryState, ShelfContent, ShelfState, DeskState, StandsAt, IsHash}
use Rattle.mc_shelf.specs.Counts.{CatchesUp, counts_of}
use Rattle.mc_grow.specs.declared.index.Place.{Place}
use Rattle.mc_shelf.specs.declared.plan.Action.{Action}
use Rattle.mc_shelf.specs.declared.plan.Action.TheVariants.{Answer, Expire, Discard, Write, Left}
use Rattle.mc_shelf.specs.declared.plan.Plan.{Plan}

-- the item of a lent entry
abbrev pub item_in : Option (Bor EntryState) → Option Entry
item_in found = standing_in (λ e. e.item) found

-- an answer that leaves the key's item, but a dead one is dropped
abbrev pub answered : (dead : Bool) → Reply → Action
answered true reply = Discard reply
answered false reply = Answer reply

-- the block of an item, and no bytes if there is none
abbrev pub block_in : Option Entry → List ℕ
block_in None = []
block_in (Some item) = item.block

-- the block that a body makes of a step's and of an old one
abbrev pub made_block : Body → (block old : List ℕ) → List ℕ
made_block Given block old = block
made_block Appended block old = old ++ block
made_block Prepended block old = block ++ old
made_block (Counted number) block old = decimal number

-- the charge of what a body puts under a step's key
abbrev pub charge_of : KeyStep → Option Entry → Body → ℕ
charge_of step item body = charge (key_of step) (written_block body (block_of step) item)

-- what comes next of a row: a write is too large if its charge is above the greatest
abbrev pub next_by : (dead : Bool) → (greatest : ℕ) → KeyStep → Option Entry → Row → Action
next_by dead greatest step item (Refuses refusal) = answered dead (refusal_reply refusal)
next_by dead greatest step item (Reads None) = answered dead (hit_of item)
next_by dead greatest step item (Reads (Some expiry)) = Expire expiry (hit_of item)
next_by dead greatest step item (Touches expiry) = Expire expiry Touched
next_by dead greatest step item Deletes = Discard Deleted
next_by dead greatest step item (Writes flags expiry body) =
    if nat_lt greatest (charge_of step item body) then answered dead TooLarge
    else Write (charge_of step item body) flags expiry body

-- the item that is found is dead
abbrev pub is_gone : (cut : Option ℕ) → (now : ℕ) → Option Entry → Bool
is_gone cut now found = is_some found && is_none (alive cut now found)

-- what comes next in a step, by the item that is found under its key
abbrev pub next_found : (greatest : ℕ) → (cut : Option ℕ) → KeyStep → (now : ℕ) → Option Entry → Action
next_found greatest cut step now found =
    let item = alive cut now found in
    next_by (is_gone cut now found) greatest step item (row_of step now item)

-- the item that stands under a step's key
abbrev pub stood : ShelfContent → KeyStep → ℕ → Option Entry
stood shelf step now = alive shelf.cut now (get shelf.items (key_of step))

-- the row of the protocol's table that the step takes
abbrev pub row_at : ShelfContent → KeyStep → ℕ → Row
row_at shelf step now = row_of step now (stood shelf step now)

-- what comes next in a step
abbrev pub next_of : ShelfContent → KeyStep → ℕ → Action
next_of shelf step now = next_found shelf.greatest shelf.cut step now (get shelf.items (key_of step))

-- it needs the desk, or has begun at it: it drops an item, or writes one if there is a number and a chunk
abbrev pub wants_desk : Action → Bool
wants_desk (Answer reply) = false
wants_desk (Expire expiry reply) = false
wants_desk next = true

-- it writes
abbrev pub writes : Action → Bool
writes (Write size flags expiry body) = true
writes next = false

-- it was begun, and its item is still to be written
abbrev pub is_left : Action → Bool
is_left (Left unique chunks flags expiry body) = true
is_left next = false

-- what is known of a key: its hash, if the shelf has the key, and by a place that it has
pub record IsKnown (shelf : ShelfContent) (key : List ℕ) (own : ℕ) (found : Option Place) : Type 0 where
  pub hash : IsHash shelf key own
  pub place : is_some found ≡ is_some (get shelf.items key)

-- the plan of a step at a moment
pub record IsPlan (plan : Plan) (shelf : ShelfContent) (step : KeyStep) (now : ℕ) : Type 0 where
  pub on_key : IsOnKey step
  pub key : plan.key ≡ key_of step
  pub moment : plan.moment ≡ now
  pub next : plan.next ≡ next_of shelf step now
  pub known : IsKnown shelf (key_of step) plan.hash plan.place

-- a step can be looked up: it is on a key, which the shelf has with this hash if it has it
pub record CanLook (step : KeyStep) (own : ℕ) (shelf : ShelfContent) : Type 0 where
  pub on_key : IsOnKey step
  pub key : length (key_of step) ≤ longest_key
  pub hash : IsHash shelf (key_of step) own

-- the item that is found has the chunks that a need asks for
abbrev pub has_need : (key : List ℕ) → Option Entry → NeedState → Bool
has_need key None need = false
has_need key (Some item) need = same_need (item_need key item) need

-- how many chunks of a class come back if the item that is found is dropped for being dead
abbrev pub dead_chunks : (cut : Option ℕ) → (now : ℕ) → (key : List ℕ) → Option Entry → (class : ℕ) → ℕ
dead_chunks cut now key found class = if is_gone cut now found then of_class key found class else 0

-- the item that is found gives way to a write: it is dead, and has chunks of the write's class, though not as many
abbrev pub gives_way : (cut : Option ℕ) → (now : ℕ) → (key : List ℕ) → Option Entry → NeedState → Bool
gives_way cut now key found need =
    not (has_need key found need) && nat_lt 0 (dead_chunks cut now key found need.class)

-- how many chunks of a need's class come back if a key's item is dropped for being dead
abbrev pub back_at : ShelfContent → (key : List ℕ) → (now : ℕ) → NeedState → ℕ
back_at shelf key now need = dead_chunks shelf.cut now key (get shelf.items key) need.class

-- a key's item gives way to what comes next
abbrev pub gives_way_to : Action → ShelfContent → (key : List ℕ) → (now : ℕ) → Bool
gives_way_to (Write size flags expiry body) shelf key now =
    gives_way shelf.cut now key (get shelf.items key) (need_for size)
gives_way_to next shelf key now = false

-- what comes next puts in an entry, if it writes: the key has no item, or one that gives way
abbrev pub PutsEntry : Action → ShelfContent → (key : List ℕ) → (now : ℕ) → Type 0
PutsEntry next shelf key now =
    (get shelf.items key ≡ None) ⊎ (gives_way_to next shelf key now ≡ true)

-- a write can be taken: a number is left, and the chunks that it needs can be had, once those of a dead item came back
pub record CanWrite (next : Action) (shelf : ShelfContent) (key : List ℕ) (now : ℕ) (desk : DeskState)
    : Type 0 where
  pub size : ℕ
  pub flags : ℕ
  pub expiry : Expiry
  pub body : Body
  pub writes_it : next ≡ Write size flags expiry body
  pub number : desk.next_unique ≢ 2 ^ 64 - 1
  pub chunks : has_room_with desk.slab (need_for size) (back_at shelf key now (need_for size)) ≡ true

-- a write that puts in an entry has room for it
abbrev pub HasRoom : Plan → ShelfState → KeyStep → Type 0
HasRoom plan shelf step =
    writes plan.next ≡ true → PutsEntry plan.next shelf.content (key_of step) plan.moment
    → 1 ≤ shelf.room

-- a write that puts in an entry goes on with a growth that lags
abbrev pub HasCaughtUp : Plan → (old new : ShelfState) → KeyStep → Type 0
HasCaughtUp plan old new step =
    writes plan.next ≡ true → PutsEntry plan.next new.content (key_of step) plan.moment
    → CatchesUp (counts_of old) (counts_of new)

-- a step with that answer is what the plain machine does at the key: of each plain state that stands for the shelf and the
-- desk before, it makes one that stands for them after
abbrev pub TakesStepAtKey : KeyStep → ℕ → ShelfContent → DeskState → Reply → ShelfContent → DeskState → Type 0
TakesStepAtKey step now shelf desk reply shelf' desk' =
    (s : Plain) → StandsAt (key_of step) shelf desk s
    → (new : Plain) × (plain s step now ≡ Answered reply new) × StandsAt (key_of step) shelf' desk' new

-- the plain machine is out of unique numbers
abbrev pub IsSpent : KeyStep → ℕ → ShelfContent → DeskState → Type 0
IsSpent step now shelf desk = (s : Plain) → StandsAt (key_of step) shelf desk s → plain s step now ≡ Spent

-- what stands under the other keys stays, and all else that the shelf holds
pub record OtherKeysStay (key : List ℕ) (old new : ShelfContent) : Type 0 where
  pub greatest : new.greatest ≡ old.greatest
  pub cut : new.cut ≡ old.cut
  pub items : (other : List ℕ) → other ≢ key → get new.items other ≡ get old.items other
  pub hashes : (other : List ℕ) → other ≢ key → get new.hashes other ≡ get old.hashes other

-- this item was put under the key, whose hash is this one, and the other keys stay
pub record IsPut (key : List ℕ) (own : ℕ) (old new : ShelfContent) (one : Entry) : Type 0 where
  pub item : get new.items key ≡ Some one
  pub others : OtherKeysStay key old new
  pub hash : IsHash new key own

-- the key's item was dropped, and the other keys stay
pub record IsDropped (key : List ℕ) (own : ℕ) (old new : ShelfContent) : Type 0 where
  pub item : get new.items key ≡ None
  pub others : OtherKeysStay key old new
  pub hash : IsHash new key own

-- a step was taken: as by the plain machine at its key, the other keys stay, and the key's hash is this one
pub record StepTaken (step : KeyStep) (now own : ℕ) (old : ShelfContent) (desk : DeskState) (reply : Reply) (new : ShelfContent) (desk' : DeskState) : Type 0 where
  pub takes : TakesStepAtKey step now old desk reply new desk'
  pub others : OtherKeysStay (key_of step) old new
  pub hash : IsHash new (key_of step) own

-- a plan that needs no desk was settled, whatever desk there is
pub record PlanIsSettled (step : KeyStep) (now own : ℕ) (old : ShelfContent) (reply : Reply) (new : ShelfContent) : Type 0 where
  pub takes : (desk : DeskState) → TakesStepAtKey step now old desk reply new desk
  pub stands : is_some (get new.items (key_of step)) ≡ is_some (get old.items (key_of step))
  pub others : OtherKeysStay (key_of step) old new
  pub hash : IsHash new (key_of step) own

-- a step that may be refused memory: it is answered with a copy of a block, or writes
abbrev pub MayWantMemory : KeyStep → ℕ → ShelfContent → DeskState → Type 0
MayWantMemory step now shelf desk =
    (s : Plain) → StandsAt (key_of step) shelf desk s → MayFail (plain s step now)

-- a look takes memory: it copies the block of a hit, or makes room for an entry that a write puts in
abbrev pub LookTakesMemory : KeyStep → ℕ → ShelfContent → Type 0
LookTakesMemory step now shelf =
    ((expiry : Option Expiry) × (row_at shelf step now ≡ Reads expiry))
    ⊎ (PutsEntry (next_of shelf step now) shelf (key_of step) now × (writes (next_of shelf step now) ≡ true))

-- the block is a number's digits
abbrev pub counts : Body → Bool
counts (Counted number) = true
counts body = false

-- the item of a write, with this block
abbrev pub item_of : (flags : ℕ) → Expiry → (block : List ℕ) → (unique updated : ℕ) → Entry
item_of flags expiry block unique updated =
    record { flags = flags; expiry = expiry; block = block; unique = unique; updated = updated }

-- the block that a body makes beside the item that a shelf has under the step's key, dead or not
abbrev pub block_beside : ShelfContent → KeyStep → Body → List ℕ
block_beside shelf step body =
    made_block body (block_of step) (block_in (get shelf.items (key_of step)))

-- a body whose block may go into the chunks of the key's item: over the block that stands, or behind it
abbrev pub GoesOver : Body → Type 0
GoesOver Prepended = ⊥
GoesOver body = Unit {0}

-- a body's block goes into the chunks of the key's item, which are those that the write needs: it is a number's digits, the item
-- is dead, or as many other chunks are unused and the block doesn't come before the present one
abbrev pub goes_over : Body → (gone : Bool) → NeedState → SlabState → Bool
goes_over (Counted number) gone need slab = true
goes_over Prepended gone need slab = gone
goes_over body gone need slab = gone || nat_le need.count (slabs.unused slab need.class)

-- a write goes into the chunks of the key's item, which it needs
pub record GoesInto (plan : Plan) (body : Body) (step : KeyStep) (shelf : ShelfContent) (need : NeedState) (slab : SlabState) : Type 0 where
  pub has : has_need (key_of step) (get shelf.items (key_of step)) need ≡ true
  pub over : goes_over body (is_gone shelf.cut plan.moment (get shelf.items (key_of step))) need slab ≡ true

-- it goes into others; before, a dead item gives back `back` chunks of their class
pub record GoesApart (plan : Plan) (body : Body) (step : KeyStep) (shelf : ShelfContent) (need : NeedState) (slab : SlabState) (back : ℕ) : Type 0 where
  pub other : has_need (key_of step) (get shelf.items (key_of step)) need
      && goes_over body (is_gone shelf.cut plan.moment (get shelf.items (key_of step))) need slab ≡ false
  pub back_is : back ≡ back_at shelf (key_of step) plan.moment need

-- a write that comes next and goes into the chunks of the key's item leaves what the shelf holds until it is finished, unless it
-- is a number's
abbrev pub StaysUntil : Plan → Action → KeyStep → (old : ShelfContent) → SlabState → (new : ShelfContent) → Type 0
StaysUntil plan (Write size flags expiry body) step old slab new =
    counts body ≡ false → GoesInto plan body step old (need_for size) slab → new ≡ old
StaysUntil plan next step old slab new = Unit {0}

-- a shelf after this item came under a key: into chunks that wait for it, and then with a hash, or
-- else into those of the key's item, whose hash stays
abbrev pub with_item : Option ChunksState → (key : List ℕ) → (own : ℕ) → Entry → ShelfContent → ShelfContent
with_item None key own item shelf = record shelf { items = insert shelf.items key item }
with_item (Some chunks) key own item shelf =
    record shelf { items = insert shelf.items key item; hashes = insert shelf.hashes key own }

-- what is left of a write that comes next, with this number and these chunks
abbrev pub left_of : Action → (unique : ℕ) → Option ChunksState → Action
left_of (Write size flags expiry body) unique chunks = Left unique chunks flags expiry body
left_of next unique chunks = next

-- the chunks that wait for the item of what is left
abbrev pub waiting : Action → Option ChunksState
waiting (Left unique chunks flags expiry body) = chunks
waiting next = None

-- what is left writes the step's own block
abbrev pub IsGiven : Action → Type 0
IsGiven (Left unique chunks flags expiry body) = body ≡ Given
IsGiven next = ⊥

-- a shelf after a write that is left was done: its item came under the key, and its block is made beside
-- the item that stood there
abbrev pub written_next : Plan → Action → KeyStep → ShelfContent → ShelfContent
written_next plan (Left unique chunks flags expiry body) step shelf =
    with_item chunks (key_of step) plan.hash
    (item_of flags expiry (block_beside shelf step body) unique plan.moment) shelf
written_next plan next step shelf = shelf

-- a shelf after a plan that was begun is finished
abbrev pub finished : Plan → KeyStep → ShelfContent → ShelfContent
finished plan step shelf = written_next plan plan.next step shelf

-- the answer of a step that comes next so, if it was begun
abbrev pub told_next : Action → Reply
told_next (Answer reply) = reply
told_next (Expire expiry reply) = reply
told_next (Discard reply) = reply
told_next (Write size flags expiry body) = write_reply body
told_next (Left unique chunks flags expiry body) = write_reply body

-- chunks are the ones that a key and a block need
pub record Suits (chunks : ChunksState) (key block : List ℕ) : Type 0 where
  pub need : need_in chunks ≡ need_for (charge key block)
  pub fits : charge key block ≤ length chunks.bytes

-- chunks that wait are ready for a key's item with this block: they suit, and where no item is under
-- the key, there is room for its entry
pub record AreChunksFor (chunks : ChunksState) (key block : List ℕ) (shelf : ShelfState) : Type 0 where
  pub room : get shelf.content.items key ≡ None → 1 ≤ shelf.room
  pub suits : Suits chunks key block

-- the key has an item in the chunks that the key and this block need
pub record LiesInNeed (key block : List ℕ) (shelf : ShelfState) : Type 0 where
  pub item : Entry
  pub there : get shelf.content.items key ≡ Some item
  pub need : item_need key item ≡ need_for (charge key block)

-- chunks are ready for the block that a body makes beside a key's item: the waiting ones, or else the
-- item's own, if the body's block may go there
abbrev pub ChunksAreReady : Option ChunksState → Body → (key block : List ℕ) → ShelfState → Type 0
ChunksAreReady None body key block shelf = GoesOver body × LiesInNeed key block shelf
ChunksAreReady (Some chunks) body key block shelf = AreChunksFor chunks key block shelf

-- the entry that stood under a key, where it had this item, and that others' chunks replaced: none
-- where it had none
abbrev pub StoodBefore : (key : List ℕ) → Option Entry → Option EntryState → Type 0
StoodBefore key found None = found ≡ None
StoodBefore key found (Some entry) = (entry.key ≡ key) × (found ≡ Some entry.item)

-- what is known of a key that may have lost its item since it was looked up: its hash, if the shelf
-- has the key, and by a place where it may be
pub record IsSought (shelf : ShelfContent) (key : List ℕ) (own : ℕ) (found : Option Place) : Type 0 where
  pub hash : IsHash shelf key own
  pub none : found ≡ None → get shelf.items key ≡ None

-- what is left of a write can be done: the key is known, and chunks are ready for what it makes beside
-- the key's item
pub record CanWriteBlock (plan : Plan) (body : Body) (chunks : Option ChunksState) (step : KeyStep) (shelf : ShelfState) : Type 0
  where
    pub short : length (key_of step) ≤ longest_key
    pub sought : IsSought shelf.content (key_of step) plan.hash plan.place
    pub ready : ChunksAreReady chunks body (key_of step)
        (block_beside shelf.content step body) shelf

-- an action is a write that is left, and can be done
abbrev pub CanWriteLeft : Plan → Action → KeyStep → ShelfState → Type 0
CanWriteLeft plan (Left unique chunks flags expiry body) step shelf =
    CanWriteBlock plan body chunks step shelf
CanWriteLeft plan next step shelf = ⊥

-- a write is left: what is left can be done, and is no number where it goes into the item's own chunks
pub record IsLeft (plan : Plan) (body : Body) (chunks : Option ChunksState) (step : KeyStep) (shelf : ShelfState) : Type 0
  where
    pub can : CanWriteBlock plan body chunks step shelf
    pub own : chunks ≡ None → counts body ≡ false

-- what is left of a step that comes next so can be done: it is begun if it writes, and then chunks are ready
abbrev pub CanWriteNext : Plan → Action → KeyStep → ShelfState → Type 0
CanWriteNext plan (Write size flags expiry body) step shelf = ⊥
CanWriteNext plan (Left unique chunks flags expiry body) step shelf =
    IsLeft plan body chunks step shelf
CanWriteNext plan next step shelf = Unit {0}

-- a plan that was begun can be finished
abbrev pub CanFinish : Plan → KeyStep → ShelfState → Type 0
CanFinish plan step shelf = CanWriteNext plan plan.next step shelf

-- chunks, where they are pages
abbrev pub pages_in : NeedState → Option NeedState
pages_in own = if own.class == 40 then Some own else None

-- the chunks of an item, where they are pages, that a body's block is joined to in others: one that
-- comes behind stays in the item's own, where the whole needs the same
abbrev pub left_behind : Body → (own need : NeedState) → Option NeedState
left_behind Appended own need = if same_need own need then None else pages_in own
left_behind Prepended own need = pages_in own
left_behind body own need = None

-- the chunks that brought ones may be exchanged for: pages of the key's item, which a join copies from
abbrev pub exchange_for : Action → (key : List ℕ) → Option Entry → Option NeedState
exchange_for (Write size flags expiry body) key (Some item) =
    left_behind body (item_need key item) (need_for size)
exchange_for next key found = None

-- what need chunks serve, where there are some
abbrev pub need_brought : Option ChunksState → Option NeedState
need_brought None = None
need_brought (Some chunks) = Some (need_in chunks)

-- the chunks of the key's item are out
abbrev pub IsOut : List ℕ → ShelfContent → DeskState → Type 0
IsOut key shelf desk =
    (item : Entry) → get shelf.items key ≡ Some item
    → IsClass (item_need key item).class
    → (item_need key item).count ≤ out_of desk.slab (item_need key item).class

-- the chunks of an item go back to a desk's slab
pub record GivesChunks (need : NeedState) (old new : DeskState) : Type 0 where
  pub given_is : new ≡ record old { slab = slabs.given old.slab need.class need.count }
  pub is_need : IsNeed need
  pub is_slab : IsSlab old.slab

-- the chunks of the item that was found go back
abbrev pub GivesBack : (key : List ℕ) → Option Entry → DeskState → DeskState → Type 0
GivesBack key None old new = new ≡ old
GivesBack key (Some item) old new = GivesChunks (item_need key item) old new

-- a desk after a number was drawn
abbrev pub drawn : DeskState → DeskState
drawn desk = record desk { next_unique = desk.next_unique + 1 }

-- the numbers that writes draw are spent
abbrev pub has_no_number : DeskState → Type 0
has_no_number desk = desk.next_unique ≡ 2 ^ 64 - 1

-- a write asks for pages: a number is left, and its class wants pages for the chunks that it needs, once those of a dead item
-- came back
pub record NeedsPages (next : Action) (shelf : ShelfContent) (key : List ℕ) (now : ℕ) (desk : DeskState)
    : Type 0 where
  pub size : ℕ
  pub flags : ℕ
  pub expiry : Expiry
  pub body : Body
  pub writes_it : next ≡ Write size flags expiry body
  pub number : has_no_number desk → ⊥
  pub pages : WantsPages desk.slab (need_for size) (back_at shelf key now (need_for size))

-- a plan that needs no desk
pub record CanSettle (plan : Plan) (shelf : ShelfContent) : Type 0 where
  pub step : KeyStep
  pub now : ℕ
  pub is_plan : IsPlan plan shelf step now
  pub no_desk : wants_desk plan.next ≡ false

-- In the plain machine's words, an answered step needs the desk: it draws a unique number for what
-- it writes, finds no chunk, or drops the key's item, which it deletes or finds dead.
abbrev pub ChangesItems : (key : List ℕ) → Plain → Reply → Plain → Type 0
ChangesItems key old reply new =
    (new.next_unique ≢ old.next_unique) ⊎ ((reply ≡ NoChunk) ⊎ ((get old.items key ≢ None) × (get new.items key ≡ None)))

-- a step's outcome needs the desk: so does its answer, or the unique numbers are spent
abbrev pub NeedsDesk : (key : List ℕ) → Plain → Outcome → Type 0
NeedsDesk key old (Answered reply new) = ChangesItems key old reply new
NeedsDesk key old Spent = Unit {0}

-- of each plain state that stands for the shelf and the desk, the step's outcome needs the desk
abbrev pub WantsDesk : KeyStep → ℕ → ShelfContent → DeskState → Type 0
WantsDesk step now shelf desk =
    (s : Plain) → StandsAt (key_of step) shelf desk s → NeedsDesk (key_of step) s (plain s step now)
