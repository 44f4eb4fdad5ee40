-- The plain machine: one step on one key at a time.
use Rattle.std.specs.Prelude.{ℕ, ◌+◌, ◌-◌, ◌*◌, ◌^◌, ◌%◌, ◌==◌, ◌&&◌, Bool, true, false, List, [], ◌++◌, length, drop, replicate, sum, slice_index, slice_set, Option, Some, None, is_some, refl, nat_lt, nat_le, decimal, if◌then◌else◌}
use Rattle.std.specs.Coded.{Coded, code_by, coded×, coded_ℕ, coded_list, coded_option}
use Rattle.std.specs.Ordering.{nat_cmp}
use Rattle.std.specs.Cmp.Lexicographic.{slice_cmp}
use Rattle.std.specs.FinMap.{FinMap, entries, get, insert, remove, retain_keys, empty, code}
use Rattle.std.specs.List.{take_while, list_all, sum_by}
use Rattle.std.specs.Char.{is_ascii_digit}
use Rattle.mc_time.specs.declared.expiry.Expiry.{Expiry}
use Rattle.mc_time.specs.Death.{expiry_of, moment_named, is_dead}
use Rattle.mc_time.specs.Stored.{coded_expiry}
use Rattle.mc_sizes.specs.Classes.{chunks_a_page}
use Rattle.mc_sizes.specs.Needs.{NeedState, need_for, same_need}
use Rattle.mc_protocol.specs.Words.{is_space}
use Rattle.mc_protocol.specs.Numbers.{number_up_to}
use Rattle.mc_protocol.specs.declared.limits.TheConstants.{CHUNK_HEAD}
use Rattle.mc_protocol.specs.declared.step.Verb.{Verb}
use Rattle.mc_protocol.specs.declared.step.Verb.TheVariants.{Set, Add, Replace, Append, Prepend}
use Rattle.mc_protocol.specs.declared.step.KeyStep.{KeyStep}
use Rattle.mc_protocol.specs.declared.step.KeyStep.TheVariants.{Store, Cas, Read, ReadTouch, Touch, Delete, Count, Flush}
use Rattle.mc_protocol.specs.Commands.{View, OnKey, OnAll, view, key_of}
use Rattle.mc_protocol.specs.declared.row.Row.{Row}
use Rattle.mc_protocol.specs.declared.row.Row.TheVariants.{Refuses, Reads, Touches, Deletes, Writes}
use Rattle.mc_protocol.specs.declared.row.Refusal.{Refusal}
use Rattle.mc_protocol.specs.declared.row.Refusal.TheVariants as refusal
use Rattle.mc_protocol.specs.declared.row.Body.{Body}
use Rattle.mc_protocol.specs.declared.row.Body.TheVariants.{Given, Appended, Prepended, Counted}
use Rattle.mc_protocol.specs.declared.reply.Reply.{Reply}
use Rattle.mc_protocol.specs.declared.reply.Reply.TheVariants.{Stored, NotStored, Exists, NotFound, Miss, Hit, Touched, Deleted, Number, NotNumeric, TooLarge, NoChunk, Flushed}

-- an item under a key
pub record Entry : Type 0 where
  pub flags : ℕ
  pub expiry : Expiry
  pub block : List ℕ
  pub unique : ℕ
  pub updated : ℕ

-- items under keys, which are lists of bytes
abbrev pub Items : Type 0
Items = FinMap (slice_cmp nat_cmp) Entry

-- The state: the items, the flush that is waiting or has come, the number that the next write
-- draws, and how many pages each slab class has, class 1 first. Beside them, what no step changes:
-- the greatest charge and the limit of pages.
pub record Plain : Type 0 where
  pub greatest : ℕ
  pub limit : ℕ
  pub items : Items
  pub cut : Option ℕ
  pub next_unique : ℕ
  pub pages : List ℕ

-- how many slab classes there are
abbrev pub class_count : ℕ
class_count = 40

-- a store without items that never drew a number; no class has a page
abbrev pub opening : ℕ → ℕ → Plain
opening limit greatest = record {
  greatest = greatest;
  limit = limit;
  items = empty;
  cut = None;
  next_unique = 1;
  pages = replicate class_count 0;
}

-- the same, where the first write draws this number
abbrev pub starting : (limit greatest next : ℕ) → Plain
starting limit greatest next = record (opening limit greatest) { next_unique = next }

-- a step is answered, and leaves a state; or it would draw the last unique number, and changes
-- nothing
pub data Outcome : Type 0 where
  Answered : Reply → Plain → Outcome
  Spent : Outcome

-- what a chunk holds beside the key and the block, in bytes
abbrev pub chunk_head : ℕ
chunk_head = CHUNK_HEAD

-- how many bytes of a chunk an item takes
abbrev pub charge : List ℕ → List ℕ → ℕ
charge key block = chunk_head + length key + length block

-- what that charge needs
abbrev pub block_need : List ℕ → List ℕ → NeedState
block_need key block = need_for (charge key block)

-- what an item needs: what its charge does
abbrev pub item_need : List ℕ → Entry → NeedState
item_need key item = block_need key item.block

-- how many chunks of a class a need asks for
abbrev pub chunks_in : NeedState → ℕ → ℕ
chunks_in need class = if need.class == class then need.count else 0

-- how many chunks of a class the items in the map have, the dead ones too that aren't dropped yet
abbrev pub count_of : Items → ℕ → ℕ
count_of items class = sum_by (λ e. chunks_in (item_need e.0 e.1) class) (entries items)

-- a class's pages
abbrev pub pages_of : Plain → ℕ → ℕ
pages_of old class = slice_index old.pages (class - 1)

-- how many chunks a class's pages have
abbrev pub chunks_of : Plain → ℕ → ℕ
chunks_of old class = pages_of old class * chunks_a_page class

-- how many of its pages' chunks no item has
abbrev pub unused : Plain → ℕ → ℕ
unused old class = chunks_of old class - count_of old.items class

-- the chunks of a need can be had: they have no item, or can be cut from the pages that are left
abbrev pub has_room : Plain → NeedState → Bool
has_room old need =
    nat_le need.count
    (unused old need.class + (old.limit - sum old.pages) * chunks_a_page need.class)

-- the pages more for its class that a need wants, if too few chunks have no item
abbrev pub with_chunk : Plain → NeedState → Plain
with_chunk old need = record old {
  pages = slice_set old.pages (need.class - 1)
      (pages_of old need.class + (need.count - unused old need.class));
}

-- the number that a block is: 1 to 20 digits of a value below 2 ^ 64, followed by any number of
-- spaces and nothing else
abbrev pub number_of : List ℕ → Option ℕ
number_of block =
    let digits = take_while is_ascii_digit block in
    if nat_le (length digits) 20 && list_all is_space (drop (length digits) block)
    then number_up_to (2 ^ 64 - 1) digits
    else None

-- the number counted up, which wraps at 2 ^ 64, or down, which stops at 0
abbrev pub counted : Bool → ℕ → ℕ → ℕ
counted true by old = (old + by) % (2 ^ 64)
counted false by old = old - by

-- a write of the step's own block, with these flags and this expiry
abbrev pub given : (flags : ℕ) → Expiry → Row
given flags expiry = Writes flags expiry Given

-- a write beside the old item's block, with its flags and its expiry
abbrev pub joined : Entry → Body → Row
joined old body = Writes old.flags old.expiry body

-- what a step does whose key has no item: it refuses, or stores its own block
pub data Absent : Type 0 where
  Lacks : Refusal → Absent
  Stores : (flags : ℕ) → Expiry → Absent

-- set, add, replace, append and prepend of a key without an item
abbrev pub stored_anew : Verb → (flags : ℕ) → Expiry → Absent
stored_anew Set flags expiry = Stores flags expiry
stored_anew Add flags expiry = Stores flags expiry
stored_anew Replace flags expiry = Lacks refusal.NotStored
stored_anew Append flags expiry = Lacks refusal.NotStored
stored_anew Prepend flags expiry = Lacks refusal.NotStored

-- the same of a key with an item
abbrev pub stored_over : Verb → (flags : ℕ) → Expiry → Entry → Row
stored_over Set flags expiry old = given flags expiry
stored_over Add flags expiry old = Refuses refusal.NotStored
stored_over Replace flags expiry old = given flags expiry
stored_over Append flags expiry old = joined old Appended
stored_over Prepend flags expiry old = joined old Prepended

-- this row for the item with this unique number alone
abbrev pub if_unique : Entry → (unique : ℕ) → Row → Row
if_unique old unique row = if old.unique == unique then row else Refuses refusal.Exists

-- incr and decr of an item, by the number that its block is
abbrev pub number_row : Entry → Bool → ℕ → Option ℕ → Row
number_row old up by None = Refuses refusal.NotNumeric
number_row old up by (Some number) = joined old (Counted (counted up by number))

-- The protocol's table, its first column: what a step does whose key has no item. A flush has no
-- key, so its key has none.
abbrev pub if_absent : KeyStep → ℕ → Absent
if_absent (Store verb key flags exptime block) now =
    stored_anew verb flags (expiry_of exptime now)
if_absent (Cas key flags exptime block unique) now = Lacks refusal.NotFound
if_absent (Read key) now = Lacks refusal.Miss
if_absent (ReadTouch key exptime) now = Lacks refusal.Miss
if_absent (Touch key exptime) now = Lacks refusal.NotFound
if_absent (Delete key) now = Lacks refusal.NotFound
if_absent (Count key up by) now = Lacks refusal.NotFound
if_absent (Flush delay) now = Lacks refusal.NotFound

-- its second column: what a step does whose key has this item
abbrev pub if_present : KeyStep → ℕ → Entry → Row
if_present (Store verb key flags exptime block) now old =
    stored_over verb flags (expiry_of exptime now) old
if_present (Cas key flags exptime block unique) now old =
    if_unique old unique (given flags (expiry_of exptime now))
if_present (Read key) now old = Reads None
if_present (ReadTouch key exptime) now old = Reads (Some (expiry_of exptime now))
if_present (Touch key exptime) now old = Touches (expiry_of exptime now)
if_present (Delete key) now old = Deletes
if_present (Count key up by) now old = number_row old up by (number_of old.block)
if_present (Flush delay) now old = Refuses refusal.NotFound

-- a row of the first column
abbrev pub absent_row : Absent → Row
absent_row (Lacks refusal) = Refuses refusal
absent_row (Stores flags expiry) = given flags expiry

-- the row of a step on a key, given the item under it
abbrev pub row_of : KeyStep → ℕ → Option Entry → Row
row_of step now None = absent_row (if_absent step now)
row_of step now (Some old) = if_present step now old

-- the reply of a refusal
abbrev pub refusal_reply : Refusal → Reply
refusal_reply refusal.NotStored = NotStored
refusal_reply refusal.Exists = Exists
refusal_reply refusal.NotFound = NotFound
refusal_reply refusal.Miss = Miss
refusal_reply refusal.NotNumeric = NotNumeric

-- the reply of a retrieval, by the item that it finds
abbrev pub hit_of : Option Entry → Reply
hit_of None = Miss
hit_of (Some old) = Hit old.flags old.unique old.block

-- the reply of a write
abbrev pub write_reply : Body → Reply
write_reply Given = Stored
write_reply Appended = Stored
write_reply Prepended = Stored
write_reply (Counted number) = Number number

-- the block that a step brings that is seen so, and none if it brings none
abbrev pub block_seen : View → List ℕ
block_seen (OnKey key block) = block
block_seen (OnAll delay) = []

-- the block that a step brings
abbrev pub block_of : KeyStep → List ℕ
block_of step = block_seen (view step)

-- the block that a write puts under the key, by the one that the step brings and the item that
-- stands
abbrev pub written_block : Body → List ℕ → Option Entry → List ℕ
written_block Given block item = block
written_block Appended block None = block
written_block Appended block (Some old) = old.block ++ block
written_block Prepended block None = block
written_block Prepended block (Some old) = block ++ old.block
written_block (Counted number) block item = decimal number

-- a number that an item was counted to stays in its chunks if it needs the same
abbrev pub keeps_chunk : Body → List ℕ → Option Entry → Bool
keeps_chunk Given key item = false
keeps_chunk Appended key item = false
keeps_chunk Prepended key item = false
keeps_chunk (Counted number) key None = false
keeps_chunk (Counted number) key (Some old) =
    same_need (item_need key old) (block_need key (decimal number))

-- an item that isn't dead
abbrev pub alive : Option ℕ → ℕ → Option Entry → Option Entry
alive cut now None = None
alive cut now (Some item) = if is_dead item.expiry item.updated cut now then None else Some item

-- the item that stands under a key: one that isn't dead
abbrev pub standing : Plain → List ℕ → ℕ → Option Entry
standing old key now = alive old.cut now (get old.items key)

-- the items that aren't dead
abbrev pub living : Items → Option ℕ → ℕ → Items
living items cut now = retain_keys items (λ key. is_some (alive cut now (get items key)))

-- if no item stands under the key, a dead one is dropped
abbrev pub without_dead : Option Entry → List ℕ → Plain → Plain
without_dead None key old = record old { items = remove old.items key }
without_dead (Some item) key old = old

-- the state with this item under the key, under the next unique number
abbrev pub written : Plain → List ℕ → (flags : ℕ) → Expiry → (block : List ℕ) → ℕ → Plain
written old key flags expiry block now = record old {
  items = insert old.items key (record {
    flags = flags;
    expiry = expiry;
    block = block;
    unique = old.next_unique;
    updated = now;
  });
  next_unique = old.next_unique + 1;
}

-- A write, of an item that stays in the old one's chunks or takes those that it needs. It checks
-- first whether the charge is at most the greatest, then whether a unique number is left, and then,
-- for an item that takes chunks, whether they can be had.
abbrev pub wrote
    : (stays : Bool) → Reply → List ℕ → (flags : ℕ) → Expiry → (block : List ℕ) → Plain → ℕ
    → Outcome
wrote stays reply key flags expiry block old now =
    if nat_lt old.greatest (charge key block) then Answered TooLarge old
    else if old.next_unique == 2 ^ 64 - 1 then Spent
    else if stays then Answered reply (written old key flags expiry block now)
    else if has_room old (block_need key block) then
    Answered reply (written (with_chunk old (block_need key block)) key flags expiry block now)
    else Answered NoChunk old

-- the key's item with another expiry, if there is one
abbrev pub expiring : Option Entry → List ℕ → Expiry → Plain → Plain
expiring None key expiry old = old
expiring (Some item) key expiry old =
    record old { items = insert old.items key (record item { expiry = expiry }) }

-- the same if an expiry is given
abbrev pub perhaps_expiring : Option Entry → List ℕ → Option Expiry → Plain → Plain
perhaps_expiring item key None old = old
perhaps_expiring item key (Some expiry) old = expiring item key expiry old

-- what a row does at a step's key, where this item stands and a dead one is dropped
abbrev pub changed : Row → KeyStep → Option Entry → Plain → ℕ → Outcome
changed (Refuses refusal) step item old now = Answered (refusal_reply refusal) old
changed (Reads expiry) step item old now =
    Answered (hit_of item) (perhaps_expiring item (key_of step) expiry old)
changed (Touches expiry) step item old now =
    Answered Touched (expiring item (key_of step) expiry old)
changed Deletes step item old now =
    Answered Deleted (record old { items = remove old.items (key_of step) })
changed (Writes flags expiry body) step item old now =
    let key = key_of step in
    wrote (keeps_chunk body key item) (write_reply body) key flags expiry
    (written_block body (block_of step) item) old now

-- a step at its key: the key's dead item is dropped, and then the step's row applies to the item
-- that stands
abbrev pub stepped : Plain → KeyStep → ℕ → Outcome
stepped old step now =
    let item = standing old (key_of step) now in
    changed (row_of step now item) step item (without_dead item (key_of step) old) now

-- A flush at once leaves no item and no flush that waits. One with a delay drops what is dead, and
-- from its moment on what was updated before that is dead too; it takes the place of a flush that
-- waits.
abbrev pub flushed : ℕ → Plain → ℕ → Plain
flushed delay old now =
    if delay == 0 then record old { items = empty; cut = None }
    else record old { items = living old.items old.cut now; cut = Some (moment_named delay now) }

-- a step at a moment, by its view
abbrev pub taken : View → Plain → KeyStep → ℕ → Outcome
taken (OnKey key block) old step now = stepped old step now
taken (OnAll delay) old step now = Answered Flushed (flushed delay old now)

-- one step at a moment
abbrev pub plain : Plain → KeyStep → ℕ → Outcome
plain old step now = taken (view step) old step now

-- a reply that a block is copied for
abbrev pub CopiesBlock : Reply → Type 0
CopiesBlock Stored = Unit {0}
CopiesBlock NotStored = ⊥
CopiesBlock Exists = ⊥
CopiesBlock NotFound = ⊥
CopiesBlock Miss = ⊥
CopiesBlock (Hit flags unique block) = Unit {0}
CopiesBlock Touched = ⊥
CopiesBlock Deleted = ⊥
CopiesBlock (Number number) = Unit {0}
CopiesBlock NotNumeric = ⊥
CopiesBlock TooLarge = ⊥
CopiesBlock NoChunk = ⊥
CopiesBlock Flushed = ⊥

-- what may be refused memory: a hit and a write, and nothing else
abbrev pub MayFail : Outcome → Type 0
MayFail (Answered reply new) = CopiesBlock reply
MayFail Spent = ⊥

-- how a proof stores an entry, and the state
abbrev pub coded_entry : Coded Entry
coded_entry =
    code_by (ℕ × (Expiry × (List ℕ × (ℕ × ℕ))))
    (coded× coded_ℕ (coded× coded_expiry (coded× (coded_list coded_ℕ) (coded× coded_ℕ coded_ℕ))))
    (λ e. (e.flags, (e.expiry, (e.block, (e.unique, e.updated)))))
    (λ p. record { flags = p.0; expiry = p.1.0; block = p.1.1.0; unique = p.1.1.1.0; updated = p.1.1.1.1 })
    (λ _. refl)

abbrev pub coded_plain : Coded Plain
coded_plain =
    code_by (ℕ × (ℕ × (Items × (Option ℕ × (ℕ × List ℕ)))))
    (coded× coded_ℕ (coded× coded_ℕ (coded× (code (coded_list coded_ℕ) coded_entry)
    (coded× (coded_option coded_ℕ) (coded× coded_ℕ (coded_list coded_ℕ))))))
    (λ s. (s.greatest, (s.limit, (s.items, (s.cut, (s.next_unique, s.pages))))))
    (λ p. record { greatest = p.0; limit = p.1.0; items = p.1.1.0; cut = p.1.1.1.0; next_unique = p.1.1.1.1.0; pages = p.1.1.1.1.1 })
    (λ _. refl)
