-- Definitions for the laws of a shared store.
use Rattle.std.specs.Prelude.{◌≡◌, ℕ, ℤ, ◌*◌, ◌<◌, ◌≤◌, ◌⊎◌, true, List, [], ◌∷◌, ◌++◌, Option, Some, None}
use Rattle.std.specs.FinMap.{get}
use Rattle.mc_time.specs.Death.{expiry_of}
use Rattle.mc_protocol.specs.declared.step.Verb.TheVariants.{Append, Prepend}
use Rattle.mc_protocol.specs.declared.step.KeyStep.{KeyStep}
use Rattle.mc_protocol.specs.declared.step.KeyStep.TheVariants.{Store, Cas, Read, ReadTouch, Count, Flush}
use Rattle.mc_protocol.specs.declared.reply.Reply.{Reply}
use Rattle.mc_protocol.specs.declared.reply.Reply.TheVariants.{Stored, Hit, Number}
use Rattle.mc_protocol.specs.Commands.{key_of}
use Rattle.mc_protocol.specs.Plain.{Plain, plain, alive, hit_of, number_of, Answered}
use Rattle.mc_protocol.specs.Plain.{Entry as Item}
use Rattle.mc_shared.specs.History.{Beginning, Name, Operation, Stepped, Purged, HistoryEntry, shelf_in, after, IsLegal}
use Rattle.mc_shared.specs.Past.{Past, spent, start, call, made, both, same, KeptBy}
use Rattle.mc_shared.specs.Store.{with_call}

-- ---- where entries stand

-- an entry is in a history
abbrev pub StandsInLog : List HistoryEntry → HistoryEntry → Type 0
StandsInLog log e =
    (before : List HistoryEntry) × (rest : List HistoryEntry) × (log ≡ before ++ e ∷ rest)

-- an entry is before another in a history
pub record StandsBefore (log : List HistoryEntry) (first second : HistoryEntry) : Type 0 where
  pub before : List HistoryEntry
  pub between : List HistoryEntry
  pub rest : List HistoryEntry
  pub is : log ≡ before ++ first ∷ between ++ second ∷ rest

-- ---- what a past has

-- a past has an entry, held or seen
abbrev pub Has : Past → HistoryEntry → Type 0
Has spent e = ⊥
Has (start c seen) e = Has seen e
Has (call p d) e = (d ≡ e) ⊎ Has p e
Has (made p d) e = Has p e
Has (both p q) e = Has p e ⊎ Has q e

-- a past is within another: it is that one, or went into it, held or seen
abbrev pub PastIsWithin : Past → Past → Type 0
PastIsWithin p spent = p ≡ spent
PastIsWithin p (start c seen) = (p ≡ start c seen) ⊎ PastIsWithin p seen
PastIsWithin p (call q e) = (p ≡ call q e) ⊎ PastIsWithin p q
PastIsWithin p (made q d) = (p ≡ made q d) ⊎ PastIsWithin p q
PastIsWithin p (both q o) = (p ≡ both q o) ⊎ (PastIsWithin p q ⊎ PastIsWithin p o)

-- The caller of a call knew another call when it made it: its own, one of its maker before it was
-- made, or one of a caller that was joined into it.
abbrev pub CallerKnew : Past → (later known : HistoryEntry) → Type 0
CallerKnew p later known = (before : Past) × PastIsWithin (call before later) p × Has before known

-- a caller had the past, and later has the other
abbrev pub WentOn : Past → Past → Type 0
WentOn p spent = p ≡ spent
WentOn p (start c seen) = p ≡ start c seen
WentOn p (call q e) = (p ≡ call q e) ⊎ WentOn p q
WentOn p (made q d) = (p ≡ made q d) ⊎ WentOn p q
WentOn p (both q o) = (p ≡ both q o) ⊎ WentOn p q

-- the first caller alone: it made calls and nothing else
abbrev pub IsAlone : Past → Type 0
IsAlone spent = ⊥
IsAlone (start c seen) = (c ≡ []) × (seen ≡ spent)
IsAlone (call p e) = IsAlone p
IsAlone (made p d) = ⊥
IsAlone (both p q) = ⊥

-- a step at a moment, and its reply
pub record Call : Type 0 where
  pub step : KeyStep
  pub now : ℕ
  pub reply : Reply

-- a past with these further calls, in order
abbrev pub with_calls : Past → List Call → Past
with_calls p [] = p
with_calls p (c ∷ cs) = with_calls (with_call p c.step c.now c.reply) cs

-- the past of a caller that heeded a note: it joined a caller without calls, of this name, that the
-- giver had made
abbrev pub heeded : (taker : Past) → Name → (giver : Past) → Past
heeded taker note giver = both taker (start note giver)

-- the plain machine takes these steps in order, and gives these replies
abbrev pub PlainAnswers : Plain → List Call → Type 0
PlainAnswers old [] = Unit {0}
PlainAnswers old (c ∷ cs) =
    (new : Plain) × (plain old c.step c.now ≡ Answered c.reply new) × PlainAnswers new cs

-- ---- what is under a key

-- the item under a key after some entries
abbrev pub item_after : Beginning → List HistoryEntry → List ℕ → Option Item
item_after began log key = get (after began began.plain log).items key

-- an operation may change the item under a key: a flush, a step on that key except a read that
-- hits, and a purge of its shelf
abbrev pub MayChange : Beginning → List ℕ → Operation → Type 0
MayChange began key (Stepped (Flush delay) now reply) = Unit {0}
MayChange began key (Stepped (Read other) now (Hit flags unique block)) = ⊥
MayChange began key (Stepped step now reply) = key_of step ≡ key
MayChange began key (Purged shelf now) = shelf_in began key ≡ shelf

-- the reply of a read after some entries, if this item is under its key: a hit of it, or a miss if
-- there is none or it is dead at the read's moment
abbrev pub read_of : Beginning → List HistoryEntry → (now : ℕ) → Option Item → Reply
read_of began log now item = hit_of (alive (after began began.plain log).cut now item)

-- A read of a key returns the result of one entry: the last before it that may change the key's
-- item.
pub record IsTold (began : Beginning) (log : List HistoryEntry) (key : List ℕ) (now : ℕ) (reply : Reply)
    (last read : HistoryEntry) : Type 0 where
  pub places : StandsBefore log last read
  pub changes : MayChange began key last.what
  pub spared : (e : HistoryEntry) → StandsInLog places.between e → MayChange began key e.what → ⊥
  pub told : reply ≡ read_of began (places.before ++ last ∷ places.between) now
      (item_after began (places.before ++ last ∷ []) key)

-- The same for a caller's read. The entry isn't before any entry of the caller's past that may
-- change the key's item.
pub record ReadsLatest (began : Beginning) (log : List HistoryEntry) (p : Past) (key : List ℕ) (now : ℕ)
    (reply : Reply) (read : HistoryEntry) : Type 0 where
  pub last : HistoryEntry
  pub is_told : IsTold began log key now reply last read
  pub latest : (e : HistoryEntry) → Has p e → MayChange began key e.what
      → (e ≡ last) ⊎ StandsInLog is_told.places.before e

-- the item with this content, stored at a moment and with a unique number
abbrev item_with : (flags : ℕ) → ℤ → (block : List ℕ) → (now unique : ℕ) → Item
item_with flags exptime block now unique = record {
  flags = flags;
  expiry = expiry_of exptime now;
  block = block;
  unique = unique;
  updated = now;
}

-- the item that a step stores as it was given, at a moment and with a unique number
abbrev pub item_given : KeyStep → (now unique : ℕ) → Option Item
item_given (Store Append key flags exptime block) now unique = None
item_given (Store Prepend key flags exptime block) now unique = None
item_given (Store verb key flags exptime block) now unique =
    Some (item_with flags exptime block now unique)
item_given (Cas key flags exptime block known) now unique =
    Some (item_with flags exptime block now unique)
item_given step now unique = None

-- A write is before a read of its key, and the read returns the item that the write stored as it
-- was given, or a miss once that is dead; or another entry between the two may have changed it.
pub record ReadsWrite (began : Beginning) (log : List HistoryEntry) (now : ℕ) (reply : Reply)
    (step : KeyStep) (then : ℕ) (write read : HistoryEntry) : Type 0 where
  pub places : StandsBefore log write read
  pub given : (item : Item)
      → item_given step then (after began began.plain places.before).next_unique ≡ Some item
      → item_after began (places.before ++ write ∷ []) (key_of step) ≡ Some item
  pub told : (reply ≡ read_of began (places.before ++ write ∷ places.between) now
      (item_after began (places.before ++ write ∷ []) (key_of step)))
      ⊎ ((other : HistoryEntry) × StandsInLog places.between other
      × MayChange began (key_of step) other.what)

-- a step that stores an item as it was given if it is answered Stored: a set, an add, a replace or
-- a cas
abbrev pub StoresAsGiven : KeyStep → (now : ℕ) → Type 0
StoresAsGiven step now = (unique : ℕ) → (item : Item) × (item_given step now unique ≡ Some item)

-- in a legal history that keeps the past, an entry after a write may change the key's item
pub record IsTakenAway (began : Beginning) (p : Past) (key : List ℕ) (write : HistoryEntry) : Type 0
  where
    pub log : List HistoryEntry
    pub legal : IsLegal began began.plain log
    pub keeps : KeptBy log p
    pub stands : StandsInLog log write
    pub other : HistoryEntry
    pub behind : StandsInLog stands.1 other
    pub changes : MayChange began key other.what

-- an item with this content is under a key
abbrev pub HasItem : Plain → List ℕ → (flags unique : ℕ) → (block : List ℕ) → Type 0
HasItem m key flags unique block = (item : Item) × (get m.items key ≡ Some item)
    × (item.flags ≡ flags) × (item.unique ≡ unique) × (item.block ≡ block)

-- a step on a key that was answered as a write
abbrev pub Wrote : List ℕ → Operation → Type 0
Wrote key (Stepped step now Stored) = key_of step ≡ key
Wrote key (Stepped step now (Number number)) = key_of step ≡ key
Wrote key what = ⊥

-- the fields of a hit
pub record Found : Type 0 where
  pub flags : ℕ
  pub unique : ℕ
  pub block : List ℕ

-- the reply of a hit with these fields
abbrev pub hit : Found → Reply
hit found = Hit found.flags found.unique found.block

-- a read of a key, a get or a gat, with this hit
abbrev pub IsHit : List ℕ → Found → Operation → Type 0
IsHit key found (Stepped (Read other) now reply) = (other ≡ key) × (reply ≡ hit found)
IsHit key found (Stepped (ReadTouch other exptime) now reply) = (other ≡ key) × (reply ≡ hit found)
IsHit key found what = ⊥

-- a hit is no older than another: its unique number is not smaller, and if that is equal, so are
-- the flags and the block
abbrev pub IsNoOlder : (was is : Found) → Type 0
IsNoOlder was is = (was.unique ≤ is.unique) × (is.unique ≡ was.unique → is ≡ was)

-- the unique number of each item was drawn: it is below the next one
abbrev pub HasDrawnNumbers : Plain → Type 0
HasDrawnNumbers m =
    (key : List ℕ) (item : Item) → get m.items key ≡ Some item → item.unique < m.next_unique

-- one of some entries wrote a key, with this unique number, and left this content under it
pub record IsWrittenIn (began : Beginning) (log : List HistoryEntry) (key : List ℕ) (flags unique : ℕ)
    (block : List ℕ) : Type 0 where
  pub before : List HistoryEntry
  pub write : HistoryEntry
  pub rest : List HistoryEntry
  pub stands : log ≡ before ++ write ∷ rest
  pub wrote : Wrote key write.what
  pub drew : unique ≡ (after began began.plain before).next_unique
  pub left : HasItem (after began began.plain (before ++ write ∷ [])) key flags unique block

-- the item under a key is a number
abbrev pub IsNumber : Plain → List ℕ → ℕ → Type 0
IsNumber m key number =
    (item : Item) × (get m.items key ≡ Some item) × (number_of item.block ≡ Some number)

-- an incr of a key that was answered with a number
abbrev pub IsCount : List ℕ → Operation → Type 0
IsCount key (Stepped (Count other true by) now (Number number)) = other ≡ key
IsCount key what = ⊥

-- how much an operation adds to a key's number
abbrev pub counts_by : List ℕ → Operation → ℕ
counts_by key (Stepped (Count other true by) now (Number number)) = same other key * by
counts_by key what = 0

-- how much an entry adds
abbrev pub counts_up : List ℕ → HistoryEntry → ℕ
counts_up key e = counts_by key e.what
