-- The content of a feed.
use Rattle.std.specs.Prelude.{◌≡◌, ℕ, ◌-◌, List, [], ◌++◌, ◌⊎◌, length, take, drop, Option, Some, None, IfSome}
use Rattle.mc_parse.specs.declared.cursor.Cursor.{Cursor}
use Rattle.mc_parse.specs.declared.ahead.Ahead.{Ahead}
use Rattle.mc_parse.specs.Units.{ProtocolUnit}
use Rattle.mc_parse.specs.Streams.{passed_after}
use Rattle.mc_parse.specs.Peeks.{IsSpelled, BeginsWithNone, IsLeft, left_of}
use Rattle.mc_parse.specs.Cursors.{IsCursor}
use Rattle.mc_parse.specs.Aheads.{Knows}

-- the greatest charge, the number of bytes still to be skipped, and the bytes that arrived and
-- aren't read
pub record Unread : Type 0 where
  pub greatest : ℕ
  pub passed : ℕ
  pub bytes : List ℕ

-- the bytes that arrived: those of an offered unit, or those of the queue
abbrev pub arrived : Option (List ℕ) → List ℕ → List ℕ
arrived None queue = queue
arrived (Some unit) queue = unit

-- the part stands in the unit from this place on
abbrev pub IsPartAt : (unit : List ℕ) → (from : ℕ) → (part : List ℕ) → Type 0
IsPartAt unit from part = part ≡ take (length part) (drop from unit)

-- the bytes to be skipped that have arrived are dropped
abbrev pub settled : Unread → Unread
settled u = record { greatest = u.greatest; passed = u.passed - length u.bytes; bytes = drop u.passed u.bytes }

-- a piece of the stream has arrived
abbrev pub pushed : Unread → List ℕ → Unread
pushed u piece = settled (record u { bytes = u.bytes ++ piece })

-- the feed took a piece; an empty piece changes nothing
abbrev pub TakesPiece : (old new : Unread) → List ℕ → Type 0
TakesPiece old new piece = (new ≡ pushed old piece) × (piece ≡ [] → new ≡ old)

-- a unit of `len` bytes was read: they are dropped, and the next `passed` bytes are to be skipped
abbrev pub read : Unread → (len passed : ℕ) → Unread
read u len passed = settled (record u { passed = passed; bytes = drop len u.bytes })

-- no byte is unread while some are still to be skipped
abbrev pub IsSettled : Unread → Type 0
IsSettled u = (u.passed ≡ 0) ⊎ (u.bytes ≡ [])

-- no front of what is left behind the bytes to be skipped spells anything
abbrev pub HasNoUnit : Unread → Type 0
HasNoUnit u = BeginsWithNone u.greatest (drop u.passed u.bytes)

-- the unit is spelled by the front of the returned length, and no byte is to be skipped
abbrev pub Finds : Unread → Option (ProtocolUnit × ℕ) → Type 0
Finds u found = IfSome found (λ f. (u.passed ≡ 0) × IsSpelled u.greatest f u.bytes)

-- any unit that a front spells is found
abbrev pub FindsAny : Unread → Option (ProtocolUnit × ℕ) → Type 0
FindsAny u found = (unit : ProtocolUnit) (len : ℕ) → u.passed ≡ 0 → IsSpelled u.greatest (unit, len) u.bytes → found ≡ Some (unit, len)

-- what is found is left, after `taken` turns, of a unit that the front of the returned length
-- spells
abbrev pub FindsLeft : Unread → (taken : ℕ) → Option (ProtocolUnit × ℕ) → Type 0
FindsLeft u taken found = IfSome found (λ f. (u.passed ≡ 0) × IsLeft u.greatest taken f u.bytes)

-- for any unit that a front spells, what is left after `taken` turns is found
abbrev pub FindsAnyLeft : Unread → (taken : ℕ) → Option (ProtocolUnit × ℕ) → Type 0
FindsAnyLeft u taken found =
    (unit : ProtocolUnit) (len : ℕ) → u.passed ≡ 0 → IsSpelled u.greatest (unit, len) u.bytes → found ≡ Some (left_of unit taken, len)

-- a unit has this length, and no byte is to be skipped
abbrev pub HasUnit : Unread → (len : ℕ) → Type 0
HasUnit u len = (unit : ProtocolUnit) × IsSpelled u.greatest (unit, len) u.bytes × (u.passed ≡ 0)

-- the second is the first after reading a unit of this length, with the bytes that it skips
abbrev pub ReadsUnit : Unread → (len : ℕ) → Unread → Type 0
ReadsUnit old len new = (unit : ProtocolUnit) → IsSpelled old.greatest (unit, len) old.bytes → new ≡ read old len (passed_after unit)

-- the memory that an empty feed keeps, in bytes
abbrev pub kept_in_feed : ℕ
kept_in_feed = 65536

-- What a feed keeps beside its bytes: none is unread while some are to be skipped; the cursor and
-- what is known of the front are right.
pub record IsKept (greatest passed : ℕ) (cursor : Option Cursor) (ahead : Ahead) (bytes : List ℕ) : Type 0 where
  pub settled : (passed ≡ 0) ⊎ (bytes ≡ [])
  pub points : IsCursor greatest cursor bytes
  pub knows : Knows greatest ahead bytes
