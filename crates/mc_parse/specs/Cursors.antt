-- The position in a retrieval after some of its turns.
use Rattle.std.specs.Prelude.{◌≡◌, ◌≤◌, ℕ, Bool, List, length, take, drop, ℤ, Option, Some, None, IfSome}
use Rattle.mc_protocol.specs.Words.{words}
use Rattle.mc_protocol.specs.Commands.{retrieval}
use Rattle.mc_protocol.specs.Commands.{Command}
use Rattle.mc_parse.specs.Units.{Request}
use Rattle.mc_parse.specs.Peeks.{IsLeft}
use Rattle.mc_parse.specs.declared.cursor.Cursor.{Cursor}
use Rattle.mc_parse.specs.declared.note.KeySpan.{KeySpan}

-- the cursor before the first turn of a retrieval of `len` bytes, whose text ends at `to`
abbrev pub first_cursor : KeySpan → (to len : ℕ) → (with_unique : Bool) → Option ℤ → Cursor
first_cursor keys to len with_unique exptime = record {
  taken = 0;
  from = keys.from;
  to = to;
  left = keys.count;
  len = len;
  with_unique = with_unique;
  exptime = exptime;
}

-- the text of the remaining keys
abbrev pub text_left : Cursor → List ℕ → List ℕ
text_left cursor bytes = drop cursor.from (take cursor.to bytes)

-- the retrieval of the remaining keys
abbrev pub retrieval_left : Cursor → List ℕ → Command
retrieval_left cursor bytes = retrieval cursor.exptime (words (text_left cursor bytes)) cursor.with_unique

-- the text is within the bytes, and has as many keys as the cursor counts
pub record IsWithin (cursor : Cursor) (bytes : List ℕ) : Type 0 where
  pub ordered : cursor.from ≤ cursor.to
  pub inside : cursor.to ≤ length bytes
  pub counted : cursor.left ≡ length (words (text_left cursor bytes))

-- and these keys are what is left of the first unit, after the turns that the cursor counts
pub record PointsInto (greatest : ℕ) (cursor : Cursor) (bytes : List ℕ) : Type 0 where
  pub within : IsWithin cursor bytes
  pub left : IsLeft greatest cursor.taken (Request (retrieval_left cursor bytes), cursor.len) bytes

-- the cursor is before the first turn
abbrev pub IsFirst : (greatest : ℕ) → Cursor → List ℕ → Type 0
IsFirst greatest cursor bytes = PointsInto greatest cursor bytes × (cursor.taken ≡ 0)

-- a cursor, if there is one, points into the bytes
abbrev pub IsCursor : (greatest : ℕ) → Option Cursor → List ℕ → Type 0
IsCursor greatest cursor bytes = IfSome cursor (λ c. PointsInto greatest c bytes)

-- and is before the first turn
abbrev pub IsFirstCursor : (greatest : ℕ) → Option Cursor → List ℕ → Type 0
IsFirstCursor greatest cursor bytes = IfSome cursor (λ c. IsFirst greatest c bytes)
