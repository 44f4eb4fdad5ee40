-- How a queue stores its bytes.
use Rattle.std.specs.Prelude.{◌≡◌, ◌≤◌, ◌+◌, ◌*◌, ℕ, List, [], length, max}

-- the bytes of a buffer, and the number of bytes that are reserved for them
pub record BufferState : Type 0 where
  pub bytes : List ℕ
  pub reserved : ℕ

-- the bytes of a queue that aren't consumed; the number of bytes in its memory, which has consumed
-- ones in front of them; and the number of bytes that are reserved
pub record QueueState : Type 0 where
  pub bytes : List ℕ
  pub filled : ℕ
  pub reserved : ℕ

-- a queue without bytes and without memory
abbrev pub nothing_held : QueueState
nothing_held = record { bytes = []; filled = 0; reserved = 0 }

-- the memory for this number of bytes: twice as much, and at least 8 bytes
abbrev pub twice : ℕ → ℕ
twice filled = max 8 (2 * filled)

-- the memory reserved for a text once a sixteenth of it has come: the whole text, as many consumed
-- bytes as have come, and 16384 bytes behind it
abbrev pub begun : (there : ℕ) → ℕ
begun there = 17 * there + 16399

-- at most as many consumed bytes are in memory as others
abbrev pub IsHalfFull : QueueState → Type 0
IsHalfFull queue = queue.filled ≤ 2 * length queue.bytes

-- an append leaves the memory that was reserved, or twice the bytes in it
abbrev pub IsGrown : (old new : QueueState) → Type 0
IsGrown old new = new.reserved ≤ max old.reserved (twice new.filled)

-- the same for a part of a text; room may be made for it
abbrev pub IsGrownForText : (old new : QueueState) → Type 0
IsGrownForText old new =
    new.reserved ≤ max (max old.reserved (twice new.filled)) (begun (length old.bytes))

-- a buffer has bytes that aren't consumed, unless it is empty; an empty one reserves at most `kept`
pub record IsStored (kept taken : ℕ) (buffer : List ℕ) (reserved : ℕ) : Type 0 where
  pub inside : taken ≤ length buffer
  pub some : length buffer ≤ taken → length buffer ≡ 0
  pub small : length buffer ≡ 0 → reserved ≤ kept

-- the memory that an idle empty queue keeps, in bytes
abbrev pub first_piece : ℕ
first_piece = 2048
