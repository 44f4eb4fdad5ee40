-- Input that is dropped behind the last answer.
use Rattle.std.specs.Prelude.{◌≡◌, ℕ, List, ◌+◌, ◌-◌, ◌^◌, min, nat_lt, if◌then◌else◌}
use Rattle.mc_time.specs.Chains.{Repeats}
use Rattle.mc_sockets.specs.declared.dropping.Drain.{Drain}
use Rattle.mc_sockets.specs.declared.dropping.Drain.TheVariants.{Going, Waiting, Done}
use Rattle.mc_sockets.specs.declared.dropping.Dropping.{Dropping}
use Rattle.mc_sockets.specs.declared.stream.NoBytes.TheVariants.{WouldBlock, Interrupted, Fault}
use Rattle.mc_sockets.specs.declared.stream.Received.{Received}
use Rattle.mc_sockets.specs.declared.stream.Received.TheVariants as received
use Rattle.mc_sockets.specs.Streams.{into_some}

-- the most input bytes that are dropped behind the last answer
abbrev pub most_dropped : ℕ
most_dropped = 1_048_576

-- after fewer dropped bytes there may be more to drop
abbrev pub state_after : (bytes : ℕ) → Drain
state_after bytes = if nat_lt bytes most_dropped then Going else Done

-- What was dropped after a read that was answered so: its bytes more. Nothing more is to be dropped at
-- the end and after a fault, and nothing now where the read would block.
abbrev pub after_drop : Dropping → Received → Dropping
after_drop old (received.Bytes n) =
    record { bytes = min (old.bytes + n) (2 ^ 64 - 1); drain = state_after (min (old.bytes + n) (2 ^ 64 - 1)) }
after_drop old received.End = record { bytes = old.bytes; drain = Done }
after_drop old (received.Hindered WouldBlock) = record { bytes = old.bytes; drain = Waiting }
after_drop old (received.Hindered Interrupted) = old
after_drop old (received.Hindered Fault) = record { bytes = old.bytes; drain = Done }

-- `before` bytes were dropped before
abbrev pub starts : (before : ℕ) → Dropping
starts before = record { bytes = before; drain = Going }

-- a read where there may be more to drop, and what was dropped after it
pub record DropsOnce {S : Type 0} (receives : S → List ℕ → Received → S → Type 0) (old new : Dropping × S) : Type 0 where
  pub going : old.0.drain ≡ Going
  pub answer : Received
  pub reads : into_some receives old.1 answer new.1
  pub dropped : new.0 ≡ after_drop old.0 answer

-- `reads` reads, one after another, each where there may be more to drop
abbrev pub Drops : {S : Type 0} → (S → List ℕ → Received → S → Type 0) → (before : ℕ) → S → (reads : ℕ) → Dropping → S → Type 0
Drops receives before first reads result new = Repeats (DropsOnce receives) reads (starts before, first) (result, new)

-- input is dropped until nothing more is to be dropped, or nothing now, or 128 reads were made
pub record DropsInput {S : Type 0} (receives : S → List ℕ → Received → S → Type 0) (before : ℕ) (old : S) (result : Dropping) (new : S) : Type 0 where
  pub reads : ℕ
  pub drops : Drops receives before old reads result new
  pub most : result.drain ≡ Going → reads ≡ 128
