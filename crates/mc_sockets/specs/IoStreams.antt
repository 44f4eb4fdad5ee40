-- Streams over the reads and writes of the standard library.
use Rattle.std.specs.Prelude.{◌≡◌, ◌≢◌, ◌<◌, ℕ, List, Option, Result, Ok, Err}
use Rattle.std.specs.Io.{ReadsAtMost, WritesAtMost}
use Rattle.std.specs.Io.KnownBytes.{ReadConsumes, WriteAppends}
use Rattle.std.specs.IoError.{error_kind}
use Rattle.std.specs.declared.io.Error.{Error}
use Rattle.std.specs.declared.io.ErrorKind.TheVariants as io_kind
use Rattle.mc_sockets.specs.declared.stream.NoBytes.{NoBytes}
use Rattle.mc_sockets.specs.declared.stream.NoBytes.TheVariants.{WouldBlock, Interrupted, Fault}
use Rattle.mc_sockets.specs.declared.stream.Received.{Received}
use Rattle.mc_sockets.specs.declared.stream.Received.TheVariants as received
use Rattle.mc_sockets.specs.declared.stream.Sent.{Sent}
use Rattle.mc_sockets.specs.declared.stream.Sent.TheVariants as sent

-- what an error of the system says of a call: that it would block, that a signal interrupted it, or
-- that the stream failed
pub record IsHindrance (error : Error) (hindrance : NoBytes) : Type 0 where
  pub waits : error_kind error ≡ io_kind.WouldBlock → hindrance ≡ WouldBlock
  pub again : error_kind error ≡ io_kind.Interrupted → hindrance ≡ Interrupted
  pub fails : error_kind error ≢ io_kind.WouldBlock → error_kind error ≢ io_kind.Interrupted → hindrance ≡ Fault

-- the answer of the system to a read: no byte is the end of the stream
abbrev pub IsReceived : Result ℕ Error → Received → Type 0
IsReceived (Ok n) answer = (n ≡ 0 → answer ≡ received.End) × (0 < n → answer ≡ received.Bytes n)
IsReceived (Err error) answer = (hindrance : NoBytes) × IsHindrance error hindrance × (answer ≡ received.Hindered hindrance)

-- the answer of the system to a write
abbrev pub IsSent : Result ℕ Error → Sent → Type 0
IsSent (Ok n) answer = answer ≡ sent.Bytes n
IsSent (Err error) answer = (hindrance : NoBytes) × IsHindrance error hindrance × (answer ≡ sent.Hindered hindrance)

-- A stream was read by one call, which took from the known bytes what it gave, and answered by that call's
-- answer. The end comes where no known byte is left.
pub record ReadsOnce (old : Option (List ℕ)) (piece : List ℕ) (answer : Received) (new : Option (List ℕ)) : Type 0 where
  pub result : Result ℕ Error
  pub bound : ReadsAtMost result piece
  pub moves : ReadConsumes old new result piece
  pub answers : IsReceived result answer

-- these bytes were written by one call, which appended to the known ones what it took, and answered by that
-- call's answer
pub record WritesOnce (old : Option (List ℕ)) (bytes : List ℕ) (answer : Sent) (new : Option (List ℕ)) : Type 0 where
  pub result : Result ℕ Error
  pub bound : WritesAtMost result bytes
  pub moves : WriteAppends old new result bytes
  pub answers : IsSent result answer
