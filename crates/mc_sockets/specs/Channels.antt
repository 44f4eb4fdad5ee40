-- What calls of a channel do.
use Rattle.std.specs.Prelude.{◌≡◌, ℕ, List, length, take, is_some, MatchBool, Option, Some, None, IfSome, Result, Ok, Err, IsErr, unwrap_or}
use Rattle.mc_links.specs.declared.link.Got.{Got}
use Rattle.mc_links.specs.declared.link.Got.TheVariants.{Bytes as GaveBytes, Later as GaveNone, End as GaveEnd}
use Rattle.mc_links.specs.declared.link.Took.{Took}
use Rattle.mc_links.specs.declared.link.Took.TheVariants.{Bytes as TookBytes, Later as TookNone}
use Rattle.mc_links.specs.declared.link.LinkFault.{LinkFault}
use Rattle.mc_links.specs.Links.{LinkState}
use Rattle.mc_metrics.specs.declared.counts.Counted.{Counted}
use Rattle.mc_metrics.specs.declared.counts.Counted.TheVariants as counted
use Rattle.mc_sockets.specs.declared.channel.Calls.{Calls}
use Rattle.mc_sockets.specs.declared.connection.CloseReason.{CloseReason}
use Rattle.mc_sockets.specs.declared.connection.CloseReason.TheVariants as parting
use Rattle.mc_sockets.specs.declared.readiness.Readiness.{Readiness}
use Rattle.mc_sockets.specs.declared.stream.NoBytes.TheVariants.{WouldBlock, Interrupted, Fault}
use Rattle.mc_sockets.specs.declared.stream.Received.{Received}
use Rattle.mc_sockets.specs.declared.stream.Received.TheVariants as received
use Rattle.mc_sockets.specs.declared.stream.Sent.{Sent}
use Rattle.mc_sockets.specs.declared.stream.Sent.TheVariants as sent
use Rattle.mc_sockets.specs.Readiness.{after, Read, Wrote}
use Rattle.mc_sockets.specs.Streams.{Flow, GivesFront, IsReadAgain, IsWrittenAgain}

-- a channel as a link: the bytes that its stream gave and took, and its calls
abbrev pub link_of : Flow → Calls → LinkState
link_of flow calls = record {
  given = flow.given;
  taken = flow.taken;
  faults = calls.faults;
  is_ended = calls.is_ended;
  was_read = calls.was_read;
  requested = calls.requested;
}

-- A read of a connection that has this readiness: one that is to be closed is at its end, one with
-- nothing to read would block, and any other reads its stream.
abbrev pub ReadsBy : {S : Type 0} → (S → List ℕ → Received → S → Type 0) → Readiness → List ℕ → S → Received → S → Type 0
ReadsBy receives known piece old answer new =
    MatchBool (is_some known.ends) ((answer ≡ received.End) × (new ≡ old))
    (MatchBool known.reads (IsReadAgain receives piece old answer new)
    ((answer ≡ received.Hindered WouldBlock) × (new ≡ old)))

-- a write of a connection that has this readiness: one without room would block, and any other writes
-- to its stream
abbrev pub WritesBy : {S : Type 0} → (S → List ℕ → Sent → S → Type 0) → Readiness → List ℕ → S → Sent → S → Type 0
WritesBy sends known bytes old answer new =
    MatchBool known.writes (IsWrittenAgain sends bytes old answer new)
    ((answer ≡ sent.Hindered WouldBlock) × (new ≡ old))

-- what a link answers to a read that was answered so: `Later` where it would block, the end at the
-- end, and a fault where it failed or was only interrupted
abbrev pub IsGot : Received → Result Got LinkFault → Type 0
IsGot (received.Bytes n) result = result ≡ Ok (GaveBytes n)
IsGot received.End result = result ≡ Ok GaveEnd
IsGot (received.Hindered WouldBlock) result = result ≡ Ok GaveNone
IsGot (received.Hindered Interrupted) result = IsErr result
IsGot (received.Hindered Fault) result = IsErr result

-- what a read of a link gives: the front of what its stream had left, and no other answer takes any of it
abbrev pub GivesLeft : Flow → List ℕ → Result Got LinkFault → Flow → Type 0
GivesLeft old piece (Ok (GaveBytes n)) new = GivesFront (take n piece) old new
GivesLeft old piece (Ok GaveNone) new = new ≡ old
GivesLeft old piece (Ok GaveEnd) new = new ≡ old
GivesLeft old piece (Err fault) new = new ≡ old

-- a read counts the bytes that it brought as received, once; any other answer counts nothing
abbrev pub CountsRead : {M : Type 0} → (M → Counted → ℕ → M → Type 0) → Result Got LinkFault → M → M → Type 0
CountsRead counts (Ok (GaveBytes n)) old new = counts old counted.Received n new
CountsRead counts (Ok GaveNone) old new = new ≡ old
CountsRead counts (Ok GaveEnd) old new = new ≡ old
CountsRead counts (Err fault) old new = new ≡ old

-- a write counts the bytes that were taken as sent, once; any other answer counts nothing
abbrev pub CountsWrite : {M : Type 0} → (M → Counted → ℕ → M → Type 0) → Result Took LinkFault → M → M → Type 0
CountsWrite counts (Ok (TookBytes n)) old new = counts old counted.Sent n new
CountsWrite counts (Ok TookNone) old new = new ≡ old
CountsWrite counts (Err fault) old new = new ≡ old

-- what a link answers to a write that was answered so: one that would block fails if the connection
-- is to be closed
abbrev pub IsTook : Readiness → Sent → Result Took LinkFault → Type 0
IsTook known (sent.Bytes n) result = result ≡ Ok (TookBytes n)
IsTook known (sent.Hindered WouldBlock) result = MatchBool (is_some known.ends) (IsErr result) (result ≡ Ok TookNone)
IsTook known (sent.Hindered Interrupted) result = IsErr result
IsTook known (sent.Hindered Fault) result = IsErr result

-- the reason of a close, if the connection is closed after a read with this answer
abbrev pub parting_after_read : Readiness → Received → CloseReason → CloseReason
parting_after_read known (received.Bytes n) before = before
parting_after_read known received.End before = unwrap_or known.ends parting.Ended
parting_after_read known (received.Hindered WouldBlock) before = before
parting_after_read known (received.Hindered Interrupted) before = parting.ReadFault
parting_after_read known (received.Hindered Fault) before = parting.ReadFault

-- the same after a write that failed; what is noted after any other goes by its text
abbrev pub parting_after_write : Readiness → Sent → Option CloseReason
parting_after_write known (sent.Bytes n) = None
parting_after_write known (sent.Hindered WouldBlock) = known.ends
parting_after_write known (sent.Hindered Interrupted) = Some parting.WriteFault
parting_after_write known (sent.Hindered Fault) = Some parting.WriteFault

-- A channel's stream, what is known of its readiness, and the reason of a close.
pub record ChannelState (S : Type 0) : Type 0 where
  pub stream : S
  pub known : Option Readiness
  pub parting : CloseReason

abbrev pub at : {S : Type 0} → S → Option Readiness → CloseReason → ChannelState S
at stream known parting = record { stream = stream; known = known; parting = parting }

-- A read of a channel: it goes by what is known, answers as the stream did, and notes what that says
-- of the readiness and why the connection would be closed.
pub record AnswersRead {S : Type 0} (receives : S → List ℕ → Received → S → Type 0) (piece : List ℕ) (result : Result Got LinkFault) (old new : ChannelState S) : Type 0 where
  pub known : Readiness
  pub is_known : IfSome old.known (λ stood. known ≡ stood)
  pub answer : Received
  pub reads : ReadsBy receives known piece old.stream answer new.stream
  pub got : IsGot answer result
  pub noted : IfSome new.known (λ stands. stands ≡ after known (Read answer (length piece)))
  pub parting : new.parting ≡ parting_after_read known answer old.parting

-- a write of a channel, likewise
pub record AnswersWrite {S : Type 0} (sends : S → List ℕ → Sent → S → Type 0) (bytes : List ℕ) (offered : ℕ) (result : Result Took LinkFault) (old new : ChannelState S) : Type 0 where
  pub known : Readiness
  pub is_known : IfSome old.known (λ stood. known ≡ stood)
  pub answer : Sent
  pub writes : WritesBy sends known bytes old.stream answer new.stream
  pub took : IsTook known answer result
  pub noted : IfSome new.known (λ stands. stands ≡ after known (Wrote answer offered))
  pub parting : IfSome (parting_after_write known answer) (λ noted. new.parting ≡ noted)
