-- Streams of bytes below connections.
use Rattle.std.specs.Prelude.{◌≡◌, ◌≤◌, ℕ, List, ◌++◌, length, take, Option, None, option_map}
use Rattle.mc_links.specs.Links.{grown}
use Rattle.mc_time.specs.Chains.{Repeats}
use Rattle.mc_sockets.specs.declared.stream.NoBytes.TheVariants.{Interrupted}
use Rattle.mc_sockets.specs.declared.stream.Received.{Received}
use Rattle.mc_sockets.specs.declared.stream.Received.TheVariants as received
use Rattle.mc_sockets.specs.declared.stream.Sent.{Sent}
use Rattle.mc_sockets.specs.declared.stream.Sent.TheVariants as sent

-- The bytes that a stream will still give, the bytes that it gave, and the bytes that it took;
-- `None` where they are unspecified.
pub record Flow : Type 0 where
  pub left : Option (List ℕ)
  pub given : Option (List ℕ)
  pub taken : Option (List ℕ)

-- the flow of a stream whose bytes are unspecified
abbrev pub unknown : Flow
unknown = record { left = None; given = None; taken = None }

-- the stream gave these bytes, which were the front of what was left
pub record GivesFront (bytes : List ℕ) (old new : Flow) : Type 0 where
  pub left : old.left ≡ option_map (λ rest. bytes ++ rest) new.left
  pub given : new.given ≡ grown old.given bytes
  pub taken : new.taken ≡ old.taken

-- what a read does to the bytes, by its answer: the bytes that came are at the front of the piece, and
-- no other answer moves a byte
abbrev pub MovesIn : Flow → List ℕ → Received → Flow → Type 0
MovesIn old piece (received.Bytes n) new = (n ≤ length piece) × GivesFront (take n piece) old new
MovesIn old piece received.End new = new ≡ old
MovesIn old piece (received.Hindered hindrance) new = new ≡ old

-- what a write does to the bytes, by its answer: a front of them was taken, and no other answer moves
-- a byte
abbrev pub MovesOut : Flow → List ℕ → Sent → Flow → Type 0
MovesOut old bytes (sent.Bytes n) new =
    (n ≤ length bytes) × (new ≡ record old { taken = grown old.taken (take n bytes) })
MovesOut old bytes (sent.Hindered hindrance) new = new ≡ old

-- a signal interrupted a call this many times, one after another
abbrev pub AreInterrupted : {S A : Type 0} (call : S → A → S → Type 0) (interrupted : A) → ℕ → S → S → Type 0
AreInterrupted call interrupted times old new = Repeats (λ before after. call before interrupted after) times old new

-- A call that is made again if a signal interrupts it, and the answer of the last one, which may be
-- interrupted too behind 1000 others.
pub record IsRetried {S A : Type 0} (call last : S → A → S → Type 0) (interrupted : A) (old : S) (answer : A) (new : S) : Type 0 where
  pub times : ℕ
  pub before : S
  pub tries : AreInterrupted call interrupted times old before
  pub answers : last before answer new
  pub gives_up : answer ≡ interrupted → times ≡ 1000

-- a read into a piece, which then holds some bytes
abbrev pub into_some : {S : Type 0} → (S → List ℕ → Received → S → Type 0) → S → Received → S → Type 0
into_some receives old answer new = (piece : List ℕ) × receives old piece answer new

-- a read is made again if a signal interrupts it
abbrev pub IsReadAgain : {S : Type 0} → (S → List ℕ → Received → S → Type 0) → List ℕ → S → Received → S → Type 0
IsReadAgain receives piece =
    IsRetried (into_some receives) (λ old answer new. receives old piece answer new) (received.Hindered Interrupted)

-- a write is made again if a signal interrupts it
abbrev pub IsWrittenAgain : {S : Type 0} → (S → List ℕ → Sent → S → Type 0) → List ℕ → S → Sent → S → Type 0
IsWrittenAgain sends bytes =
    IsRetried (λ old answer new. sends old bytes answer new) (λ old answer new. sends old bytes answer new) (sent.Hindered Interrupted)
