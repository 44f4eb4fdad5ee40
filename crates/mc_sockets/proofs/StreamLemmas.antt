-- Calls that are made again.
use Rattle.std.proofs.Common.{◌≡◌, ℕ, ◌+◌, List, subst}
use Rattle.mc_time.specs.Chains.{one_more}
use Rattle.mc_sockets.specs.Streams.{AreInterrupted, into_some, Flow, MovesIn, MovesOut}
use Rattle.mc_sockets.specs.declared.stream.NoBytes.TheVariants.{Interrupted}
use Rattle.mc_sockets.specs.declared.stream.Received.{Received}
use Rattle.mc_sockets.specs.declared.stream.Received.TheVariants as received
use Rattle.mc_sockets.specs.declared.stream.Sent.{Sent}
use Rattle.mc_sockets.specs.declared.stream.Sent.TheVariants as sent

-- a read that was interrupted once more
pub read_interrupted : {S : Type 0} (receives : S → List ℕ → Received → S → Type 0) (times : ℕ) (old mid new : S) (piece : List ℕ)
    (answer : Received) → answer ≡ received.Hindered Interrupted
    → AreInterrupted (into_some receives) (received.Hindered Interrupted) times old mid → receives mid piece answer new
    → AreInterrupted (into_some receives) (received.Hindered Interrupted) (times + 1) old new
read_interrupted receives times old mid new piece answer is before call =
    one_more before (piece, subst (λ (given : Received). receives mid piece given new) is call)

-- a write that was interrupted once more
pub write_interrupted : {S : Type 0} (sends : S → List ℕ → Sent → S → Type 0) (bytes : List ℕ) (times : ℕ) (old mid new : S)
    (answer : Sent) → answer ≡ sent.Hindered Interrupted
    → AreInterrupted (λ s given t. sends s bytes given t) (sent.Hindered Interrupted) times old mid → sends mid bytes answer new
    → AreInterrupted (λ s given t. sends s bytes given t) (sent.Hindered Interrupted) (times + 1) old new
write_interrupted sends bytes times old mid new answer is before call =
    one_more before (subst (λ (given : Sent). sends mid bytes given new) is call)

-- a read that was interrupted moved no byte
pub moves_nothing_in : (old new : Flow) (piece : List ℕ) (answer : Received) → answer ≡ received.Hindered Interrupted
    → MovesIn old piece answer new → new ≡ old
moves_nothing_in old new piece answer is moves = let hindered = subst (λ (given : Received). MovesIn old piece given new) is moves in hindered

-- a write that was interrupted moved no byte
pub moves_nothing_out : (old new : Flow) (bytes : List ℕ) (answer : Sent) → answer ≡ sent.Hindered Interrupted
    → MovesOut old bytes answer new → new ≡ old
moves_nothing_out old new bytes answer is moves = let hindered = subst (λ (given : Sent). MovesOut old bytes given new) is moves in hindered
