-- Input that is dropped.
use Rattle.std.proofs.Common.{◌≡◌, ℕ, ◌+◌, List}
use Rattle.mc_time.specs.Chains.{one_more}
use Rattle.mc_sockets.specs.declared.dropping.Drain.TheVariants.{Going}
use Rattle.mc_sockets.specs.declared.dropping.Dropping.{Dropping}
use Rattle.mc_sockets.specs.declared.stream.Received.{Received}
use Rattle.mc_sockets.specs.Dropping.{Drops, DropsInput, after_drop}

-- one more read was made
pub dropped_more : {S : Type 0} (receives : S → List ℕ → Received → S → Type 0) (before : ℕ) (first : S) (reads : ℕ) (old result : Dropping)
    (mid new : S) (answer : Received) (piece : List ℕ) → Drops receives before first reads old mid → old.drain ≡ Going
    → receives mid piece answer new → result ≡ after_drop old answer → Drops receives before first (reads + 1) result new
dropped_more receives before first reads old result mid new answer piece drops going call is =
    one_more drops (record { going = going; answer = answer; reads = (piece, call); dropped = is })

-- nothing more is to be dropped, or nothing now
pub drop_stops : {S : Type 0} (receives : S → List ℕ → Received → S → Type 0) (before : ℕ) (first : S) (reads : ℕ) (result : Dropping) (new : S)
    → Drops receives before first reads result new → (result.drain ≡ Going → ⊥) → DropsInput receives before first result new
drop_stops receives before first reads result new drops stops =
    record { reads = reads; drops = drops; most = λ going. absurd (stops going) }
