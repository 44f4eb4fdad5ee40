-- The parts of a run.
use Rattle.std.specs.Prelude.{ℕ, ◌+◌, ◌^◌, ◌<◌, ◌≤◌, List, [], length, Option}
use Rattle.std.specs.Io.KnownBytes.{Consumes}
use Rattle.mc_session.specs.declared.endpoint.Endpoint.{Ghosts as Relations}
use Rattle.mc_session.specs.Exchanges.{longest_piece, Scene, Exchanges, FallsShort}

module _ {E S : Type 0} (relations : Relations E S) where
  -- a piece was read and brought to the endpoint, or nothing was read
  pub data Reads (old : E) (before : S) (reader_old reader_new : Option (List ℕ)) : E → S
      → Type 0 where
    read_piece : {new : E} {after : S} (piece : List ℕ) → length piece ≤ longest_piece
        → Consumes reader_old reader_new piece
        → relations.takes piece old before new after
        → Reads old before reader_old reader_new new after
    read_nothing : Consumes reader_old reader_new [] → Reads old before reader_old reader_new old
        before

  -- a piece was read, and memory for it was refused
  pub record LosesPiece (old : E) (before : S) (reader_old reader_new : Option (List ℕ)) (new : E)
      (after : S) : Type 0 where
    pub piece : List ℕ
    pub some : 0 < length piece
    pub short : length piece ≤ longest_piece
    pub consumes : Consumes reader_old reader_new piece
    pub loses : relations.loses_piece piece old before new after

module _ {E S : Type 0} (relations : Relations E S) (may_give : ℕ → Type 0) where
  -- what was done before a round and the round are what was done after it: one more turn
  pub record GoesOn (old new : Scene E S) : Type 0 where
    pub goes : (most : ℕ) (first : Scene E S) → Exchanges relations may_give most first old
        → Exchanges relations may_give (most + 1) first new

  -- the same if the round was refused memory
  pub record IsRefused (old new : Scene E S) : Type 0 where
    pub goes : (most : ℕ) (first : Scene E S) → most < 2 ^ 40
        → Exchanges relations may_give most first old → FallsShort relations may_give first new
