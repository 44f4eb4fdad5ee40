-- A whole run of a session over a reader and a writer.
use mathlib.Core.Logic.{inl}
use Rattle.std.specs.Prelude.{◌≡◌, ◌^◌, ℕ, List, [], ◌∷◌, ◌++◌, Option}
use Rattle.mc_time.specs.Chains.{Chain, Repeats, none_yet, one_more}
use Rattle.mc_protocol.specs.declared.step.Steps.{Ghosts as Relations}
use Rattle.mc_parse.specs.Units.{ProtocolUnit}
use Rattle.mc_session.specs.Exchanges.{scene, Progress, ExchangeStep, turn, Exchanges, HasEnded, FallsShort}
use Rattle.mc_session.specs.Endpoints.{in_session}
use Rattle.mc_session.specs.Turns.{SessionState, opened, TakesTurn}

-- the session with the output that was written still in front
abbrev pub with_written : List ℕ → SessionState → SessionState
with_written written session = record session { out = written ++ session.out }

-- the session with this output
abbrev pub with_out : List ℕ → SessionState → SessionState
with_out out session = record session { out = out }

module _ {S : Type 0} (relations : Relations S) (may_give : ℕ → Type 0) where
  -- this turn was taken, at a moment that the clock may give: its unit, and which of the unit's
  -- turns it is
  pub record RunTurn (old : SessionState × S) (turn : ProtocolUnit × ℕ) (new : SessionState × S)
      : Type 0 where
    pub now : ℕ
    pub gives : may_give now
    pub takes : TakesTurn relations now old.0 new.0 old.1 new.1
    pub is : turn ≡ (takes.unit, old.0.taken)

  -- these turns were taken, in order
  abbrev pub Run : SessionState → S → List (ProtocolUnit × ℕ) → SessionState → S → Type 0
  Run first before taken last after = Chain RunTurn (first, before) taken (last, after)

  -- the turns that were taken, with one step more: a call of the session's turn may have taken one
  abbrev pub with_step : {old new : Progress SessionState S} → List (ProtocolUnit × ℕ)
      → ExchangeStep (in_session relations) may_give old new → List (ProtocolUnit × ℕ)
  with_step {old = old} taken (turn now gives small (inl takes)) =
      taken ++ (takes.unit, old.endpoint.taken) ∷ []
  with_step taken step = taken

  -- the turns that were taken by what was done with a session, in order
  abbrev pub turns_taken : {steps : ℕ} {old new : Progress SessionState S}
      → Repeats (ExchangeStep (in_session relations) may_give) steps old new
      → List (ProtocolUnit × ℕ)
  turns_taken none_yet = []
  turns_taken (one_more front step) = with_step (turns_taken front) step

-- A session that takes charges of at most `greatest` is opened and served: the store before it and
-- after it, and what is known of the bytes of the reader and of the writer.
module _ {S : Type 0} (relations : Relations S) (may_give : ℕ → Type 0) (greatest : ℕ)
    (before after : S) (reader_old reader_new writer_old writer_new : Option (List ℕ)) where
  -- a beginning of a run: this was done with a session since it was opened, with at most 2^40 calls
  -- of its turn
  pub record Serves : Type 0 where
    pub last : SessionState
    pub run : Exchanges (in_session relations) may_give (2 ^ 40)
        (scene (opened greatest) before reader_old writer_old)
        (scene last after reader_new writer_new)

  -- the whole run: every text was written, and the session closed or its stream is at its end
  pub record ServesAll : Type 0 where
    pub serves : Serves
    pub written : serves.last.out ≡ []
    pub ended : HasEnded (in_session relations) serves.last after reader_new

  -- Memory was refused: for the buffer for pieces, before anything was done; or, after a beginning
  -- of a run, for a turn or a piece.
  pub data ServesUntilRefused : Type 0 where
    no_buffer : after ≡ before → reader_new ≡ reader_old → writer_new ≡ writer_old
        → ServesUntilRefused
    falls_short : (last : SessionState)
        → FallsShort (in_session relations) may_give
        (scene (opened greatest) before reader_old writer_old)
        (scene last after reader_new writer_new)
        → ServesUntilRefused
