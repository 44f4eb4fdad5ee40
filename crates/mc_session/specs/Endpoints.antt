-- A session as one end of a connection, over a store that takes steps.
use Rattle.std.specs.Prelude.{◌≡◌, ◌⊎◌, ℕ, IsTrue, IsFalse}
use Rattle.mc_protocol.specs.declared.step.Steps.{Ghosts as StepRelations}
use Rattle.mc_session.specs.declared.endpoint.Endpoint.{Ghosts as Relations}
use Rattle.mc_session.specs.Turns.{SessionState, TakesTurn, DecidesStep, TurnIsDue, NoTurnDue, fed, sent}

module _ {S : Type 0} (relations : StepRelations S) where
  -- a turn was taken, or none was due or the session was closed
  abbrev pub GivesTurn : ℕ → SessionState → S → SessionState → S → Type 0
  GivesTurn now old before new after = TakesTurn relations now old new before after
      ⊎ ((IsFalse old.is_open ⊎ NoTurnDue old) × (new ≡ old) × (after ≡ before))

  -- a turn was due, and its step wasn't taken, or it was and its text is missing
  abbrev pub LosesTurn : ℕ → SessionState → S → SessionState → S → Type 0
  LosesTurn now old before new after = TurnIsDue old
      × (relations.same before after ⊎ DecidesStep relations now old before after)

  abbrev pub in_session : Relations SessionState S
  in_session =
      record {
        waits = λ session _. session.out;
        sends = λ n old before new after. (new ≡ sent old n) × (after ≡ before);
        turns = GivesTurn;
        loses_turn = LosesTurn;
        takes = λ piece old before new after. (new ≡ fed old piece) × (after ≡ before);
        loses_piece = λ _ _ before _ after. after ≡ before;
        is_idle = λ session _. IsTrue session.is_open × NoTurnDue session;
        is_closed = λ session _. IsFalse session.is_open;
      }
