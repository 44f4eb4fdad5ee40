use Rattle.std.proofs.Common.{Bool, true, false, ◌⊎◌, inl, inr, refl, IsTrue, IsFalse}
use Rattle.mc_session.proofs.endpoint.SessionEndpoint.take_turn.Goals as goal

-- it was decided, or it wasn't
either : {A B : Type 0} (decided : Bool) → (IsFalse decided → A) → (IsTrue decided → B) → A ⊎ B
either true stays takes = inr (takes refl)
either false stays takes = inl (stays refl)

pub returns-in-Err-clause-err : goal.returns-in-Err-clause-err
returns-in-Err-clause-err g c = (c.in-Err.ensures.due, either c.in-Err.field-0.decided c.in-Err.ensures.undecided c.in-Err.ensures.decided)
