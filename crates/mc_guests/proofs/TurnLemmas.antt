-- What a turn is.
use Rattle.std.proofs.Common.{◌≡◌, ◌≢◌, ℕ, refl, inl, inr, Option, Some, None, IfSome}
use Rattle.std.specs.Prelude.{is_none}
use Rattle.mc_protocol.specs.declared.step.Steps.{Ghosts as Relations}
use Rattle.mc_guests.specs.Asks.{AsksAndVisits, IsKeptWaiting, ComesToOne}
use Rattle.mc_guests.specs.Budgets.{uncounted, IsHeldBack, IsCounted, Recounts}
use Rattle.mc_guests.specs.Guests.{RowGuest}
use Rattle.mc_guests.specs.declared.budget.Budget.{Budget}
use Rattle.mc_guests.specs.Turns.{HasTurn}
use Rattle.mc_guests.specs.declared.guest.Visit.{Visit}
use Rattle.mc_guests.specs.declared.guest.Visit.TheVariants.{Wrote}

module _ {S : Type 0} (relations : Relations S) (now : ℕ) where
  -- a guest was visited with an answer, or is kept waiting where there was none
  pub has_turn : (result : Option Visit) (old new : RowGuest) (before after : S) (budget later : Budget)
      → IfSome result (λ answer. AsksAndVisits relations now answer old.guest new.guest before after)
      → (result ≡ None → IsKeptWaiting relations now old.guest new.guest before after)
      → (result ≡ None → IsHeldBack new.guest (uncounted old.counted old.waits budget)) → new.waits ≡ is_none result → Recounts old new budget later
      → IfSome result (λ answer. answer ≢ Wrote → IsCounted new later)
      → HasTurn relations now (before, budget) (old, new) (after, later)
  has_turn None old new before after budget later some none held waits counts covers =
      record { turn = inr (record { kept = none refl; held_back = held refl; waits = waits }); counts = counts }
  has_turn (Some answer) old new before after budget later some none held waits counts covers =
      record { turn = inl (record { answer = answer; visits = some; goes_on = waits; counted = covers }); counts = counts }

  -- a guest that has a turn is one to which the round comes
  pub comes : (before after : S × Budget) (guest : RowGuest × RowGuest) → HasTurn relations now before guest after
      → ComesToOne relations now before.0 after.0
  comes before after guest has = record {
    old = guest.0.guest;
    new = guest.1.guest;
    turn = elim has.turn [ inl visited ↦ inl (visited.answer, visited.visits) | inr waits ↦ inr waits.kept ];
  }
