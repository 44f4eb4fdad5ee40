-- The life of one guest of a worker.
use Rattle.std.specs.Prelude.{ℕ, List, [], ◌++◌}
use Rattle.mc_shared.specs.Asking.{AskingState}
use Rattle.mc_guests.specs.Guests.{GuestState}
use Rattle.mc_guests.specs.Asks.{MayAsk, NamesKey, LosesLink}
use Rattle.mc_guests.specs.Visits.{Visited}
use Rattle.mc_guests.specs.Telling.{TakenTurn, turns_of}
use Rattle.mc_guests.specs.declared.guest.Visit.{Visit}
use Rattle.mc_workers.specs.Tending.{GoesFurther}
use Rattle.mc_workers.specs.Rounds.{as_caller}

module _ {K : Type 0} (hash_of : K → List ℕ → ℕ) (may_give : ℕ → Type 0) where
  -- What became of a guest since its worker began, with the turns that it took: its caller made calls for others; the key of
  -- its next turn was measured; it was visited; or it lost its link while it was kept waiting for room.
  pub data Lives (begin : AskingState K) (first : GuestState)
      : List (TakenTurn (as_caller hash_of)) → (guest : GuestState) (caller : AskingState K) → Type 0 where
    unborn : Lives begin first [] first begin
    others : {turns : List (TakenTurn (as_caller hash_of))} {guest : GuestState} {before after : AskingState K}
        → Lives begin first turns guest before → GoesFurther may_give before after → Lives begin first turns guest after
    measured : {turns : List (TakenTurn (as_caller hash_of))} {guest : GuestState} {before after : AskingState K} {now : ℕ}
        → Lives begin first turns guest before → may_give now → MayAsk (as_caller hash_of) now (NamesKey guest.session) before after
        → Lives begin first turns guest after
    visited : {turns : List (TakenTurn (as_caller hash_of))} {old new : GuestState} {before after : AskingState K} {now : ℕ}
        {answer : Visit} → Lives begin first turns old before → may_give now
        → (visit : Visited (as_caller hash_of) now answer old new before after)
        → Lives begin first (turns ++ turns_of (as_caller hash_of) now answer old new before after visit) new after
    lost : {turns : List (TakenTurn (as_caller hash_of))} {old new : GuestState} {caller : AskingState K}
        → Lives begin first turns old caller → LosesLink old new → Lives begin first turns new caller
