-- The output of visits: the bytes that a link took, and the bytes that wait for it.
use mathlib.Core.Logic.{inl, inr}
use Rattle.std.specs.Prelude.{◌≡◌, ℕ, List, [], ◌∷◌, ◌++◌, map}
use Rattle.mc_protocol.specs.declared.step.Steps.{Ghosts as Relations}
use Rattle.mc_parse.specs.Units.{ProtocolUnit}
use Rattle.mc_session.specs.Turns.{SessionState, TakesTurn, turns}
use Rattle.mc_guests.specs.Guests.{GuestState}
use Rattle.mc_guests.specs.Visits.{Visited}
use Rattle.mc_guests.specs.declared.guest.Visit.{Visit}
use Rattle.mc_guests.specs.declared.guest.Visit.TheVariants.{Wrote, Turned, Read}

module _ {S : Type 0} (relations : Relations S) where
  -- A turn that a session took at a moment, with a store. Its text is the one that answers it, by
  -- the reply of its step if it takes one.
  pub record TakenTurn : Type 0 where
    pub now : ℕ
    pub old : SessionState
    pub new : SessionState
    pub before : S
    pub after : S
    pub takes : TakesTurn relations now old new before after

  -- the texts of turns, one after another
  abbrev pub texts : List TakenTurn → List ℕ
  texts [] = []
  texts (turn ∷ turns) = turn.takes.text ++ texts turns

  -- the turn that a visit took: the one of a visit that turned, and none of any other
  abbrev pub turns_of : (now : ℕ) (answer : Visit) (old new : GuestState) (before after : S)
      → Visited relations now answer old new before after → List TakenTurn
  turns_of now answer old new before after (inl ended) = []
  turns_of now Turned old new before after (inr due) =
      record {
        now = now;
        old = old.session;
        new = new.session;
        before = before;
        after = after;
        takes = due.does.takes;
      } ∷ []
  turns_of now answer old new before after (inr due) = []

  -- Visits of one guest, one after another, and the turns that they took, in their order. Between two
  -- of them other guests may have changed the store.
  pub data Visits : List TakenTurn → (old new : GuestState) → Type 0 where
    nothing : {guest : GuestState} → Visits [] guest guest
    visit : {turns : List TakenTurn} {first old new : GuestState} {before after : S} (now : ℕ)
        (answer : Visit) → Visits turns first old
        → (visited : Visited relations now answer old new before after)
        → Visits (turns ++ turns_of now answer old new before after visited) first new

  -- the bytes that the link gave in a visit: the piece that was read
  abbrev pub piece_of : (now : ℕ) (answer : Visit) (old new : GuestState) (before after : S)
      → Visited relations now answer old new before after → List ℕ
  piece_of now answer old new before after (inl ended) = []
  piece_of now Read old new before after (inr due) = due.does.0.piece
  piece_of now answer old new before after (inr due) = []

  -- the bytes that the link took in a visit: the part of the output that was written
  abbrev pub part_of : (now : ℕ) (answer : Visit) (old new : GuestState) (before after : S)
      → Visited relations now answer old new before after → List ℕ
  part_of now answer old new before after (inl ended) = []
  part_of now Wrote old new before after (inr due) = due.does.0.part
  part_of now answer old new before after (inr due) = []

  -- the bytes that the link gave in visits, one piece after another
  abbrev pub bytes_given : {turns : List TakenTurn} {old new : GuestState}
      → Visits turns old new → List ℕ
  bytes_given nothing = []
  bytes_given (visit now answer visits visited) = bytes_given visits ++ piece_of now answer _ _ _ _ visited

  -- the bytes that the link took in visits, one part after another
  abbrev pub bytes_taken : {turns : List TakenTurn} {old new : GuestState}
      → Visits turns old new → List ℕ
  bytes_taken nothing = []
  bytes_taken (visit now answer visits visited) = bytes_taken visits ++ part_of now answer _ _ _ _ visited

  -- the unit of a turn, and the turn's place among those of the unit
  abbrev pub turn_of : TakenTurn → ProtocolUnit × ℕ
  turn_of turn = (turn.takes.unit, turn.old.taken)

  -- These bytes answer the first turns of these units: they are the texts of turns that were taken,
  -- and these are the units' turns in their order, from the first on.
  pub record AnswerFirst (units : List ProtocolUnit) (taken : List TakenTurn) (bytes : List ℕ)
      : Type 0 where
    pub later : List (ProtocolUnit × ℕ)
    pub first : turns units ≡ map turn_of taken ++ later
    pub told : bytes ≡ texts taken

  -- the same of all their turns
  pub record AnswerAll (units : List ProtocolUnit) (taken : List TakenTurn) (bytes : List ℕ)
      : Type 0 where
    pub all : turns units ≡ map turn_of taken
    pub told : bytes ≡ texts taken
