-- One event's effect on the sessions of a world.
use Rattle.std.specs.Prelude.{◌≡◌, ◌⊎◌, ℕ, ◌+◌, ◌<◌, ◌%◌, ◌==◌, Bool, true, List, [], ◌∷◌, ◌++◌, length, Option, Some, None, slice_get, nat_lt, if◌then◌else◌, IsTrue, IsFalse, Result, Ok, OnOk, OnErr, IfErr}
use Rattle.mc_protocol.specs.Plain.{Plain}
use Rattle.mc_protocol.specs.declared.step.Steps.{Ghosts as Relations}
use Rattle.mc_session.specs.Turns.{SessionState, TakesTurn, DecidesStep, NoTurnDue, opened, fed}
use Rattle.mc_session.specs.Turns.{closed as ended}
use Rattle.mc_session.specs.declared.session.Turn.{Turn as SessionTurn}
use Rattle.mc_session.specs.declared.session.Turn.TheVariants.{Did, Idle, Closed}
use Rattle.mc_session.specs.declared.session.TurnFault.{TurnFault}
use Rattle.mc_protocol.specs.Purge.{purged}
use Rattle.mc_shelf.specs.Stores.{FallsAt}
use Rattle.mc_world.specs.Worlds.{WorldState, EventMoves, TurnMoves, eight_moved, numbered, put, changed, open_session, IsIdle, in_plain, named}
use Rattle.mc_world.specs.declared.event.Event.{Event}
use Rattle.mc_world.specs.declared.event.Event.TheVariants.{Open, Piece, Turn, Clock, Grow, Purge, Close}
use Rattle.mc_world.specs.declared.parts.WorldParts.{WorldParts}

-- the open session of that number is changed; nothing is if none is open
abbrev pub at_session : List SessionState → ℕ → (SessionState → SessionState) → List SessionState
at_session sessions n change = changed n sessions change (open_session n sessions)

-- one more session, if fewer than 65535 were opened
abbrev pub with_opened : (greatest : ℕ) → List SessionState → List SessionState
with_opened greatest sessions = if nat_lt (length sessions) 65535 then sessions ++ opened greatest
    ∷ [] else sessions

-- the session of that number is open
abbrev pub IsOpened : ℕ → List SessionState → Type 0
IsOpened n sessions = (session : SessionState) × (open_session n sessions ≡ Some session)

module _ {S : Type 0} (relations : Relations S) where
  -- the session of that number, if it is open, takes its next turn, if one is due
  abbrev pub TurnBy : Option SessionState → ℕ → ℕ → (old new : List SessionState) → S → S → Type 0
  TurnBy None n now old new before after = (new ≡ old) × (after ≡ before)
  TurnBy (Some session) n now old new before after =
      (NoTurnDue session × (new ≡ old) × (after ≡ before))
      ⊎ ((next : SessionState) × TakesTurn relations now session next before after
      × (new ≡ put n old next))

  -- the open session of that number takes its next turn, if one is due
  abbrev pub TurnOf : ℕ → ℕ → (old new : List SessionState) → S → S → Type 0
  TurnOf n now old new before after = TurnBy (open_session n old) n now old new before after

-- it decides the step of its next turn, without its text
abbrev pub DecidedOf : {S : Type 0} (relations : Relations S) → ℕ → ℕ → List SessionState → S → S
    → Type 0
DecidedOf relations n now old before after = (session : SessionState)
    × (open_session n old ≡ Some session) × DecidesStep relations now session before after

-- a turn of it is due
abbrev pub SessionIsDue : ℕ → List SessionState → Type 0
SessionIsDue n sessions = (session : SessionState) × (open_session n sessions ≡ Some session)
    × (NoTurnDue session → ⊥)

-- the session of that number is at this place, and is open
pub record IsOpenAt (sessions : List SessionState) (n at : ℕ) : Type 0 where
  pub session : SessionState
  pub number : n ≡ at + 1
  pub inside : at < length sessions
  pub here : slice_get sessions at ≡ Some session
  pub opens : session.is_open ≡ true

-- The effect and the result of a turn that is given to session n. Want of memory closes the
-- session; if nothing was decided, the store holds the same.
pub record TurnGiven {S : Type 0} (relations : Relations S) (n now : ℕ)
    (result : Result SessionTurn TurnFault) (old new : List SessionState) (before after : S)
    : Type 0 where
  pub ok : OnOk result (TurnOf relations n now old new before after)
  pub did : result ≡ Ok Did → SessionIsDue n old
  pub idle : result ≡ Ok Idle → IsIdle (numbered n old) × (new ≡ old) × (after ≡ before)
  pub closed : result ≡ Ok Closed → (open_session n old ≡ None) × (new ≡ old) × (after ≡ before)
  pub err : OnErr result (new ≡ at_session old n ended)
  pub due : OnErr result (SessionIsDue n old)
  pub undecided : IfErr result (λ fault. IsFalse fault.decided → relations.same before after)
  pub decided : IfErr result (λ fault. IsTrue fault.decided →
      DecidedOf relations n now old before after)

-- An event's effect on a world, by its sessions.
module _ {K : Type 0} (hash_of : K → List ℕ → ℕ) where
  -- a shelf of a world is purged, if it is there
  abbrev pub without_dead : ℕ → WorldState K → Plain
  without_dead shelf w =
      if nat_lt shelf w.settings.shelves then purged
      (λ key. hash_of w.hasher key % w.settings.shelves == shelf) w.moment w.state else w.state

  -- the world after an event is what the event makes of the world before it
  abbrev pub Done : WorldState K → Event → WorldState K → Type 0
  Done old Open new =
      new
      ≡ (if nat_lt (length old.sessions) 65535
      then record old { sessions = old.sessions ++ opened old.settings.greatest ∷ [] } else old)
  Done old (Piece n piece) new =
      new ≡ record old { sessions = at_session old.sessions n (λ s. fed s piece) }
  Done old (Turn n) new =
      (new.settings ≡ old.settings) × (new.hasher ≡ old.hasher) × (new.moment ≡ old.moment)
      × TurnOf in_plain n old.moment old.sessions new.sessions old.state new.state
      × TurnMoves old.left new.left
  Done old (Clock now) new = new ≡ record old { moment = now }
  Done old (Grow shelf) new = new ≡ record old { left = eight_moved shelf old.left }
  Done old (Purge shelf) new =
      (new ≡ record old { state = without_dead shelf old; left = new.left })
      × FallsAt shelf old.left new.left
  Done old (Close n) new = new ≡ record old { sessions = at_session old.sessions n ended }

-- the session of an event is closed
abbrev pub sessions_ended : Option ℕ → List SessionState → List SessionState
sessions_ended None sessions = sessions
sessions_ended (Some n) sessions = at_session sessions n ended

-- the open session that an event gives a turn decides its step
abbrev pub DecidedIn : {K : Type 0} → WorldState K → Event → Plain → Type 0
DecidedIn old (Turn n) state = DecidedOf in_plain n old.moment old.sessions old.state state
DecidedIn old other state = ⊥

-- the event takes memory: it opens a session, brings a piece to one that is open, or gives one a
-- turn that is due
abbrev pub EventTakesMemory : {K : Type 0} → WorldState K → Event → Type 0
EventTakesMemory old Open = length old.sessions < 65535
EventTakesMemory old (Piece n piece) = IsOpened n old.sessions
EventTakesMemory old (Turn n) = SessionIsDue n old.sessions
EventTakesMemory old (Clock now) = ⊥
EventTakesMemory old (Grow shelf) = ⊥
EventTakesMemory old (Purge shelf) = ⊥
EventTakesMemory old (Close n) = ⊥

-- what is left if memory was refused in an event
pub record Undone {K : Type 0} (decided : Bool) (old : WorldState K) (event : Event)
    (new : WorldState K) : Type 0 where
  pub settings : new.settings ≡ old.settings
  pub hasher : new.hasher ≡ old.hasher
  pub moment : new.moment ≡ old.moment
  pub sessions : new.sessions ≡ sessions_ended (named event) old.sessions
  pub moves : EventMoves old.left event new.left
  pub takes : EventTakesMemory old event
  pub undecided : IsFalse decided → new.state ≡ old.state
  pub decides : IsTrue decided → DecidedIn old event new.state

-- a world's parts as contracts see it
abbrev pub state_of : {K : Type 0} → WorldParts K → WorldState K
state_of w =
    record {
      settings = w.store.settings;
      hasher = w.store.hasher;
      state = w.store.plain;
      moment = w.moment;
      sessions = w.sessions;
      left = w.store.left;
    }
