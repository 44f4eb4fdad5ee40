-- The plain world: what a list of events makes of a store and its connections.
use Rattle.std.specs.Prelude.{◌≡◌, ◌⊎◌, ℕ, zero, suc, ◌-◌, ◌%◌, ◌<◌, ◌==◌, Bool, true, false, List, [], ◌∷◌, ◌++◌, length, take, Option, Some, None, slice_get, slice_index, slice_set, min, nat_lt, if◌then◌else◌, IsTrue, IsFalse, refl}
use Rattle.std.specs.Coded.{Coded, code_by, coded×, coded_ℕ, coded_bool, coded_list}
use Rattle.std.specs.Option.{MatchOption}
use Rattle.mc_protocol.specs.Commands.{steps}
use Rattle.mc_protocol.specs.Commands.{Command}
use Rattle.mc_protocol.specs.Plain.{Plain, coded_plain, plain, Answered, Spent}
use Rattle.mc_protocol.specs.declared.step.KeyStep.{KeyStep}
use Rattle.mc_protocol.specs.declared.step.Steps.{Ghosts as Relations}
use Rattle.mc_protocol.specs.declared.reply.Reply.{Reply}
use Rattle.mc_parse.specs.Units.{ProtocolUnit, Request}
use Rattle.mc_parse.specs.Feeds.{Unread}
use Rattle.mc_session.specs.Turns.{SessionState, Answers, NoTurnDue}
use Rattle.mc_shelf.specs.Stores.{coded_settings, FallsAt, FewMoveSomewhere, NoneRises}
use Rattle.mc_sizes.specs.declared.settings.Settings.{Settings}
use Rattle.mc_protocol.specs.Purge.{purged}
use Rattle.mc_time.specs.Chains.{Chain}
use Rattle.mc_world.specs.Connections.{Connection, IsNextTurn, HasNoNext, Stands, fresh, with_piece, after_turn, ended}
use Rattle.mc_world.specs.declared.event.Event.{Event}
use Rattle.mc_world.specs.declared.event.Event.TheVariants.{Open, Piece, Turn, Clock, Grow, Purge, Close}
use Rattle.mc_world.specs.declared.event.Refused.{Refused}

-- the store's state, the moment, and the connections (the first is session 1); and the greatest
-- charge of an item
pub record PlainWorld : Type 0 where
  pub greatest : ℕ
  pub state : Plain
  pub now : ℕ
  pub connections : List Connection

-- What contracts see of a world: its store's settings, the hasher of its keys, the plain machine's
-- state, the moment, and the sessions, which have what is left of their streams; and beside these,
-- of each shelf how many entries of an old table are left to move.
pub record WorldState (K : Type 0) : Type 0 where
  pub settings : Settings
  pub hasher : K
  pub state : Plain
  pub moment : ℕ
  pub sessions : List SessionState
  pub left : List ℕ

abbrev pub coded_unread : Coded Unread
coded_unread =
    code_by (ℕ × (ℕ × List ℕ)) (coded× coded_ℕ (coded× coded_ℕ (coded_list coded_ℕ)))
    (λ u. (u.greatest, (u.passed, u.bytes)))
    (λ p. record { greatest = p.0; passed = p.1.0; bytes = p.1.1 })
    (λ _. refl)

abbrev pub coded_session : Coded SessionState
coded_session =
    code_by (Unread × (ℕ × (List ℕ × Bool)))
    (coded× coded_unread (coded× coded_ℕ (coded× (coded_list coded_ℕ) coded_bool)))
    (λ s. (s.unread, (s.taken, (s.out, s.is_open))))
    (λ p. record { unread = p.0; taken = p.1.0; out = p.1.1.0; is_open = p.1.1.1 })
    (λ _. refl)

abbrev pub coded_world : {K : Type 0} → Coded K → Coded (WorldState K)
coded_world {K} coded_hasher =
    code_by (Settings × (K × (Plain × (ℕ × (List SessionState × List ℕ)))))
    (coded× coded_settings
    (coded× coded_hasher
    (coded× coded_plain
    (coded× coded_ℕ (coded× (coded_list coded_session) (coded_list coded_ℕ))))))
    (λ w. (w.settings, (w.hasher, (w.state, (w.moment, (w.sessions, w.left))))))
    (λ p. record { settings = p.0; hasher = p.1.0; state = p.1.1.0; moment = p.1.1.1.0; sessions = p.1.1.1.1.0; left = p.1.1.1.1.1 })
    (λ _. refl)

-- the plain machine takes a step with this reply
abbrev pub replies : Plain → KeyStep → ℕ → Reply → Plain → Type 0
replies old step now reply new = plain old step now ≡ Answered reply new

-- its unique numbers are used up
abbrev pub is_spent : Plain → KeyStep → ℕ → Type 0
is_spent old step now = plain old step now ≡ Spent

-- the plain machine's steps as those of a store
abbrev pub in_plain : Relations Plain
in_plain = record { took = replies; spent = is_spent; same = λ old new. new ≡ old }

-- the element of that number, counted from 1
abbrev pub numbered : {A : Type 0} → ℕ → List A → Option A
numbered zero xs = None
numbered (suc n) xs = slice_get xs n

-- the same, if it is open
abbrev pub if_open : {A : Type 0} → (A → Bool) → Option A → Option A
if_open is_open None = None
if_open is_open (Some x) = if is_open x then Some x else None

-- another element in the place of that number
abbrev pub put : {A : Type 0} → ℕ → List A → A → List A
put n xs x = slice_set xs (n - 1) x

-- the open one of that number is changed; nothing is if none is open
abbrev pub changed : {A : Type 0} → ℕ → List A → (A → A) → Option A → List A
changed n xs change None = xs
changed n xs change (Some x) = put n xs (change x)

-- the open connection of that number
abbrev pub open_connection : ℕ → List Connection → Option Connection
open_connection n connections = if_open (λ c. c.is_open) (numbered n connections)

-- the open session of that number
abbrev pub open_session : ℕ → List SessionState → Option SessionState
open_session n sessions = if_open (λ s. s.is_open) (numbered n sessions)

-- a session's output that isn't written yet; it is empty for a session that was never opened
abbrev pub output_of : Option SessionState → List ℕ
output_of None = []
output_of (Some s) = s.out

-- it is open, and no turn is due
abbrev pub IsIdle : Option SessionState → Type 0
IsIdle None = ⊥
IsIdle (Some s) = IsTrue s.is_open × NoTurnDue s

-- it was opened and then closed
abbrev pub IsClosed : Option SessionState → Type 0
IsClosed None = ⊥
IsClosed (Some s) = IsFalse s.is_open

-- the world with its open connection of that number changed; nothing is if none is open
abbrev pub at_connection : PlainWorld → ℕ → (Connection → Connection) → PlainWorld
at_connection w n change =
    record w { connections = changed n w.connections change (open_connection n w.connections) }

-- The connection's next turn, at the world's moment: it takes the store's state to this one.
pub record NextTurn (old : PlainWorld) (connection : Connection) (state : Plain) : Type 0 where
  pub unit : ProtocolUnit
  pub at : ℕ
  pub text : List ℕ
  pub next : IsNextTurn connection unit at
  pub answers : Answers in_plain unit at old.now old.state state text

-- the next turn is taken, if there is one
abbrev pub Turns : PlainWorld → ℕ → Connection → PlainWorld → Type 0
Turns old n connection new =
    (HasNoNext connection × (new ≡ old))
    ⊎ ((state : Plain) × (turn : NextTurn old connection state)
    × (new ≡ record old {
      state = state;
      connections = put n old.connections (after_turn turn.unit turn.text connection);
    }))

-- The hash of keys, and the number of shelves.
module _ (hash : List ℕ → ℕ) (shelves : ℕ) where
  -- one event
  abbrev pub Happens : PlainWorld → Event → PlainWorld → Type 0
  Happens old Open new =
      new
      ≡ (if nat_lt (length old.connections) 65535
      then record old { connections = old.connections ++ fresh old.greatest ∷ [] } else old)
  Happens old (Piece n piece) new = new ≡ at_connection old n (with_piece piece)
  Happens old (Turn n) new = MatchOption (open_connection n old.connections) (new ≡ old)
      (λ connection. Turns old n connection new)
  Happens old (Clock now) new = new ≡ record old { now = now }
  Happens old (Grow shelf) new = new ≡ old
  Happens old (Purge shelf) new =
      new ≡ record old {
        state = if nat_lt shelf shelves then purged
            (λ key. hash key % shelves == shelf) old.now old.state else old.state;
      }
  Happens old (Close n) new = new ≡ at_connection old n ended

  -- events in order
  abbrev pub Runs : PlainWorld → List Event → PlainWorld → Type 0
  Runs old events new = Chain Happens old events new

-- what an event of growth leaves to move: of this shelf 8 entries are moved, or as many as are left
abbrev pub eight_moved : (shelf : ℕ) → (left : List ℕ) → List ℕ
eight_moved shelf left =
    slice_set left shelf (slice_index left shelf - min 8 (slice_index left shelf))

-- what a turn leaves to move: few entries of one shelf were moved, or it flushed, which moves none
abbrev pub TurnMoves : (old new : List ℕ) → Type 0
TurnMoves old new = FewMoveSomewhere old new ⊎ NoneRises old new

-- what one event leaves to move, of each shelf
abbrev pub EventMoves : (old : List ℕ) → Event → (new : List ℕ) → Type 0
EventMoves old Open new = new ≡ old
EventMoves old (Piece n piece) new = new ≡ old
EventMoves old (Turn n) new = TurnMoves old new
EventMoves old (Clock now) new = new ≡ old
EventMoves old (Grow shelf) new = new ≡ eight_moved shelf old
EventMoves old (Purge shelf) new = FallsAt shelf old new
EventMoves old (Close n) new = new ≡ old

-- what events in order leave to move
abbrev pub EventsMove : (old : List ℕ) → List Event → (new : List ℕ) → Type 0
EventsMove old events new = Chain EventMoves old events new

-- the sessions are what is left of the connections
abbrev pub StandAll : List Connection → List SessionState → Type 0
StandAll [] [] = Unit {0}
StandAll [] (session ∷ sessions) = ⊥
StandAll (connection ∷ connections) [] = ⊥
StandAll (connection ∷ connections) (session ∷ sessions) = Stands connection session
    × StandAll connections sessions

-- the session of an event
abbrev pub named : Event → Option ℕ
named Open = None
named (Piece n piece) = Some n
named (Turn n) = Some n
named (Clock now) = None
named (Grow shelf) = None
named (Purge shelf) = None
named (Close n) = Some n

-- the session is closed, if one is named
abbrev pub with_end : Option ℕ → PlainWorld → PlainWorld
with_end None w = w
with_end (Some n) w = at_connection w n ended

-- The connection's next turn is a command's, and the plain machine takes its step at the world's
-- moment: it takes the store's state to this one.
pub record NextStep (old : PlainWorld) (connection : Connection) (state : Plain) : Type 0 where
  pub command : Command
  pub at : ℕ
  pub step : KeyStep
  pub reply : Reply
  pub next : IsNextTurn connection (Request command) at
  pub is_step : slice_get (steps command) at ≡ Some step
  pub replied : replies old.state step old.now reply state

-- the step of the open connection that an event gives a turn
abbrev pub EventDecides : PlainWorld → Event → Plain → Type 0
EventDecides old (Turn n) state = (connection : Connection)
    × (open_connection n old.connections ≡ Some connection) × NextStep old connection state
EventDecides old other state = ⊥

-- the event takes memory: it opens a session, brings a piece to one that is open, or gives one a
-- turn that is due
abbrev pub TakesMemory : PlainWorld → Event → Type 0
TakesMemory old Open = length old.connections < 65535
TakesMemory old (Piece n piece) = (connection : Connection)
    × (open_connection n old.connections ≡ Some connection)
TakesMemory old (Turn n) = (connection : Connection)
    × (open_connection n old.connections ≡ Some connection) × (unit : ProtocolUnit) × (at : ℕ)
    × IsNextTurn connection unit at
TakesMemory old (Clock now) = ⊥
TakesMemory old (Grow shelf) = ⊥
TakesMemory old (Purge shelf) = ⊥
TakesMemory old (Close n) = ⊥

-- Memory was refused in an event: its turn's step was decided without its text, or nothing was
-- done; and its session is closed.
abbrev pub GivesUp : Bool → PlainWorld → Event → PlainWorld → Type 0
GivesUp true old event new = (state : Plain) × EventDecides old event state
    × (new ≡ with_end (named event) (record old { state = state }))
GivesUp false old event new = new ≡ with_end (named event) old

-- the plain world represents the world
pub record WorldStandsAs {K : Type 0} (plain : PlainWorld) (world : WorldState K) : Type 0 where
  pub greatest : world.settings.greatest ≡ plain.greatest
  pub state : world.state ≡ plain.state
  pub now : world.moment ≡ plain.now
  pub sessions : StandAll plain.connections world.sessions

-- there is a plain world that represents the world
pub record CanStand {K : Type 0} (world : WorldState K) : Type 0 where
  pub plain : PlainWorld
  pub stands : WorldStandsAs plain world

-- The hash of a world's keys.
module _ {K : Type 0} (hash_of : K → List ℕ → ℕ) where
  -- events in order, over as many shelves as that world has, and with its hasher
  abbrev pub RunsIn : WorldState K → PlainWorld → List Event → PlainWorld → Type 0
  RunsIn world first events last =
      Runs (hash_of world.hasher) world.settings.shelves first events last

  -- What the events make of a world, whatever came before: from every plain world that represents
  -- the old one, the events make one that represents the new one. The store's settings are
  -- unchanged, and its growths move on as the events have it.
  pub record Told (old : WorldState K) (events : List Event) (new : WorldState K) : Type 0 where
    pub settings : new.settings ≡ old.settings
    pub hasher : new.hasher ≡ old.hasher
    pub moves : EventsMove old.left events new.left
    pub told : (first : PlainWorld) → WorldStandsAs first old → (last : PlainWorld)
        × RunsIn old first events last × WorldStandsAs last new

  -- an event that takes memory, which is refused
  abbrev pub Refuses : PlainWorld → Bool → Event → WorldState K → Type 0
  Refuses first decided event new = (last : PlainWorld) × GivesUp decided first event last
      × WorldStandsAs last new × TakesMemory first event

  pub record ToldRefused (decided : Bool) (old : WorldState K) (event : Event)
      (new : WorldState K) : Type 0 where
    pub settings : new.settings ≡ old.settings
    pub hasher : new.hasher ≡ old.hasher
    pub moves : EventMoves old.left event new.left
    pub told : (first : PlainWorld) → WorldStandsAs first old → Refuses first decided event new

  -- events, and then one that is refused
  abbrev pub RunsUntil : WorldState K → PlainWorld → List Event → Bool → Event → WorldState K
      → Type 0
  RunsUntil old first events decided event new = (mid : PlainWorld) × RunsIn old first events mid
      × Refuses mid decided event new

  -- What the events before a refused one make of a world, and then that one.
  pub record ToldUntil (refused : Refused) (old : WorldState K) (events : List Event)
      (new : WorldState K) : Type 0 where
    pub settings : new.settings ≡ old.settings
    pub hasher : new.hasher ≡ old.hasher
    pub event : Event
    pub here : slice_get events refused.at ≡ Some event
    pub session : refused.session ≡ named event
    pub moves : EventsMove old.left (take refused.at events ++ event ∷ []) new.left
    pub told : (first : PlainWorld) → WorldStandsAs first old
        → RunsUntil old first (take refused.at events) refused.decided event new
