-- A whole run of one session of a world over a reader and a writer.
use Rattle.std.specs.Prelude.{◌≡◌, ◌⊎◌, ℕ, ◌+◌, ◌%◌, ◌^◌, ◌<◌, ◌≤◌, max, Bool, List, [], ◌∷◌, ◌++◌, length, Option}
use Rattle.std.specs.Io.KnownBytes.{Appends, Consumes, IsAtEnd}
use Rattle.mc_time.specs.Chains.{Repeats}
use Rattle.mc_session.specs.Exchanges.{longest_piece, most_waiting}
use Rattle.mc_world.specs.Connections.{Connection}
use Rattle.mc_world.specs.Worlds.{PlainWorld, WorldState, numbered, changed, output_of, IsIdle, IsClosed, WorldStandsAs, EventsMove, Told, RunsUntil}
use Rattle.mc_world.specs.declared.event.Event.{Event}
use Rattle.mc_world.specs.declared.event.Event.TheVariants.{Open, Piece, Turn, Clock, Grow, Close}

-- the most turns of a run
abbrev pub most_turns : ℕ
most_turns = 2 ^ 40

-- a world, what is left to be read, and what was written
pub record WorldScene (K : Type 0) : Type 0 where
  pub world : WorldState K
  pub reader : Option (List ℕ)
  pub writer : Option (List ℕ)

-- the scene of a world, what is left to be read, and what was written
abbrev pub scene : {K : Type 0} → WorldState K → Option (List ℕ) → Option (List ℕ) → WorldScene K
scene world reader writer = record { world = world; reader = reader; writer = writer }

-- the session that is opened next
abbrev pub next_session : {K : Type 0} → WorldState K → ℕ
next_session w = length w.sessions + 1

-- the length of a session's output that isn't written yet
abbrev pub waiting : {K : Type 0} → ℕ → WorldState K → ℕ
waiting n w = length (output_of (numbered n w.sessions))

-- the world with these bytes still in front of the output of session n
abbrev pub with_written : {K : Type 0} → ℕ → List ℕ → WorldState K → WorldState K
with_written n written w =
    record w {
      sessions = changed n w.sessions (λ s. record s { out = written ++ s.out })
          (numbered n w.sessions);
    }

-- the connection with these bytes in front of its output
abbrev pub in_front : List ℕ → Connection → Connection
in_front bytes c = record c { out = bytes ++ c.out }

-- the plain world with these bytes in front of the output of session n
abbrev pub with_front : ℕ → List ℕ → PlainWorld → PlainWorld
with_front n bytes w =
    record w { connections = changed n w.connections (in_front bytes) (numbered n w.connections) }

-- the shelf that grows after a turn: 0, 1, .. and round again
abbrev pub shelf_of : (turns shelves : ℕ) → ℕ
shelf_of turns shelves = turns % max shelves 1

-- the events of a turn
abbrev pub turn_events : (n shelf now : ℕ) → List Event
turn_events n shelf now = Clock now ∷ Turn n ∷ Grow shelf ∷ []

-- how a session was served: the events, the bytes that they bring, the bytes that were written
-- meanwhile, and the number of turns
pub record Service : Type 0 where
  pub events : List Event
  pub read : List ℕ
  pub written : List ℕ
  pub turns : ℕ

-- Session n of a world is served: the hash of keys, and the moments of the clock.
module _ {K : Type 0} (hash_of : K → List ℕ → ℕ) (may_give : ℕ → Type 0) (n : ℕ)
    (old : WorldState K) where
  -- the events make this world, except that what was written is no longer in the session's output;
  -- less than 64 KiB of it are left
  pub record HasRoom (events : List Event) (written : List ℕ) : Type 0 where
    pub world : WorldState K
    pub told : Told hash_of old events (with_written n written world)
    pub room : waiting n world < most_waiting

  -- the same, and the session is open with no turn due
  pub record FindsIdle (events : List Event) (written : List ℕ) : Type 0 where
    pub world : WorldState K
    pub told : Told hash_of old events (with_written n written world)
    pub idle : IsIdle (numbered n world.sessions)

  -- What is done next: a turn is taken at a moment that the clock may give, with less than 64 KiB of
  -- output, and with growth of the next shelf after it; a piece of at most 16384 bytes comes, while
  -- no turn is due and all output is written; or bytes are written.
  pub data ServiceStep (done : Service) : Service → Type 0 where
    turn : (now : ℕ) → may_give now → HasRoom done.events done.written
        → ServiceStep done
        (record done {
          events = done.events ++ turn_events n (shelf_of done.turns old.settings.shelves) now;
          turns = done.turns + 1;
        })
    piece : (bytes : List ℕ) → length bytes ≤ longest_piece
        → (found : FindsIdle done.events done.written)
        → output_of (numbered n found.world.sessions) ≡ []
        → ServiceStep done
        (record done { events = done.events ++ Piece n bytes ∷ []; read = done.read ++ bytes })
    write : (bytes : List ℕ) → ServiceStep done (record done { written = done.written ++ bytes })

  -- the session was served so, step by step, since it opened and before it closes
  abbrev pub IsService : Service → Type 0
  IsService done = (steps : ℕ) × Repeats ServiceStep steps
      (record { events = Open ∷ []; read = []; written = []; turns = 0 }) done

  -- The event that is refused memory, what comes just before it, the bytes that it brings, and the
  -- number of turns: a turn after its clock, taken with less than 64 KiB of output, or a piece that
  -- was read while no turn was due.
  pub data IsRefusal (events : List Event) (written : List ℕ) : List Event → Event
      → (brings : List ℕ) → (calls : ℕ) → Type 0 where
    refused_turn : (now : ℕ) → may_give now → HasRoom events written
        → IsRefusal events written (Clock now ∷ []) (Turn n) [] 1
    refused_piece : (bytes : List ℕ) → 0 < length bytes → length bytes ≤ longest_piece
        → FindsIdle events written
        → IsRefusal events written [] (Piece n bytes) bytes 0

  -- A session was served until memory was refused: what came before the refused event, and that
  -- event, which takes memory. If it is a turn, the store took its step without its text, or
  -- nothing was done; and the session is closed. The store's settings are unchanged, and its
  -- growths move on as these events have it.
  pub record UntilRefused (old_reader old_writer : Option (List ℕ)) (new : WorldScene K) : Type 0 where
    pub done : Service
    pub service : IsService done
    pub before : List Event
    pub event : Event
    pub brings : List ℕ
    pub calls : ℕ
    pub decided : Bool
    pub refusal : IsRefusal done.events done.written before event brings calls
    pub few : done.turns + calls ≤ most_turns
    pub consumes : Consumes old_reader new.reader (done.read ++ brings)
    pub appends : Appends old_writer new.writer done.written
    pub settings : new.world.settings ≡ old.settings
    pub hasher : new.world.hasher ≡ old.hasher
    pub moves : EventsMove old.left (done.events ++ (before ++ event ∷ [])) new.world.left
    pub told : (first : PlainWorld) → WorldStandsAs first old
        → RunsUntil hash_of old first (done.events ++ before) decided event
        (with_written n done.written new.world)

-- A session of a world was served, which opened it: the scene before, and after.
module _ {K : Type 0} (hash_of : K → List ℕ → ℕ) (may_give : ℕ → Type 0) (old new : WorldScene K) where
  -- how it was served before the close: what came was read, and what was written went out
  pub record Came : Type 0 where
    pub done : Service
    pub service : IsService hash_of may_give (next_session old.world) old.world done
    pub few : done.turns ≤ most_turns
    pub consumes : Consumes old.reader new.reader done.read
    pub appends : Appends old.writer new.writer done.written

  -- The new world is what the events make of the old one, except that what was written is no longer
  -- in the session's output.
  pub record Served : Type 0 where
    pub came : Came
    pub told : Told hash_of old.world (came.done.events ++ Close (next_session old.world) ∷ [])
        (with_written (next_session old.world) came.done.written new.world)

  -- It was served whole: no output is left, and before the close the session was closed already, or
  -- no turn was due and the reader is at its end.
  pub record ServedAll : Type 0 where
    pub served : Served
    pub written : output_of (numbered (next_session old.world) new.world.sessions) ≡ []
    pub last : WorldState K
    pub until : Told hash_of old.world served.came.done.events last
    pub ended : IsClosed (numbered (next_session old.world) last.sessions)
        ⊎ (IsIdle (numbered (next_session old.world) last.sessions) × IsAtEnd new.reader)

  -- memory was refused: nothing was done, since the session wasn't opened, or it was served until
  -- an event was refused
  abbrev pub RanShort : Type 0
  RanShort = (new ≡ old) ⊎ UntilRefused hash_of may_give
      (next_session old.world) old.world old.reader old.writer new
