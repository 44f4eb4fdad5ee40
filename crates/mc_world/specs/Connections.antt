-- A session seen from its whole stream: how many of the stream's turns were taken.
use Rattle.std.specs.Prelude.{◌≡◌, ℕ, ◌+◌, ◌<◌, Bool, true, false, List, [], ◌∷◌, ◌++◌, length, drop, Some, None, slice_get, not}
use Rattle.std.specs.Bool.{MatchBool}
use Rattle.mc_parse.specs.Units.{ProtocolUnit, Spells}
use Rattle.mc_parse.specs.Streams.{AreUnits, is_last, passed_after}
use Rattle.mc_parse.specs.Feeds.{Unread, settled}
use Rattle.mc_session.specs.Turns.{SessionState, turn_count, turns, nothing_unread}

-- The history of a session: its stream so far, with `passed` bytes skipped at its front; the number
-- of the stream's turns that were taken; their texts that aren't written yet; and whether it is
-- open.
pub record Connection : Type 0 where
  pub greatest : ℕ
  pub passed : ℕ
  pub stream : List ℕ
  pub taken : ℕ
  pub out : List ℕ
  pub is_open : Bool

-- the next turn of a connection's stream
pub record IsNextTurn (connection : Connection) (unit : ProtocolUnit) (at : ℕ) : Type 0 where
  pub units : List ProtocolUnit
  pub are : AreUnits connection.greatest connection.passed connection.stream units
  pub next : slice_get (turns units) connection.taken ≡ Some (unit, at)

-- every turn of the stream's whole units was taken
pub record HasNoNext (connection : Connection) : Type 0 where
  pub units : List ProtocolUnit
  pub are : AreUnits connection.greatest connection.passed connection.stream units
  pub none : slice_get (turns units) connection.taken ≡ None

-- these units are at the front of the stream, none of them ends it, and this comes after them
abbrev pub Follows : (greatest passed : ℕ) → List ℕ → List ProtocolUnit → Unread → Type 0
Follows greatest passed bytes [] rest =
    rest ≡ settled (record { greatest = greatest; passed = passed; bytes = bytes })
Follows greatest passed bytes (unit ∷ units) rest =
    (front : List ℕ) × (more : List ℕ) × (drop passed bytes ≡ front ++ more)
    × Spells greatest unit front × (is_last unit ≡ false)
    × Follows greatest (passed_after unit) more units rest

-- no turn of the first unit was taken, or some and not all
pub data IsAmong : Unread → ℕ → Type 0 where
  at_start : {unread : Unread} → IsAmong unread 0
  inside : {unread : Unread} {taken : ℕ} (unit : ProtocolUnit) (front rest : List ℕ)
      → drop unread.passed unread.bytes ≡ front ++ rest → Spells unread.greatest unit front
      → taken < turn_count unit → IsAmong unread taken

-- what is left of an open connection: what comes after the units whose turns are all taken, and the
-- number of turns taken of the next unit
pub record IsRest (connection : Connection) (session : SessionState) : Type 0 where
  pub read : List ProtocolUnit
  pub follows : Follows connection.greatest connection.passed connection.stream read session.unread
  pub taken : connection.taken ≡ length (turns read) + session.taken
  pub among : IsAmong session.unread session.taken
  pub out : session.out ≡ connection.out

-- a closed connection keeps only its output
abbrev pub shut : Connection → SessionState
shut connection =
    record {
      unread = nothing_unread connection.greatest;
      taken = 0;
      out = connection.out;
      is_open = false;
    }

-- the session represents the connection: what is left of it if it is open, and else only its output
abbrev pub Stands : Connection → SessionState → Type 0
Stands connection session = MatchBool connection.is_open
    ((session.is_open ≡ true) × IsRest connection session) (session ≡ shut connection)

-- a new connection
abbrev pub fresh : ℕ → Connection
fresh greatest =
    record { greatest = greatest; passed = 0; stream = []; taken = 0; out = []; is_open = true }

-- a piece of the stream comes
abbrev pub with_piece : List ℕ → Connection → Connection
with_piece piece c = record c { stream = c.stream ++ piece }

-- one more turn was taken, with this text; that of a last unit closes the connection
abbrev pub after_turn : ProtocolUnit → List ℕ → Connection → Connection
after_turn unit text c =
    record c { taken = c.taken + 1; out = c.out ++ text; is_open = not (is_last unit) }

-- the connection closes
abbrev pub ended : Connection → Connection
ended c = record c { is_open = false }
