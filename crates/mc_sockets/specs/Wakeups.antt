-- Edge-triggered readiness: what the system owes to a connection that it watches.
use Rattle.std.specs.Prelude.{◌≡◌, ◌⊎◌, ℕ, Bool, true, false, not, ◌||◌, nat_lt}
use Rattle.mc_sockets.specs.declared.connection.CloseReason.{CloseReason}
use Rattle.mc_sockets.specs.declared.readiness.Readiness.{Readiness}
use Rattle.mc_sockets.specs.declared.readiness.Report.{Report}
use Rattle.mc_sockets.specs.declared.stream.NoBytes.TheVariants.{WouldBlock, Interrupted, Fault}
use Rattle.mc_sockets.specs.declared.stream.Received.{Received}
use Rattle.mc_sockets.specs.declared.stream.Received.TheVariants as received
use Rattle.mc_sockets.specs.declared.stream.Sent.{Sent}
use Rattle.mc_sockets.specs.declared.stream.Sent.TheVariants as sent
use Rattle.mc_sockets.specs.Readiness.{Happening, Read, Wrote, Paused, Reported, AskedAgain, Ended, after}

-- A connection that the system watches: what is known of it, and what the system has. There is input to
-- read, which the end and urgent data are too; there is room to write; the end or a failure came;
-- urgent data came. And a report is owed: the next poll reports what there is then.
pub record Watched : Type 0 where
  pub known : Readiness
  pub input : Bool
  pub room : Bool
  pub end : Bool
  pub urgent : Bool
  pub owed : Bool

-- A read that the system answers so leaves that much input. It blocks only if there is none. One that
-- gives less than it has room for leaves none, unless the end came or urgent data: it stops there.
abbrev pub LeavesInput : Watched → Received → (room : ℕ) → Bool → Type 0
LeavesInput old (received.Bytes n) room input =
    nat_lt n room ≡ true → input ≡ true → (old.end ≡ true) ⊎ (old.urgent ≡ true)
LeavesInput old received.End room input = input ≡ old.input
LeavesInput old (received.Hindered WouldBlock) room input = (old.input ≡ false) × (input ≡ false)
LeavesInput old (received.Hindered Interrupted) room input = input ≡ old.input
LeavesInput old (received.Hindered Fault) room input = input ≡ old.input

-- A write that the system answers so leaves room or none. It blocks only if there is none, and one that
-- takes less than it was offered leaves none.
abbrev pub LeavesRoom : Watched → Sent → (offered : ℕ) → Bool → Type 0
LeavesRoom old (sent.Bytes n) offered room = nat_lt n offered ≡ true → room ≡ false
LeavesRoom old (sent.Hindered WouldBlock) offered room = (old.room ≡ false) × (room ≡ false)
LeavesRoom old (sent.Hindered Interrupted) offered room = room ≡ old.room
LeavesRoom old (sent.Hindered Fault) offered room = room ≡ old.room

-- the report that a poll makes of what there is
pub record IsTrueReport (report : Report) (watched : Watched) : Type 0 where
  pub input : report.input ≡ watched.input
  pub room : report.room ≡ watched.room
  pub end : report.end ≡ watched.end
  pub urgent : report.urgent ≡ watched.urgent

-- One step of a connection that is watched edge-triggered. What comes that wasn't there before is owed
-- a report; more of what was there may be reported or not. A poll pays what is owed, and drops it if
-- nothing is there any more. The system may report at any time beside, whatever it reports.
pub data Step : Watched → Watched → Type 0 where
  input_comes : (old : Watched) → Step old (record old { input = true; owed = old.owed || not old.input })
  room_comes : (old : Watched) → Step old (record old { room = true; owed = old.owed || not old.room })
  end_comes : (old : Watched) → Step old (record old { input = true; end = true; owed = old.owed || (not old.input || not old.end) })
  urgent_comes : (old : Watched) → Step old (record old { input = true; urgent = true; owed = old.owed || (not old.input || not old.urgent) })
  reads : (old : Watched) (answer : Received) (piece : ℕ) (input urgent : Bool) → old.known.reads ≡ true → LeavesInput old answer piece input → (urgent ≡ true → old.urgent ≡ true) → Step old (record old { known = after old.known (Read answer piece); input = input; urgent = urgent })
  reads_nothing : (old : Watched) (piece : ℕ) → old.known.reads ≡ false → Step old (record old { known = after old.known (Read (received.Hindered WouldBlock) piece) })
  writes : (old : Watched) (answer : Sent) (offered : ℕ) (room : Bool) → old.known.writes ≡ true → LeavesRoom old answer offered room → Step old (record old { known = after old.known (Wrote answer offered); room = room })
  writes_nothing : (old : Watched) (offered : ℕ) → old.known.writes ≡ false → Step old (record old { known = after old.known (Wrote (sent.Hindered WouldBlock) offered) })
  pauses : (old : Watched) → Step old (record old { known = after old.known Paused })
  asks_again : (old : Watched) → Step old (record old { known = after old.known AskedAgain })
  ends : (old : Watched) (parting : CloseReason) → Step old (record old { known = after old.known (Ended parting) })
  pays : (old : Watched) (report : Report) → IsTrueReport report old → Step old (record old { known = after old.known (Reported report); owed = false })
  drops : (old : Watched) → old.input ≡ false → old.room ≡ false → old.end ≡ false → old.urgent ≡ false → Step old (record old { owed = false })
  reports_beside : (old : Watched) (report : Report) → Step old (record old { known = after old.known (Reported report) })

-- Nothing is missed: where a link would wait although it could go on, a report is owed. That is so for
-- input, for room, and for the end and urgent data, behind which a short read doesn't take all.
pub record MissesNothing (watched : Watched) : Type 0 where
  pub input : watched.known.reads ≡ false → watched.input ≡ true → watched.owed ≡ true
  pub room : watched.known.writes ≡ false → watched.room ≡ true → watched.owed ≡ true
  pub end : watched.known.is_final ≡ false → watched.end ≡ true → watched.owed ≡ true
  pub urgent : watched.known.is_marked ≡ false → watched.urgent ≡ true → watched.owed ≡ true

-- it is a call of the link itself
abbrev pub IsCall : Happening → Type 0
IsCall (Read answer room) = Unit {0}
IsCall (Wrote answer offered) = Unit {0}
IsCall Paused = ⊥
IsCall (Reported report) = ⊥
IsCall AskedAgain = ⊥
IsCall (Ended parting) = ⊥
