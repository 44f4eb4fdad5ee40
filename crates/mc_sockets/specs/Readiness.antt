-- What is known of a connection, and what happens to it.
use Rattle.std.specs.Prelude.{ℕ, Bool, true, false, not, ◌&&◌, ◌||◌, nat_lt, is_none, Some}
use Rattle.mio.specs.declared.event.event.Event.{Event}
use Rattle.mio.specs.Event.{is_readable, is_writable, is_error, is_read_closed, is_write_closed, is_priority}
use Rattle.mc_sockets.specs.declared.connection.CloseReason.{CloseReason}
use Rattle.mc_sockets.specs.declared.readiness.Readiness.{Readiness}
use Rattle.mc_sockets.specs.declared.readiness.Report.{Report}
use Rattle.mc_sockets.specs.declared.stream.NoBytes.TheVariants.{WouldBlock, Interrupted, Fault}
use Rattle.mc_sockets.specs.declared.stream.Received.{Received}
use Rattle.mc_sockets.specs.declared.stream.Received.TheVariants as received
use Rattle.mc_sockets.specs.declared.stream.Sent.{Sent}
use Rattle.mc_sockets.specs.declared.stream.Sent.TheVariants as sent

-- What happens to a connection: a call on its link and how it was answered, what the poll reports, and
-- what its worker does with it.
pub data Happening : Type 0 where
  Read : (answer : Received) (room : ℕ) → Happening
  Wrote : (answer : Sent) (offered : ℕ) → Happening
  Paused : Happening
  Reported : (report : Report) → Happening
  AskedAgain : Happening
  Ended : (parting : CloseReason) → Happening

-- what an event reports
abbrev pub report_of : Event → Report
report_of event = record {
  input = is_readable event;
  room = is_writable event;
  end = is_read_closed event || is_error event;
  failure = is_error event || is_write_closed event;
  urgent = is_priority event;
}

-- A read that gives less than it has room for took all there is, unless the end or urgent data may
-- stand behind it: a read stops there, whatever comes then.
abbrev pub takes_all : Readiness → (count room : ℕ) → Bool
takes_all known count room = nat_lt count room && (not known.is_final && not known.is_marked)

-- its link goes on, and is not to be named
abbrev pub going : Readiness → Readiness
going known = record known { waits = false }

-- its link waits for the next event
abbrev pub waiting : Readiness → Readiness
waiting known = record known { waits = true; is_fresh = true }

-- What is known of a connection after that. Nothing more can be read once a read took all there is, or
-- would block, and nothing more written once a write left a rest, or would block, until the poll
-- reports it anew. A link waits from a call that would block on, to the next event or call.
abbrev pub after : Readiness → Happening → Readiness
after known (Read (received.Bytes n) room) =
    record (going known) { reads = known.reads && not (takes_all known n room) }
after known (Read received.End room) = going known
after known (Read (received.Hindered WouldBlock) room) = waiting (record known { reads = false })
after known (Read (received.Hindered Interrupted) room) = going known
after known (Read (received.Hindered Fault) room) = going known
after known (Wrote (sent.Bytes n) offered) =
    record (going known) { writes = known.writes && not (nat_lt n offered) }
after known (Wrote (sent.Hindered WouldBlock) offered) =
    record known { writes = false; waits = is_none known.ends; is_fresh = known.is_fresh || is_none known.ends }
after known (Wrote (sent.Hindered Interrupted) offered) = going known
after known (Wrote (sent.Hindered Fault) offered) = going known
after known Paused = record known { waits = true; is_fresh = known.is_fresh || not known.waits }
after known (Reported report) = record (going known) {
  reads = known.reads || (report.input || report.end);
  writes = known.writes || (report.room || report.end);
  is_final = known.is_final || report.end;
  has_failed = known.has_failed || report.failure;
  is_marked = known.is_marked || report.urgent;
}
after known AskedAgain = record (going known) {
  reads = known.reads || (known.waits || known.leaves);
  writes = known.writes || (known.waits || known.leaves);
}
after known (Ended parting) = record (going known) { ends = Some parting }

-- Whether its link is named when that happens: one that waits is named by each event, and by nothing
-- else that it does itself.
abbrev pub names : Readiness → Happening → Bool
names known (Read answer room) = false
names known (Wrote answer offered) = false
names known Paused = false
names known (Reported report) = known.waits
names known AskedAgain = known.waits
names known (Ended parting) = known.waits
