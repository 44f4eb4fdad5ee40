-- The words that proofs of worlds cite.
pub use Rattle.std.proofs.Common.{◌≡◌, List, [], ◌∷◌, ◌++◌, refl, sym, ap, ◌∙◌, subst, ◌⊎◌, inl, inr, ℕ, zero, suc, ◌+◌, ◌<◌, ◌==◌, ◌↔◌, Bool, true, false, not, length, drop, Option, Some, None}
pub use Rattle.std.proofs.Common.{arith, length-append, length-drop, append_assoc, if◌then◌else◌, slice_get, MatchBool, ◌-◌, slice_set, ◌≤◌, option_map, MatchOption, nat_lt, IfSome, take, get_or}
pub use Rattle.std.proofs.Common.{Result, Ok, Err, is_err, OnOk, IfErr, OnErr, IsTrue, IsFalse, add-one, ◌^◌}
pub use Rattle.std.proofs.KnownBytes.{Appends-nil, Appends-trans, Consumes-trans}
pub use Rattle.std.proofs.Math.Nat.{mod-eq_of_lt}
pub use Rattle.std.proofs.lemmas.Bool.{eqb-true, eqb-false, lt-ltb}
pub use Rattle.std.proofs.lemmas.List.{drop-append-le, append-nil, append_cancel_left, length-set, take_more, take_all, set-get_or, take-append-drop}
pub use Rattle.std.proofs.lemmas.Option.{slice_get_past, slice_get_within, get_or_from_slice_get, slice_get_read}
pub use Rattle.std.specs.Io.KnownBytes.{IsAtEnd}
pub use Rattle.mc_protocol.specs.Commands.{steps, Command}
pub use Rattle.mc_protocol.specs.Plain.{Plain, plain, Spent}
pub use Rattle.mc_protocol.specs.declared.step.KeyStep.{KeyStep}
pub use Rattle.mc_protocol.specs.declared.step.Steps.{Ghosts as Relations}
pub use Rattle.mc_parse.proofs.FeedLemmas.{pushed_twice}
pub use Rattle.mc_parse.proofs.StreamLemmas.{same_units, some_units, spelling_some}
pub use Rattle.mc_parse.proofs.UnitLemmas.{same_spelling}
pub use Rattle.mc_parse.specs.Feeds.{Unread, settled, pushed}
pub use Rattle.mc_parse.specs.Streams.{AreUnits, is_last, passed_after}
pub use Rattle.mc_parse.specs.Units.{ProtocolUnit, Request, Fault, LongLine, Spells}
pub use Rattle.mc_reply.specs.Texts.{plain_text, reply_text, fault_text, long_text, spent_text}
pub use Rattle.mc_session.proofs.StreamLemmas.{settled_once, units_settled}
pub use Rattle.mc_session.specs.Exchanges.{longest_piece, most_waiting, Writes, WritesOnce, Progress, ExchangeStep, Exchange, Wrote, Exchanges, HasEnded, Refusal, no_turn, no_piece, FallsShort}
pub use Rattle.mc_session.specs.Turns.{SessionState, to_read, HasUnits, turn_count, turns_from, turns, closed, fed, TakesTurn, NoTurnDue, Answers, AnswersStep, DecidesStep, opened, sent, TurnIsDue}
pub use Rattle.mc_session.specs.Turns.{FindsNoTurn, FindsClosed}
pub use Rattle.mc_protocol.specs.declared.serving.ServeFault.{ServeFault}
pub use Rattle.mc_session.specs.declared.session.Turn.{Turn as SessionTurn}
pub use Rattle.mc_session.specs.declared.session.Turn.TheVariants.{Did, Idle, Closed}
pub use Rattle.mc_session.specs.declared.session.TurnFault.{TurnFault}
pub use Rattle.mc_shelf.specs.Stores.{StoreState, HoldSame, StepMoves, TookStep}
pub use Rattle.mc_sizes.specs.declared.settings.Settings.{Settings}
pub use Rattle.mc_shelf.specs.declared.store.Store.{Store}
pub use Rattle.mc_world.specs.Connections.{Connection, IsNextTurn, HasNoNext, Follows, IsAmong, at_start, inside, IsRest, shut, Stands, with_piece, after_turn, ended, fresh}
pub use Rattle.mc_world.specs.Laws.{Grammar, step_of, NextHasNoStep, DecidesNoStep, IsApart, Answer, Replied, NumbersSpent, answer_in, answers_in, AnswersNext, AnswersOf, RunsAnswering, HasAnswers}
pub use Rattle.mc_world.specs.Laws.{is_number, events_of, Leaves}
pub use Rattle.mc_world.specs.Refusals.{EventOutcome, was_done, was_refused, refusals, Goes, RunsThrough, ToldThrough}
pub use Rattle.mc_world.specs.Rounds.{in_world, with_sent, seat, one_more, Begins, HasServed}
pub use Rattle.mc_world.specs.Serving.{in_front, with_front, turn_events, with_written, next_session, waiting, most_turns, shelf_of, Service, ServiceStep, IsService, turn, piece, write, scene}
pub use Rattle.mc_world.specs.Serving.{IsRefusal, refused_turn, refused_piece, UntilRefused, Served, ServedAll, Came}
pub use Rattle.mc_world.specs.Sessions.{at_session, TurnBy, Done, sessions_ended, DecidedIn, EventTakesMemory, Undone, TurnOf, DecidedOf, SessionIsDue, IsOpenAt, TurnGiven, state_of}
pub use Rattle.mc_world.specs.Worlds.{StandAll, WorldStandsAs, PlainWorld, WorldState, numbered, if_open, put}
pub use Rattle.mc_world.specs.Worlds.{EventMoves, EventsMove, TurnMoves, eight_moved}
pub use Rattle.mc_world.specs.Worlds.{changed, open_connection, open_session, in_plain, at_connection, NextTurn, Turns, Happens}
pub use Rattle.mc_world.specs.Worlds.{named, Runs, with_end, EventDecides, TakesMemory, GivesUp, RunsIn, Told, Refuses, RunsUntil, ToldRefused, ToldUntil, CanStand, output_of, IsIdle, IsClosed}
pub use Rattle.mc_world.specs.declared.event.Event.{Event}
pub use Rattle.mc_world.specs.declared.event.Event.TheVariants.{Open, Piece, Turn, Clock, Grow, Purge, Close}
pub use Rattle.mc_world.specs.declared.event.Refused.{Refused}
pub use Rattle.mc_world.specs.declared.seat.WorldSession.{WorldSession}
