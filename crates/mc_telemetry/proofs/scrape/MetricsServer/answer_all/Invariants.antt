use Rattle.std.proofs.Common.{◌≡◌}
use Rattle.mc_telemetry.proofs.scrape.MetricsServer.answer_all.Given as goal

abbrev pub invariant-loop-turn : goal.invariant-loop-turn
invariant-loop-turn g l = l.self.may_quit ≡ l.initial.self.may_quit
