use Rattle.std.proofs.Common.{◌≡◌}
use Rattle.mc_telemetry.proofs.scrape.MetricsServer.go_on_all.Given as goal

abbrev pub invariant-loop-one : goal.invariant-loop-one
invariant-loop-one g l = l.self.may_quit ≡ l.initial.self.may_quit
