use Rattle.std.proofs.Common.{◌≡◌}
use Rattle.mc_telemetry.proofs.scrape_connection.ScrapeConnection.read_on.Given as goal

abbrev pub invariant-loop-call : goal.invariant-loop-call
invariant-loop-call g l =
    (l.self.may_quit ≡ l.initial.self.may_quit) × (l.self.peer ≡ l.initial.self.peer)
