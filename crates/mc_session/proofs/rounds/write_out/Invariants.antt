use Rattle.mc_session.specs.Exchanges.{Wrote}
use Rattle.mc_session.proofs.rounds.write_out.Given as goal

abbrev pub invariant-loop : goal.invariant-loop
invariant-loop g l =
    Wrote g.E.Endpoint l.fn.endpoint l.fn.store l.endpoint l.store (g.W.Write.contents l.fn.writer) (g.W.Write.contents l.writer)
    × (g.E.Endpoint.is_idle l.fn.endpoint l.fn.store → g.E.Endpoint.is_idle l.endpoint l.store)
