use Rattle.std.proofs.Common.{◌<◌, length}
use Rattle.mc_session.specs.Exchanges.{scene, Exchanges}
use Rattle.mc_session.proofs.rounds.serve_endpoint.Given as goal

abbrev pub invariant-loop-turn : goal.invariant-loop-turn
invariant-loop-turn g l =
    (0 < length l.piece)
    × Exchanges g.E.Endpoint (g.C.Clock.may_give l.context.clock.now) l._turn (scene l.fn.endpoint l.fn.store (g.R.Read.remaining l.fn.reader) (g.W.Write.contents l.fn.writer))
    (scene l.endpoint l.store (g.R.Read.remaining l.reader) (g.W.Write.contents l.writer))
