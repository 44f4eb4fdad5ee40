use Rattle.mc_displace.proofs.MoveLemmas.{Brought}
use Rattle.mc_displace.proofs.displace.bring_near.Given as goal

abbrev pub invariant-loop-turn : goal.invariant-loop-turn
invariant-loop-turn g l = Brought g.T.Keyed.hash_of g.T.Keyed.key_of l.fn.hop l.hop l.home l.fn.free l.free l._turn
