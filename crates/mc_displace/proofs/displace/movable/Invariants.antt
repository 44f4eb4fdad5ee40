use Rattle.mc_displace.proofs.MoveLemmas.{NoneOfHomesBelow}
use Rattle.mc_displace.proofs.displace.movable.Given as goal

abbrev pub invariant-loop-home : goal.invariant-loop-home
invariant-loop-home g l = NoneOfHomesBelow g.T.Keyed.hash_of l.fn.hop.k l.fn.hop.items l.fn.free l.home
