use Rattle.std.proofs.Common.{◌+◌, ◌≤◌}
use Rattle.mc_hop.proofs.TableLemmas.{Walked}
use Rattle.mc_hop.proofs.table.Hop.find_counted.Given as goal

abbrev pub invariant-loop-turn : goal.invariant-loop-turn
invariant-loop-turn g l =
    Walked g.T.Keyed.hash_of g.T.Keyed.key_of l.fn.self.k l.fn.self.items l.fn.hash l.fn.key l.home l.word l._turn
    × (g.C.ReadCounter.count l.reads ≤ g.C.ReadCounter.count l.fn.reads + l._turn)
