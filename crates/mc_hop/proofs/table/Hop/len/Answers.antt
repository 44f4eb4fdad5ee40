use Rattle.std.proofs.Common.{◌≤◌, ◌^◌, arith}
use Rattle.std.proofs.Math.Nat.{pow-le-pow_right}
use Rattle.mc_hop.proofs.table.Hop.len.Goals as goal

pub returns-clause-most : goal.returns-clause-most
returns-clause-most g c =
    let homes : 2 ^ c.self.inside.k ≤ 2 ^ 24 = pow-le-pow_right (omega arith) c.self.invariant.table.most in
    omega (arith, homes, c.count.ensures.most, c.self.invariant.table.items_length)
