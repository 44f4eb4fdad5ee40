use Rattle.std.proofs.Common.{◌≡◌, ◌+◌, ◌≤◌, ◌^◌, arith}
use Rattle.std.proofs.Math.Nat.{pow-le-pow_right}
use Rattle.mc_hop.proofs.table.Hop.buckets.Goals as goal

pub returns-clause-most : goal.returns-clause-most
returns-clause-most g c =
    let homes : 2 ^ c.self.inside.k ≤ 2 ^ 24 = pow-le-pow_right (omega arith) c.self.invariant.table.most in
    let size : c.len.result ≡ 2 ^ c.self.inside.k + 255 = omega (arith, c.len.ensures, c.self.invariant.table.items_length) in
    omega (arith, homes, size)
