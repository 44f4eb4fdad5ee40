use Rattle.std.proofs.Common.{◌≤◌, ◌^◌, sym, subst, arith}
use Rattle.std.proofs.Math.Nat.{pow-le-pow_right}
use Rattle.mc_hop.specs.Tables.{IsTagged}
use Rattle.mc_hop.proofs.TableLemmas.{IsTagged-none}
use Rattle.mc_hop.proofs.table.Hop.new.Goals as goal

pub new-requires : goal.new-requires
new-requires g c =
    let homes : 2 ^ c.args.k ≤ 2 ^ 24 = pow-le-pow_right (omega arith) c.requires.1 in
    omega (arith, homes)

pub invariant_of-result : goal.invariant_of-result
invariant_of-result g c =
    let homes : 2 ^ c.args.k ≤ 2 ^ 24 = pow-le-pow_right (omega arith) c.requires.1 in
    subst (IsTagged g.T.Keyed.hash_of g.T.Keyed.key_of c.args.k) (sym c.in_ok-new.ensures)
    (IsTagged-none g.T.Keyed.hash_of g.T.Keyed.key_of c.args.k c.requires.0 c.requires.1 _ (omega (arith, homes)))
