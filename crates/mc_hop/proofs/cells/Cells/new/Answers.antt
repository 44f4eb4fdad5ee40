use Rattle.mc_hop.proofs.ListLemmas.{map-replicate}
use Rattle.mc_hop.proofs.LinkLemmas.{IsLinked-none}
use Rattle.mc_hop.proofs.cells.Cells.new.Goals as goal

pub invariant_of-result : goal.invariant_of-result
invariant_of-result g c =
    simp (c.in_ok-empty_list.ensures, c.in_ok-with_capacity.ensures.items, c.in_ok-with_capacity-2.ensures.items, map-replicate)
    (IsLinked-none c.args.len c.in_ok-with_capacity.ensures.capacity c.in_ok-with_capacity-2.ensures.capacity c.requires)

pub returns : goal.returns
returns g c = simp (c.in_ok-empty_list.ensures, c.in_ok-with_capacity.ensures.items, map-replicate)
