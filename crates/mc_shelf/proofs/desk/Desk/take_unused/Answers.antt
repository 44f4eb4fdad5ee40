use Rattle.mc_shelf.proofs.Common.{◌≡◌, ◌≤◌, ap, arith, DeskState, out_of, pages_of, SlabState, subst, sym, unused}
use Rattle.mc_shelf.proofs.StandLemmas.{room_by_free}
use Rattle.mc_shelf.proofs.DeskLemmas.{fault_wants}
use Rattle.mc_shelf.proofs.desk.Desk.take_unused.Goals as goal

pub unreachable-requires : goal.unreachable-requires
unreachable-requires c =
    let slab = c.self.inside.slab in
    let need = c.args.need in
    let same : slab ≡ c.args.self.now.slab = ap (λ (d : DeskState). d.slab) c.self.view_is in
    let least = subst (λ (t : SlabState). need.count ≤ unused t need.class) (sym same) c.requires in
    let wants =
    fault_wants slab need 0 _ c.in-Err.is c.take_all_with.ensures.faults c.take_all_with.ensures.no_memory
    (c.take_all_with.ensures.full need.class (pages_of slab need.class) (out_of slab need.class)).0 (room_by_free slab need least) in
    omega (arith, least, wants.1)
