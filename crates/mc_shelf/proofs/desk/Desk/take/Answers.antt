use Rattle.mc_shelf.proofs.Common.{◌≡◌, ap, DeskState, has_room_with, out_of, pages_of, SlabState, subst, sym, true, WantsPages}
use Rattle.std.proofs.Common.{OnErr}
use Rattle.mc_shelf.proofs.DeskLemmas.{fault_wants}
use Rattle.mc_shelf.proofs.desk.Desk.take.Goals.{in-Ok, in-Err}
use Rattle.mc_shelf.proofs.desk.Desk.take.Goals as goal

pub returns-clause-pages : goal.returns-clause-pages
returns-clause-pages c = elim c.match-take_all_with.branch [
  | in-Ok w ↦ subst (λ r. OnErr r (WantsPages c.args.self.now.slab c.args.need 0)) (sym w.result-is) tt
  | in-Err w ↦
      let slab = c.self.inside.slab in
      let need = c.args.need in
      let same : slab ≡ c.args.self.now.slab = ap (λ (d : DeskState). d.slab) c.self.view_is in
      let room = subst (λ (t : SlabState). has_room_with t need 0 ≡ true) (sym same) c.requires in
      let wants =
      fault_wants slab need 0 _ w.in-Err.is c.take_all_with.ensures.faults c.take_all_with.ensures.no_memory
      (c.take_all_with.ensures.full need.class (pages_of slab need.class) (out_of slab need.class)).0 room in
      subst (λ r. OnErr r (WantsPages c.args.self.now.slab need 0)) (sym w.result-is) (subst (λ (t : SlabState). WantsPages t need 0) same wants)
]
