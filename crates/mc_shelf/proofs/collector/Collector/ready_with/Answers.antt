use Rattle.mc_shelf.proofs.Common.{◌-◌, ◌∙◌, ap, get_or, LieAside, Readies, seen, SlabState, subst, Suffices, ℕ}
use Rattle.mc_shelf.proofs.AsideLemmas.{readied, seen_same}
use Rattle.mc_shelf.proofs.collector.Collector.ready_with.Goals.{After-ready_with}
use Rattle.mc_shelf.proofs.collector.Collector.ready_with.Goals as goal

both : (c : After-ready_with) → Readies c.args.need c.args.back (seen c.collect_for.new.slab c.self.inside.out) c.ready_with.result (seen c.ready_with.new.self c.self.inside.out)
    × LieAside c.ready_with.new.self c.self.inside.out c.collect_for.new.aside.shelves.items
both c =
    let out = c.self.inside.out in
    let place = c.place_of.ensures.value ∙ ap (λ (n : ℕ). n - 1) c.class.ensures.value in
    let enough = subst (λ (k : ℕ). Suffices c.collect_for.new.slab c.args.need c.args.back (get_or out k 0)) place c.collect_for.ensures.enough in
    readied (c.collect_for.ensures.collected.lie out c.self.invariant) c.args.need c.class.ensures.is_need.is_class c.args.back enough c.ready_with.result c.ready_with.ensures

pub invariant_of-self : goal.invariant_of-self
invariant_of-self c = (both (goal.at.invariant_of-self c).After-ready_with).1

pub returns : goal.returns
returns c =
    subst (λ (s : SlabState). Readies c.args.need c.args.back s c.ready_with.result (seen c.ready_with.new.self c.self.inside.out))
    (seen_same c.self.inside.out c.collect_for.ensures.collected ∙ c.self.view_is) (both (goal.at.returns c).After-ready_with).0
