use Rattle.mc_shelf.proofs.Common.{◌+◌, ◌-◌, ◌∙◌, ◌≡◌, ap, Err, get_or, LieAside, Ok, seen, set, SlabState, subst, Suffices, sym, Takes, ℕ}
use Rattle.mc_shelf.proofs.AsideLemmas.{refused, seen_same, took}
use Rattle.mc_shelf.proofs.collector.Collector.take_all_with.Goals.{After-collect_for}
use Rattle.mc_shelf.proofs.collector.Collector.take_all_with.Goals as goal

place : (c : After-collect_for) → c.place_of-place.result ≡ c.args.need.class - 1
place c = c.place_of-place.ensures.value ∙ ap (λ (n : ℕ). n - 1) c.class.ensures.value

lies : (c : After-collect_for) → LieAside c.collect_for.new.slab c.self.inside.out c.collect_for.new.aside.shelves.items
lies c = c.collect_for.ensures.collected.lie c.self.inside.out c.self.invariant

enough : (c : After-collect_for) → Suffices c.collect_for.new.slab c.args.need 0 (get_or c.self.inside.out (c.args.need.class - 1) 0)
enough c = subst (λ (k : ℕ). Suffices c.collect_for.new.slab c.args.need 0 (get_or c.self.inside.out k 0)) (place c) c.collect_for.ensures.enough

pub invariant_of-self : goal.invariant_of-self
invariant_of-self c =
    let at = (goal.at.invariant_of-self c).After-collect_for in
    let out = c.self.inside.out in
    subst (λ (t : ℕ × ℕ). LieAside c.take_all_with.new.self (set out t.0 (get_or out t.0 0 + t.1)) c.collect_for.new.aside.shelves.items)
    (λ i. (sym (place at) i, sym c.count.ensures.value i)) (took (lies at) c.args.need c.class.ensures.is_need.is_class (enough at) c.in-Ok.chunks c.in-Ok.ensures).1

pub returns-in-Ok : goal.returns-in-Ok
returns-in-Ok c =
    let at = (goal.at.returns-in-Ok c).After-collect_for in
    let out = c.self.inside.out in
    let same = seen_same out c.collect_for.ensures.collected ∙ c.self.view_is in
    subst (λ (t : SlabState × (ℕ × ℕ)). Takes c.args.need t.0 (Ok c.in-Ok.chunks) (seen c.take_all_with.new.self (set out t.1.0 (get_or out t.1.0 0 + t.1.1))))
    (λ i. (same i, (sym (place at) i, sym c.count.ensures.value i)))
    (took (lies at) c.args.need c.class.ensures.is_need.is_class (enough at) c.in-Ok.chunks c.in-Ok.ensures).0

pub returns-in-Err : goal.returns-in-Err
returns-in-Err c =
    let at = (goal.at.returns-in-Err c).After-collect_for in
    let out = c.self.inside.out in
    subst (λ (s : SlabState). Takes c.args.need s (Err c.in-Err.fault) (seen c.take_all_with.new.self out)) (seen_same out c.collect_for.ensures.collected ∙ c.self.view_is)
    (refused (lies at) c.args.need c.class.ensures.is_need.is_class (enough at) c.in-Err.fault c.in-Err.ensures).0
