use Rattle.mc_shelf.proofs.Common.{◌-◌, ◌∙◌, ◌≡◌, ◌≤◌, ap, get_or, LieAside, NeedState, out_of, set, SlabState, subst, sym, ℕ}
use Rattle.mc_shelf.proofs.AsideLemmas.{gave, seen_is_slab}
use Rattle.mc_shelf.proofs.collector.Collector.give_all.Goals as goal

pub invariant_of-self : goal.invariant_of-self
invariant_of-self c =
    let out = c.self.inside.out in
    let chunks = c.args.chunks in
    let class : c.class.result ≡ chunks.class = c.class.ensures.value ∙ ap (λ (n : NeedState). n.class) c.need-need.ensures.value in
    let place : c.place_of.result ≡ chunks.class - 1 = c.place_of.ensures.value ∙ ap (λ (n : ℕ). n - 1) class in
    let count : c.count.result ≡ chunks.count = c.count.ensures.value ∙ ap (λ (n : NeedState). n.count) c.need-need.ensures.value in
    let within : chunks.count ≤ get_or out (chunks.class - 1) 0 = subst (λ (s : SlabState). chunks.count ≤ out_of s chunks.class) (sym c.self.view_is) c.requires in
    let lies = gave c.self.invariant chunks.class chunks.count c.need-need.ensures.are.is_need.is_class within c.give_all.ensures.given c.give_all.ensures.is_slab in
    subst (λ (t : ℕ × ℕ). LieAside c.give_all.new.self (set out t.0 (get_or out t.0 0 - t.1)) c.self.inside.aside.shelves.items) (λ i. (sym place i, sym count i)) lies

pub returns-clause-is_slab : goal.returns-clause-is_slab
returns-clause-is_slab c = seen_is_slab (invariant_of-self c)
