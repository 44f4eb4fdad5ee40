use Rattle.mc_shelf.proofs.Common.{◌∙◌, ◌≡◌, ap, count_in, IsClass, out_of, SlabState, subst, sym, ℕ}
use Rattle.mc_shelf.proofs.AsideLemmas.{laid, seen_is_slab}
use Rattle.mc_shelf.proofs.collector.Collector.lay_aside.Goals as goal

pub invariant_of-self : goal.invariant_of-self
invariant_of-self c =
    let lies = c.make_room.ensures.collected.lie c.self.inside.out c.self.invariant in
    let all = subst (λ (s : SlabState). (class : ℕ) → IsClass class → out_of s class ≡ count_in c.args.shelves.items class) (sym c.self.view_is) c.requires in
    laid c.args.shelves.items c.make_room.new.aside.shelves.items c.of.result.shelves.items lies all (λ class. ap (λ l. count_in l class) c.of.ensures ∙ c.join.ensures class)

pub returns-clause-is_slab : goal.returns-clause-is_slab
returns-clause-is_slab c = seen_is_slab (invariant_of-self c)
