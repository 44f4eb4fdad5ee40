use Rattle.mc_shelf.proofs.Common.{[], ◌-◌, ◌∙◌, ◌∷◌, ◌≡◌, ap, arith, chunks_in, count_among, DeskState, need_in, out_of}
use Rattle.mc_shelf.proofs.StandLemmas.{out-given, weight_here}
use Rattle.mc_shelf.proofs.SweepLemmas.{among_join}
use Rattle.mc_shelf.proofs.desk.Desk.take_back.Goals as goal

pub give-requires : goal.give-requires
give-requires c =
    let loop = c.loop-one in
    let one = c.in-Some.one in
    let is = c.need-need.ensures.are.is_need.is_class in
    let last = ap (λ l. count_among l one.class) c.in-Some.ensures.items ∙ among_join c.pop.new.self.items (one ∷ []) one.class in
    let here : chunks_in (need_in one) one.class ≡ one.count = weight_here one.class one.count in
    omega (arith, last, here, loop.invariant.out one.class is, c.requires one.class is)

pub loop-one-preserved : goal.loop-one-preserved
loop-one-preserved c =
    let loop = c.loop-one in
    let one = c.in-Some.one in
    let is = c.need-need.ensures.are.is_need.is_class in
    record {
      out = λ class is_class.
          let last = ap (λ l. count_among l class) c.in-Some.ensures.items ∙ among_join c.pop.new.self.items (one ∷ []) class in
          let less : out_of c.give.new.self.slab class ≡ out_of loop.self.slab class - chunks_in (need_in one) class =
          ap (λ (d : DeskState). out_of d.slab class) c.give.ensures.given ∙ out-given loop.self.slab one.class is c.give.ensures.slab.out one.count class is_class in
          omega (arith, last, less, loop.invariant.out class is_class, c.requires class is_class);
      pages = ap (λ (d : DeskState). d.slab.pages) c.give.ensures.given ∙ loop.invariant.pages;
      limit = ap (λ (d : DeskState). d.slab.limit) c.give.ensures.given ∙ loop.invariant.limit;
      next_unique = ap (λ (d : DeskState). d.next_unique) c.give.ensures.given ∙ loop.invariant.next_unique;
    }
