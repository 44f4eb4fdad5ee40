use Rattle.mc_shelf.proofs.Common.{◌∙◌, Action, ap, get, sym}
use Rattle.mc_shelf.specs.Plans.{gives_way_to}
use Rattle.mc_shelf.proofs.NeedLemmas.{small_stays}
use Rattle.mc_shelf.proofs.TakesLemmas.{sized}
use Rattle.mc_shelf.proofs.shelf.Shelf.gives_way.Goals as goal

pub returns-then-charge-le-SMALL : goal.returns-then-charge-le-SMALL
returns-then-charge-le-SMALL c =
    let plan = c.args.plan.now in
    let shelf = c.args.self.now.content in
    sym (ap (λ (n : Action). gives_way_to n shelf plan.key plan.moment) c.in-Write.is ∙ small_stays shelf.cut plan.moment plan.key (get shelf.items plan.key) c.in-Write.charge c.if-charge-le-SMALL.true)

pub need_for-need-requires : goal.need_for-need-requires
need_for-need-requires c =
    let plan = c.requires.2 in
    (sized c.args.self.now.content c.requires.0 c.requires.1 c.in-Write.charge c.in-Write.flags c.in-Write.expiry c.in-Write.body (sym c.in-Write.is ∙ plan.next)).fits
