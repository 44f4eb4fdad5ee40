use Rattle.mc_shelf.proofs.shelf.Shelf.apply.Goals as goal

pub returns-then-not-needs_desk-clause-took : goal.returns-then-not-needs_desk-clause-took
returns-then-not-needs_desk-clause-took c =
    let settled = c.settle.ensures.told c.args.step.now c.args.plan.moment c.requires.plan in
    record { takes = settled.takes c.args.desk.now; others = settled.others; hash = settled.hash }
