use Rattle.mc_shelf_tests.proofs.seen.remade.Goals as goal

pub returns : goal.returns
returns c = c.from_parts.ensures.plain c.args.store.plain c.into_parts.ensures.set_up c.into_parts.ensures.parts
