use Rattle.mc_bench.proofs.call.key_drawn.Goals as goal

pub returns : goal.returns
returns c = c.roll.ensures
