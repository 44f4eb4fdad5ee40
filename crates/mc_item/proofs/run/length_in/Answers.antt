use Rattle.std.proofs.Common.{arith}
use Rattle.mc_item.proofs.RunLemmas.{chunks_most}
use Rattle.mc_item.proofs.run.length_in.Goals as goal

pub overflow_cast-result : goal.overflow_cast-result
overflow_cast-result c =
    let most = chunks_most c.args.chunks.now c.first.ensures.are in
    let room = c.requires in
    omega arith
