use Rattle.mc_session.proofs.LendingLemmas.{part_copied}
use Rattle.mc_session.proofs.copying.copy_parts.Goals as goal

pub loop-parts-preserved : goal.loop-parts-preserved
loop-parts-preserved c =
    part_copied c.args.queue.now.bytes c.args.parts.now c.loop-parts.queue.bytes c.loop-parts.parts c.front-part.result.now c.front-part.ensures.rest c.push.new.self.bytes c.consume.new.self
    c.loop-parts.invariant.0 c.loop-parts.invariant.1 c.front-part.ensures.parts c.in_ok-push.ensures.ok c.consume.ensures
