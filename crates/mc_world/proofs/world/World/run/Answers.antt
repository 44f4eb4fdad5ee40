use Rattle.mc_world.proofs.Words.{length, refl, slice_get_read}
use Rattle.mc_world.proofs.WorldLemmas.{told_on, told_until}
use Rattle.mc_world.proofs.world.World.run.Goals as goal

pub returns-in-Err-clause-err : goal.returns-in-Err-clause-err
returns-in-Err-clause-err g c = told_until c.loop-at.invariant
    (slice_get_read c.args.events.now (length c.args.events.now) c.loop-at.at c.index-events-at.result refl c.loop-at-test.true c.index-events-at.is) c.session.ensures c.in-Err.ensures.err

pub loop-at-preserved : goal.loop-at-preserved
loop-at-preserved g c = told_on c.args.events.now c.loop-at.at c.index-events-at.result c.index-events-at.is c.loop-at-test.true c.loop-at.invariant c.in_default.ensures.ok
