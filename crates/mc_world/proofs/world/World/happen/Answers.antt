use Rattle.mc_world.proofs.Words.{state_of}
use Rattle.mc_world.proofs.WorldLemmas.{result_refused, result_stands, result_told}
use Rattle.mc_world.proofs.world.World.happen.Goals as goal

pub invariant_of-self : goal.invariant_of-self
invariant_of-self g c = result_stands g.K.KeyHash.hash_of _ _ c.args.event.now c.happen.result c.self.invariant c.happen.ensures.ok c.happen.ensures.err

pub returns-clause-ok : goal.returns-clause-ok
returns-clause-ok g c =
    result_told g.K.KeyHash.hash_of (state_of c.self.inside.parts) (state_of c.happen.new.self) c.args.self.now c.args.event.now c.happen.result c.self.view_is c.happen.ensures.ok

pub returns-clause-err : goal.returns-clause-err
returns-clause-err g c =
    result_refused g.K.KeyHash.hash_of (state_of c.self.inside.parts) (state_of c.happen.new.self) c.args.self.now c.args.event.now c.happen.result c.self.view_is c.happen.ensures.err
