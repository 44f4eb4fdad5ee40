use Rattle.mc_world.proofs.Words.{Turn, state_of}
use Rattle.mc_world.proofs.WorldLemmas.{result_refused, result_stands, result_told}
use Rattle.mc_world.proofs.world.World.give_turn.Goals as goal

pub invariant_of-self : goal.invariant_of-self
invariant_of-self g c = result_stands g.K.KeyHash.hash_of _ _ (Turn c.args.session) c.turn.result c.self.invariant c.turn.ensures.ok c.turn.ensures.err

pub returns-clause-ok : goal.returns-clause-ok
returns-clause-ok g c =
    result_told g.K.KeyHash.hash_of (state_of c.self.inside.parts) (state_of c.turn.new.self) c.args.self.now (Turn c.args.session) c.turn.result c.self.view_is c.turn.ensures.ok

pub returns-clause-err : goal.returns-clause-err
returns-clause-err g c =
    result_refused g.K.KeyHash.hash_of (state_of c.self.inside.parts) (state_of c.turn.new.self) c.args.self.now (Turn c.args.session) c.turn.result c.self.view_is c.turn.ensures.err
