use Rattle.mc_world.proofs.TurnLemmas as lemmas
use Rattle.mc_world.proofs.parts.WorldParts.turn.Goals as goal

pub returns-clause-ok : goal.returns-clause-ok
returns-clause-ok g c =
    lemmas.result_done c.args.number c.args.self.now.moment c.args.self.now.sessions c.turn.new.self c.args.self.now.store c.turn.new.store g.K.KeyHash.hash_of c.turn.result c.turn.ensures.ok

pub returns-clause-err : goal.returns-clause-err
returns-clause-err g c = lemmas.result_undone c.args.number c.args.self.now.moment c.args.self.now.sessions c.turn.new.self c.args.self.now.store c.turn.new.store c.turn.result
    c.turn.ensures.err c.turn.ensures.due c.turn.ensures.undecided c.turn.ensures.decided
