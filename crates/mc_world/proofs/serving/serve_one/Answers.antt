use Rattle.std.proofs.Common.{inr}
use Rattle.mc_world.proofs.ServeLemmas.{all_follows, ran_of, ran_served, ran_and_wrote, ran_whole, ran_short}
use Rattle.mc_world.proofs.serving.serve_one.Goals as goal

pub returns-in-Ok-ended-clause-ok : goal.returns-in-Ok-ended-clause-ok
returns-in-Ok-ended-clause-ok g c = all_follows c.write_out.result
    (λ all. ran_whole (ran_of c.in-Ok-begin.ensures.ok c.end.ensures (c.in-Ok-ended.ensures.goes (λ is. cc))) c.write_out.ensures.wrote c.in-Ok-ended.ensures.ended all) c.write_out.ensures.ok

pub returns-in-Ok-ended-clause-served : goal.returns-in-Ok-ended-clause-served
returns-in-Ok-ended-clause-served g c = λ _. ran_and_wrote (ran_of c.in-Ok-begin.ensures.ok c.end.ensures (c.in-Ok-ended.ensures.goes (λ is. cc))) c.write_out.ensures.wrote

pub returns-clause-served : goal.returns-clause-served
returns-clause-served g c = λ other. ran_served (ran_of c.in-Ok-begin.ensures.ok c.end.ensures (c.in-Err-ended.ensures.goes other))

pub returns-clause-memory : goal.returns-clause-memory
returns-clause-memory g c = λ is. inr (ran_short c.in-Ok-begin.ensures.ok c.end.ensures (c.in-Err-ended.ensures.memory is))
