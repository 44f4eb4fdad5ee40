use Rattle.mc_world.proofs.AnswerLemmas.{leaves_one}
use Rattle.mc_world.proofs.laws.a_session_follows_its_own_answers.Goals as goal

pub returns-clause-follows : goal.returns-clause-follows
returns-clause-follows c = λ n first own answers last other one two. leaves_one n first own answers last other one two
