use Rattle.mc_served.proofs.EndLemmas.{one_answer}
use Rattle.mc_served.proofs.laws.one_input_has_one_answer.Goals as goal

pub returns : goal.returns
returns g c = λ hash_of other_hash_of clock moment old new other_old other_new input still.
    one_answer hash_of other_hash_of (g.C.Clock.may_give clock) moment still old new other_old other_new input
