use Rattle.mc_run.specs.Runs.{hash_of}
use Rattle.mc_run.proofs.AnsweredLemmas.{all_answered}
use Rattle.mc_run.proofs.laws.one_list_answers_all_links.Goals as goal

pub returns : goal.returns
returns g c = λ options clock served.
    let (calls, left, answers, among) = c.all_workers_answer_their_links.ensures hash_of (record { asked = options.now; system = clock }) served.began served.past served.agrees in
    (calls, answers.exactly served.whole, all_answered options (g.C.Clock.may_give clock) served calls left answers among)
