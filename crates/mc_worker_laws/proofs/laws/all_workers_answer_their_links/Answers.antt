use Rattle.mc_worker_laws.proofs.AllLemmas.{workers_answered}
use Rattle.mc_worker_laws.proofs.laws.all_workers_answer_their_links.Goals as goal

pub returns : goal.returns
returns g c = λ hash_of clock. workers_answered c.no_spelling_begins_another.ensures hash_of (g.C.Clock.may_give clock)
