use Rattle.mc_worker_laws.proofs.WorkedLemmas.{links_answered}
use Rattle.mc_worker_laws.proofs.laws.a_worker_answers_its_links.Goals as goal

pub returns : goal.returns
returns g c = λ hash_of clock. links_answered c.no_spelling_begins_another.ensures hash_of (g.C.Clock.may_give clock)
