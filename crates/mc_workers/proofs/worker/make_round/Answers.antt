use Rattle.std.proofs.Common.{refl}
use Rattle.mc_workers.specs.Tending.{GoesFurther}
use Rattle.mc_workers.proofs.WorkLemmas.{at, round_keeps, goes_none, goes_same, goes_both, goes_once}
use Rattle.mc_guests.specs.Leaving.{all_gone}
use Rattle.mc_guests.proofs.LeavingLemmas.{go_from, visits_leave}
use Rattle.mc_workers.proofs.worker.make_round.Goals as goal

pub returns-clause-further : goal.returns-clause-further
returns-clause-further g c =
    round_keeps _ c.args.now (GoesFurther (at c.args.now) {K = g.row.K.Denot}) (goes_none (at c.args.now)) (goes_same (at c.args.now))
    (λ a step reply b asks. goes_once (at c.args.now) _ _ a b refl asks) (goes_both (at c.args.now)) _ _ c.visit_all.ensures.round

pub returns-clause-round : goal.returns-clause-round
returns-clause-round g c = (
  record { visited = c.visit_all.new.self; visits = c.visit_all.ensures.visits; settles = c.settle.ensures.0 },
  go_from _ (all_gone c.settle.ensures.0.1) c.args.guests.now.gone c.visit_all.new.self.gone c.settle.new.self.gone (visits_leave _ c.args.now _ _ _ _ c.visit_all.ensures.visits)
      c.settle.ensures.1,
)
