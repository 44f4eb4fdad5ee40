use Rattle.mc_guests.proofs.DoorLemmas.{lets_in}
use Rattle.mc_guests.proofs.admission.Admission.let_in.Goals as goal

pub returns-clause-lets : goal.returns-clause-lets
returns-clause-lets g c =
    lets_in _ c.welcome-came.result c.args.self.now.greatest c.args.self.now.opened _ c.args.guests.now c.welcome-came.new.self c.args.end.now
    c.count_refused.new.end c.welcome-came.ensures.came c.welcome-came.ensures.refused c.welcome-came.ensures.leaves c.count_refused.ensures.came c.count_refused.ensures.refused
