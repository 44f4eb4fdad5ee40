use Rattle.std.proofs.Common.{Bool, false, subst}
use Rattle.mc_sockets.proofs.YardLemmas.{stays_left}
use Rattle.mc_sockets.proofs.yard.Yard.take_in.Goals as goal

pub returns-clause-takes : goal.returns-clause-takes
returns-clause-takes g c = λ in_use. (
  false,
  c.is_done.new.self,
  subst (λ (b : Bool). g.L.Lingering.looks c.args.one b c.is_done.new.self) c.if-is_done.false c.is_done.ensures,
  (
    c.keep-kept.new.self,
    stays_left g.L.Lingering.leaves c.args.place c.is_done.new.self c.leave.new.self c.keep-kept.result c.args.self.now c.keep-kept.new.self c.leave.ensures c.keep-kept.ensures,
    c.close_longest.ensures,
  ),
)
