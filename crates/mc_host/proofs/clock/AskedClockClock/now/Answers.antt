use Rattle.std.proofs.Common.{ℕ, Option, refl, subst, sym}
use Rattle.mc_host.specs.Clocks.{moments}
use Rattle.mc_host.proofs.clock.AskedClockClock.now.Goals as goal

pub returns-in-Some : goal.returns-in-Some
returns-in-Some g c =
    let system = g.S.Clock.may_give c.args.self.now.system in
    subst (λ (asked : Option ℕ). moments asked system c.in-Some.moment) (sym c.in-Some.is) refl
