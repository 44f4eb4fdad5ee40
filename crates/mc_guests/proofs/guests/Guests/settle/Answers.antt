use Rattle.std.proofs.Common.{◌≡◌, ℕ, ap, sym, subst, arith}
use Rattle.mc_guests.specs.Books.{BooksState}
use Rattle.mc_guests.proofs.LeavingLemmas.{SettlesAllTo, nobody_goes, one_more_goes}
use Rattle.mc_guests.proofs.guests.Guests.settle.Goals as goal

pub loop-at-init : goal.loop-at-init
loop-at-init g c = nobody_goes _ c.self.inside.awake c.args.self.now c.args.end.now (sym (ap (λ (b : BooksState). b.awake) c.self.view_is))

pub loop-at-preserved : goal.loop-at-preserved
loop-at-preserved g c =
    one_more_goes _ c.loop-at.at c.args.self.now c.loop-at.self c.settle_at.new.self c.args.end.now c.loop-at.end c.settle_at.new.end
    (omega arith) c.loop-at.invariant c.settle_at.ensures

pub returns : goal.returns
returns g c =
    let all : c.loop-at.at ≡ 0 = omega (arith, c.loop-at-test.false) in
    subst (λ (n : ℕ). SettlesAllTo g.L.LeavingLink.leaves n c.args.self.now c.loop-at.self c.args.end.now c.loop-at.end) all c.loop-at.invariant.0
