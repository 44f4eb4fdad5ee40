use Rattle.std.proofs.Common.{◌≡◌, ◌≤◌, ◌+◌, ◌/◌, subst, sym, refl}
use Rattle.mc_sizes.specs.Needs.{NeedState, IsSmaller, size_in}
use Rattle.mc_sizes.proofs.NeedLemmas.{pages_hold, pages_least}
use Rattle.mc_sizes.proofs.need.pages_of.Goals as goal

pub returns-clause-holds : goal.returns-clause-holds
returns-clause-holds c =
    let is : c.pages.result ≡ record { class = 40; count = (c.args.charge + 1048575) / 1048576 } = cc in
    subst (λ (n : NeedState). c.args.charge ≤ size_in n) (sym is) (pages_hold _ _ refl)

pub returns-clause-smallest : goal.returns-clause-smallest
returns-clause-smallest c = λ smaller need less.
    let is : c.pages.result ≡ record { class = 40; count = (c.args.charge + 1048575) / 1048576 } = cc in
    pages_least _ _ smaller c.requires refl need (subst (λ (n : NeedState). IsSmaller smaller n) is less)
