use Rattle.mc_shelf.proofs.Common.{◌≡◌, parts_of, Some, subst}
use Rattle.std.specs.Prelude.{IfSome, slice_get}
use Rattle.mc_shelf.specs.Lent.{HitState}
use Rattle.mc_shelf.proofs.hit.Hit.lend.Goals as goal

pub returns : goal.returns
returns c =
    subst (λ (h : HitState). IfSome c.lend.result (λ lent. slice_get (parts_of h.key h.item) c.args.at ≡ Some lent)) c.self.view_is c.lend.ensures
