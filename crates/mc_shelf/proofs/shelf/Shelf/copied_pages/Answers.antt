use Rattle.mc_shelf.proofs.Common.{◌∙◌, sym}
use Rattle.mc_shelf.proofs.TakesLemmas.{sized}
use Rattle.mc_shelf.proofs.shelf.Shelf.copied_pages.Goals as goal

pub need_for-requires : goal.need_for-requires
need_for-requires c =
    let plan = c.requires.2 in
    (sized c.args.self.now.content c.requires.0 c.requires.1 c.in-Write.charge c.in-Write.flags c.in-Write.expiry c.in-Write.body (sym c.in-Write.is ∙ plan.next)).fits
