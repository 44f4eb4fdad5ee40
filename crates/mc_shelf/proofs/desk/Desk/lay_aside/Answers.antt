use Rattle.mc_shelf.proofs.Common.{◌∙◌, ap, DeskState, out_of}
use Rattle.mc_shelf.proofs.FlushLemmas.{counted_all}
use Rattle.mc_shelf.proofs.desk.Desk.lay_aside.Goals as goal

pub lay_aside-requires : goal.lay_aside-requires
lay_aside-requires c class is =
    ap (λ (d : DeskState). out_of d.slab class) c.self.view_is
    ∙ counted_all c.requires.0 c.requires.2 0 0 c.requires.1 c.requires.3 class is
