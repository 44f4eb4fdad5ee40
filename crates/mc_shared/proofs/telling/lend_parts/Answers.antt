use Rattle.mc_shared.proofs.Words.{parts_of}
use Rattle.mc_shared.proofs.HitLemmas.{lent-eight}
use Rattle.mc_shared.proofs.telling.lend_parts.Goals as goal

pub returns : goal.returns
returns c =
    let hit = c.args.hit.now in
    lent-eight (parts_of hit.key hit.item) _ _ _ _ _ _ _ _ c.lend_at.ensures c.lend_at-2.ensures c.lend_at-3.ensures c.lend_at-4.ensures
    c.lend_at-5.ensures c.lend_at-6.ensures c.lend_at-7.ensures c.lend_at-8.ensures
