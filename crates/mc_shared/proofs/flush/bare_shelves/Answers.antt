use Rattle.mc_shared.proofs.Words.{arith, ap, subst, sym, All, IsBare, ShelfContent, All-push}
use Rattle.mc_shared.proofs.flush.bare_shelves.Goals as goal

pub loop-preserved : goal.loop-preserved
loop-preserved c =
    let loop = c.loop in
    let shelf = c.in_ok-new.field-0 in
    let bare : IsBare shelf =
    (ap (λ (s : ShelfContent). s.items) c.in_ok-new.ensures.content, ap (λ (s : ShelfContent). s.hashes) c.in_ok-new.ensures.content) in (
      omega (arith, loop.invariant.0, c.in_ok-push.ensures.len),
      subst (λ l. All IsBare l) (sym c.in_ok-push.ensures.items) (All-push IsBare loop.list.items shelf loop.invariant.1 bare),
    )
