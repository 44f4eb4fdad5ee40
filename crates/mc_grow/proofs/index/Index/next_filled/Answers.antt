use Rattle.mc_grow.proofs.Words.{◌≡◌, ◌+◌, ◌-◌, Some, map, is_some, length, refl, ap, subst, arith, IndexState, cells, IsFirstFilled, drained_items}
use Rattle.mc_grow.proofs.CellLemmas.{first_left, first_right, first_stray}
use Rattle.mc_grow.proofs.index.Index.next_filled.Goals as goal

pub returns-in-Some-filled_bucket-clause-found : goal.returns-in-Some-filled_bucket-clause-found
returns-in-Some-filled_bucket-clause-found g c =
    let i = c.self.inside in
    let first = c.drained_buckets-first.ensures.value in
    subst (λ (s : IndexState g.row.T.Denot). IsFirstFilled (cells s) c.args.at (c.drained_buckets-first.result + c.in-Some-filled_bucket.number)) c.self.view_is
    (first_right (drained_items i.draining) _ c.args.at c.in-Some-filled_bucket.number c.saturating_sub.result _ (c.filled_drained.ensures.none (ap is_some c.in_default.is))
    (omega (arith, c.saturating_sub.ensures, first)) (omega (arith, first)) (first_left i.table.items (map Some i.strays.items) _ _ c.in-Some-filled_bucket.ensures.found))

pub returns-then-stray-len-clause-found : goal.returns-then-stray-len-clause-found
returns-then-stray-len-clause-found g c =
    let i = c.self.inside in
    let first = c.drained_buckets-first.ensures.value in
    let second = c.buckets.ensures.value in
    let stray = c.saturating_sub-stray.result in
    let from : stray ≡ c.saturating_sub.result - length i.table.items = omega (arith, c.saturating_sub-stray.ensures, c.saturating_sub.ensures, first, second) in
    subst (λ (s : IndexState g.row.T.Denot). IsFirstFilled (cells s) c.args.at (c.drained_buckets-first.result + c.buckets.result + stray)) c.self.view_is
    (first_right (drained_items i.draining) _ c.args.at (length i.table.items + stray) c.saturating_sub.result _ (c.filled_drained.ensures.none (ap is_some c.in_default.is))
    (omega (arith, c.saturating_sub.ensures, first)) (omega (arith, first, second))
    (first_right i.table.items (map Some i.strays.items) _ stray stray _ (c.filled_bucket.ensures.none (ap is_some c.in_default-filled_bucket.is)) from refl
    (first_stray i.strays.items stray (omega (arith, c.if-stray-len.true, c.len.ensures.value)))))
