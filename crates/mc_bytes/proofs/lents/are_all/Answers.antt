use Rattle.std.proofs.Common.{◌<◌, ◌≤◌, ◌==◌, ◌++◌, ℕ, List, length, refl, sym, ap, ◌∙◌, arith}
use Rattle.std.proofs.lemmas.Bool.{eqb-true}
use Rattle.std.proofs.lemmas.List.{nil_from_length}
use Rattle.mc_bytes.proofs.MatchLemmas.{same_behind, further_part, other_part, all_matched}
use Rattle.mc_bytes.proofs.lents.are_all.Goals as goal

pub loop-at-init : goal.loop-at-init
loop-at-init c = same_behind _ _ _ _ (c.in-Some.ensures.some ∙ ap (λ (l : List ℕ). l ++ c.in-Some.left.now) c.as_slice.ensures)

pub returns-in_default-behind : goal.returns-in_default-behind
returns-in_default-behind c =
    let below : c.loop-at.at < length c.args.rest.now.items = omega (arith, c.loop-at-test.true, c.len-at-end.ensures) in (
      λ e. cc,
      λ all. absurd (other_part _ _ _ c.loop-at.at c.index.result.now _ below c.index.ensures
          (λ rest begins. c.in_default-behind.ensures.none refl rest (begins ∙ ap (λ (l : List ℕ). l ++ rest) (sym c.as_slice-in-loop-at.ensures))) c.loop-at.invariant all),
    )

pub loop-at-preserved : goal.loop-at-preserved
loop-at-preserved c =
    let below : c.loop-at.at < length c.args.rest.now.items = omega (arith, c.loop-at-test.true, c.len-at-end.ensures) in
    further_part _ _ _ c.loop-at.at c.index.result.now _ _ below c.index.ensures
    (c.in-Some-behind.ensures.some ∙ ap (λ (l : List ℕ). l ++ c.in-Some-behind.further.now) c.as_slice-in-loop-at.ensures) c.loop-at.invariant

pub returns : goal.returns
returns c =
    let beyond : length c.args.rest.now.items ≤ c.loop-at.at = omega (arith, c.loop-at-test.false, c.len-at-end.ensures) in
    let same = all_matched _ _ _ c.loop-at.at c.loop-at.left.now beyond c.loop-at.invariant in
    (λ empty. same.1 (nil_from_length c.loop-at.left.now (eqb-true _ 0 (sym c.is_empty.ensures ∙ empty))), λ all. c.is_empty.ensures ∙ ap (λ (l : List ℕ). length l == 0) (same.0 all))
