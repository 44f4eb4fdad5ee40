use Rattle.std.proofs.Common.{◌≡◌, ◌+◌, ◌-◌, ◌≤◌, List, ◌++◌, length, take, drop, ℕ, ap, sym, ◌∙◌, arith}
use Rattle.std.proofs.lemmas.List.{take-append-drop}
use Rattle.mc_slab.specs.Chunks.{with_part}
use Rattle.mc_slab.proofs.SheetLemmas.{put_behind, put_across}
use Rattle.mc_slab.proofs.page_chain.+write_at.Goals as goal

pub write_before-returns-then-at-ge-WHOLE-clause-value : goal.write_before-returns-then-at-ge-WHOLE-clause-value
write_before-returns-then-at-ge-WHOLE-clause-value t c =
    let whole : length c.args.whole.now ≡ 1048576 = c.is_whole.ensures in
    let behind : 1048576 ≤ c.args.at = omega (arith, c.if-at-ge-WHOLE.true) in
    ap (λ (p : ℕ × (List ℕ × List ℕ)). c.args.whole.now ++ p.1.0) c.write_at.ensures
    ∙ put_behind c.args.whole.now c.args.behind.now.1.0 c.args.part.now (c.args.at - 1048576) c.args.at (omega arith)

pub write_before-returns-else-part-at-clause-value : goal.write_before-returns-else-part-at-clause-value
write_before-returns-else-part-at-clause-value t c =
    let whole : length c.args.whole.now ≡ 1048576 = c.is_whole.ensures in
    let n : ℕ = 1048576 - c.args.at in
    let chunk : List ℕ = c.args.whole.now in
    let part : List ℕ = c.args.part.now in
    let rest : List ℕ = c.args.behind.now.1.0 in
    let first : c.write_at-else-part-at.new.self ≡ with_part chunk c.args.at (take n part) = c.write_at-else-part-at.ensures.value ∙ ap (λ l. with_part chunk c.args.at l) c.split_at.ensures.front in
    let second : c.write_at-else-part-at-2.new.self.1.0 ≡ with_part rest 0 (drop n part) = ap (λ (p : ℕ × (List ℕ × List ℕ)). p.1.0) c.write_at-else-part-at-2.ensures
    ∙ ap (λ l. with_part rest 0 l) c.split_at.ensures.back in
    let long : length (take n part) ≡ n = ap length (sym c.split_at.ensures.front) ∙ c.split_at.ensures.front_len in
    let inside : c.args.at ≤ 1048576 = omega (arith, c.if-at-ge-WHOLE.false) in
    ap (λ l. l ++ c.write_at-else-part-at-2.new.self.1.0) first
    ∙ ap (λ l. with_part chunk c.args.at (take n part) ++ l) second
    ∙ put_across chunk rest (take n part) (drop n part) c.args.at (omega arith)
    ∙ ap (λ l. with_part (chunk ++ rest) c.args.at l) (take-append-drop n part)
