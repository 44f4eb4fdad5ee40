use Rattle.std.proofs.Common.{◌≡◌, ◌+◌, ◌-◌, ◌*◌, List, ◌++◌, length, take, drop, ℕ, ap, sym, ◌∙◌, arith}
use Rattle.mc_slab.specs.PageChains.{sheets_in}
use Rattle.mc_slab.proofs.SheetLemmas.{place_behind}
use Rattle.mc_slab.proofs.page_chain.PageChain.+part.Goals as goal

pub returns-then-at-eq0 : goal.returns-then-at-eq0
returns-then-at-eq0 t c = c.first.ensures ∙ ap (λ (n : ℕ). take 1048576 (drop (n * 1048576) c.args.self.now.1.0)) (sym c.if-at-eq0.true)

pub returns : goal.returns
returns t c =
    let view : c.args.self.now.1.0 ≡ c.in-Before.whole ++ c.in-Before.behind.value.1.0 = ap (λ (p : ℕ × (List ℕ × List ℕ)). p.1.0) (sym c.self.view_is) ∙ ap (λ n. (sheets_in n).1) c.in-Before.is in
    let place = place_behind c.in-Before.whole c.in-Before.behind.value.1.0 c.args.at (c.args.at - 1) c.is_whole.ensures (omega arith) in
    c.part.ensures
    ∙ ap (λ (p : ℕ × (List ℕ × List ℕ)). take 1048576 (drop ((c.args.at - 1) * 1048576) p.1.0)) c.deref.ensures
    ∙ ap (λ (l : List ℕ). take 1048576 l) (sym place)
    ∙ ap (λ (l : List ℕ). take 1048576 (drop (c.args.at * 1048576) l)) (sym view)
