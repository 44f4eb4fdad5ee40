use Rattle.std.proofs.Common.{◌≡◌, ◌-◌, ◌*◌, List, ◌++◌, take, drop, ℕ, ap, sym, ◌∙◌, arith}
use Rattle.mc_slab.specs.PageChains.{sheets_in}
use Rattle.mc_slab.proofs.SheetLemmas.{place_behind, lent_of}
use Rattle.mc_slab.proofs.page_chain.PageChain.+lend.Goals as goal

pub returns-then-at-eq0 : goal.returns-then-at-eq0
returns-then-at-eq0 t c =
    let place = ap (λ (n : ℕ). take 1048576 (drop (n * 1048576) c.args.self.now.1.0)) (sym c.if-at-eq0.true) in
    lent_of c.lend_first.result c.args.from c.args.to _ _ place c.lend_first.ensures

pub returns : goal.returns
returns t c =
    let behind : List ℕ = c.in-Before.behind.value.1.0 in
    let view : c.args.self.now.1.0 ≡ c.in-Before.whole ++ behind = ap (λ (p : ℕ × (List ℕ × List ℕ)). p.1.0) (sym c.self.view_is) ∙ ap (λ n. (sheets_in n).1) c.in-Before.is in
    let place = place_behind c.in-Before.whole behind c.args.at (c.args.at - 1) c.is_whole.ensures (omega arith) in
    let bytes = ap (λ (p : ℕ × (List ℕ × List ℕ)). take 1048576 (drop ((c.args.at - 1) * 1048576) p.1.0)) c.deref.ensures
    ∙ ap (λ (l : List ℕ). take 1048576 l) (sym place)
    ∙ ap (λ (l : List ℕ). take 1048576 (drop (c.args.at * 1048576) l)) (sym view) in
    lent_of c.lend.result c.args.from c.args.to _ _ bytes c.lend.ensures
