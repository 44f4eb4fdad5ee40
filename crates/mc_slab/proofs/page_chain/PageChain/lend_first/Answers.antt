use Rattle.std.proofs.Common.{◌≡◌, ℕ, List, ◌++◌, take, ap, sym, ◌∙◌}
use Rattle.mc_slab.specs.PageChains.{sheets_in}
use Rattle.mc_slab.proofs.SheetLemmas.{first_here, first_alone, lent_of}
use Rattle.mc_slab.proofs.page_chain.PageChain.lend_first.Goals as goal

pub returns-in-Last : goal.returns-in-Last
returns-in-Last c =
    let view : c.args.self.now.1.0 ≡ c.in-Last.whole = ap (λ (p : ℕ × (List ℕ × List ℕ)). p.1.0) (sym c.self.view_is) ∙ ap (λ n. (sheets_in n).1) c.in-Last.is in
    let first : c.in-Last.whole ≡ take 1048576 c.args.self.now.1.0 = first_alone c.in-Last.whole c.lend.ensures.whole ∙ ap (λ (l : List ℕ). take 1048576 l) (sym view) in
    lent_of c.lend.result c.args.from c.args.to _ _ first c.lend.ensures.value

pub returns-in-Before : goal.returns-in-Before
returns-in-Before c =
    let behind : List ℕ = c.in-Before.field-1.value.1.0 in
    let view : c.args.self.now.1.0 ≡ c.in-Before.whole ++ behind = ap (λ (p : ℕ × (List ℕ × List ℕ)). p.1.0) (sym c.self.view_is) ∙ ap (λ n. (sheets_in n).1) c.in-Before.is in
    let first : c.in-Before.whole ≡ take 1048576 c.args.self.now.1.0 = first_here c.in-Before.whole behind c.lend-in-Before.ensures.whole ∙ ap (λ (l : List ℕ). take 1048576 l) (sym view) in
    lent_of c.lend-in-Before.result c.args.from c.args.to _ _ first c.lend-in-Before.ensures.value
