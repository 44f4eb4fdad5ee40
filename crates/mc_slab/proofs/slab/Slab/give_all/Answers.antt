use Rattle.std.proofs.Common.{◌≡◌, ℕ, ◌-◌, refl, sym, ap, ◌∙◌, arith}
use Rattle.mc_slab.specs.Needs.{NeedState}
use Rattle.mc_slab.specs.Slabs.{SlabState, given, state_of, with_out}
use Rattle.mc_slab.proofs.ChunkLemmas.{chunks_of}
use Rattle.mc_slab.proofs.SlabLemmas.{stock_at, IsSlab-state_of, class_at, out_at, within_at, AreStocks-set, state_of-out}
use Rattle.mc_slab.proofs.slab.Slab.give_all.Goals as goal

pub give-requires-clause-class : goal.give-requires-clause-class
give-requires-clause-class c =
    let class : c.class.result ≡ c.args.chunks.class = c.class.ensures.value ∙ ap (λ (n : NeedState). n.class) c.need-need.ensures.value in
    let count : c.count.result ≡ c.args.chunks.count = c.count.ensures.value ∙ ap (λ (n : NeedState). n.count) c.need-need.ensures.value in
    let at = stock_at _ _ c.args.chunks.class _ _ c.self.invariant c.need-need.ensures.are.is_need.is_class (c.index.ensures.value ∙ ap (λ (k : ℕ). k - 1) class) c.index_mut-stock.ensures.value in
    chunks_of c.args.chunks _ _ (sym (class_at _ _ _ _ _ at)) (sym count) c.need-need.ensures.are

pub invariant_of-self : goal.invariant_of-self
invariant_of-self c =
    let class : c.class.result ≡ c.args.chunks.class = c.class.ensures.value ∙ ap (λ (n : NeedState). n.class) c.need-need.ensures.value in
    let at = stock_at _ _ c.args.chunks.class _ _ c.self.invariant c.need-need.ensures.are.is_need.is_class (c.index.ensures.value ∙ ap (λ (k : ℕ). k - 1) class) c.index_mut-stock.ensures.value in
    let within = within_at _ _ _ _ _ at in
    rw c.give.ensures (AreStocks-set _ _ _ _ _ at c.self.inside.pages_left _ refl (omega arith) refl)

pub returns-clause-given : goal.returns-clause-given
returns-clause-given c =
    let class : c.class.result ≡ c.args.chunks.class = c.class.ensures.value ∙ ap (λ (n : NeedState). n.class) c.need-need.ensures.value in
    let count : c.count.result ≡ c.args.chunks.count = c.count.ensures.value ∙ ap (λ (n : NeedState). n.count) c.need-need.ensures.value in
    let at = stock_at _ _ c.args.chunks.class _ _ c.self.invariant c.need-need.ensures.are.is_need.is_class (c.index.ensures.value ∙ ap (λ (k : ℕ). k - 1) class) c.index_mut-stock.ensures.value in
    rw c.give.ensures
    (state_of-out _ _ _ _ _ at (c.index_mut-stock.result.now.out - c.count.result)
    ∙ ap (λ (n : ℕ). with_out (state_of c.self.inside.pages_left c.self.inside.stocks.items) c.args.chunks.class (c.index_mut-stock.result.now.out - n)) count
    ∙ ap (λ (n : ℕ). with_out (state_of c.self.inside.pages_left c.self.inside.stocks.items) c.args.chunks.class (n - c.args.chunks.count)) (sym (out_at _ _ _ _ _ at))
    ∙ ap (λ (s : SlabState). given s c.args.chunks.class c.args.chunks.count) c.self.view_is)

pub returns-clause-is_slab : goal.returns-clause-is_slab
returns-clause-is_slab c = IsSlab-state_of _ _ (invariant_of-self c)
