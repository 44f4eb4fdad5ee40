use Rattle.std.proofs.Common.{◌≡◌, ℕ, ◌+◌, ◌-◌, Ok, set, sym, ap, subst, ◌∙◌}
use Rattle.std.proofs.lemmas.Result.{err_from_is_err_and}
use Rattle.mc_slab.specs.Chunks.{AreChunksOf}
use Rattle.mc_slab.specs.Needs.{NeedState, IsNeed}
use Rattle.mc_slab.specs.PagesByClass.{StockState, all_chunks}
use Rattle.mc_slab.specs.Slabs.{SlabState, AreStocks, Takes, state_of, made_ready}
use Rattle.mc_slab.proofs.SlabLemmas.{stock_at, class_at}
use Rattle.mc_slab.proofs.ReadyLemmas.{are_taken, enough_at, takes, takes_refused}
use Rattle.mc_slab.proofs.slab.Slab.take_all_with.Goals as goal

pub take-requires-clause-need : goal.take-requires-clause-need
take-requires-clause-need c =
    let is = c.class.ensures.is_need in
    let at = stock_at _ _ c.args.need.class _ _ c.self.invariant is.is_class (c.index.ensures.value ∙ ap (λ (k : ℕ). k - 1) c.class.ensures.value) c.index_mut-stock.ensures.value in
    let ready : state_of c.self.inside.pages_left c.self.inside.stocks.items ≡ made_ready c.args.self.now c.args.need 0 = c.self.view_is ∙ c.in_ok-ready_with.ensures.ready in
    let need_is : ◌≡◌ {A = NeedState} (record { class = c.index_mut-stock.result.now.class; count = c.count.result }) c.args.need =
    ap (λ (k : ℕ). record { class = k; count = c.count.result }) (class_at _ _ _ _ _ at) ∙ ap (λ (n : ℕ). record { class = c.args.need.class; count = n }) c.count.ensures.value in
    subst IsNeed (sym need_is) is

pub take-requires-clause-enough : goal.take-requires-clause-enough
take-requires-clause-enough c =
    let is = c.class.ensures.is_need in
    let at = stock_at _ _ c.args.need.class _ _ c.self.invariant is.is_class (c.index.ensures.value ∙ ap (λ (k : ℕ). k - 1) c.class.ensures.value) c.index_mut-stock.ensures.value in
    let ready : state_of c.self.inside.pages_left c.self.inside.stocks.items ≡ made_ready c.args.self.now c.args.need 0 = c.self.view_is ∙ c.in_ok-ready_with.ensures.ready in
    rw c.count.ensures.value (enough_at _ _ _ c.args.need _ _ at is c.is_slab.ensures ready)

pub invariant_of-self : goal.invariant_of-self
invariant_of-self c =
    let is = c.class.ensures.is_need in
    let at = stock_at _ _ c.args.need.class _ _ c.self.invariant is.is_class (c.index.ensures.value ∙ ap (λ (k : ℕ). k - 1) c.class.ensures.value) c.index_mut-stock.ensures.value in
    let ready : state_of c.self.inside.pages_left c.self.inside.stocks.items ≡ made_ready c.args.self.now c.args.need 0 = c.self.view_is ∙ c.in_ok-ready_with.ensures.ready in
    rw c.take.ensures.out
    (subst
    (λ (n : ℕ). AreStocks c.self.inside.pages_left
    (set c.self.inside.stocks.items c.index.result (record c.index_mut-stock.result.now { out = c.index_mut-stock.result.now.out + n })))
    (sym c.count.ensures.value) (are_taken _ _ _ c.args.need _ _ at is c.is_slab.ensures ready))

pub returns : goal.returns
returns c =
    let is = c.class.ensures.is_need in
    let at = stock_at _ _ c.args.need.class _ _ c.self.invariant is.is_class (c.index.ensures.value ∙ ap (λ (k : ℕ). k - 1) c.class.ensures.value) c.index_mut-stock.ensures.value in
    let ready : state_of c.self.inside.pages_left c.self.inside.stocks.items ≡ made_ready c.args.self.now c.args.need 0 = c.self.view_is ∙ c.in_ok-ready_with.ensures.ready in
    let need_is : ◌≡◌ {A = NeedState} (record { class = c.index_mut-stock.result.now.class; count = c.count.result }) c.args.need =
    ap (λ (k : ℕ). record { class = k; count = c.count.result }) (class_at _ _ _ _ _ at) ∙ ap (λ (n : ℕ). record { class = c.args.need.class; count = n }) c.count.ensures.value in
    rw c.take.ensures.out
    (subst
    (λ (n : ℕ). Takes c.args.need c.args.self.now (Ok c.take.result)
    (state_of c.self.inside.pages_left
    (set c.self.inside.stocks.items c.index.result (record c.index_mut-stock.result.now { out = c.index_mut-stock.result.now.out + n })))) (sym c.count.ensures.value)
    (takes _ _ _ c.args.need _ _ at is c.is_slab.ensures ready c.take.result (subst (λ (n : NeedState). AreChunksOf n c.take.result) need_is c.take.ensures.chunks) c.in_ok-ready_with.ensures.room))

pub returns-in_err-ready_with : goal.returns-in_err-ready_with
returns-in_err-ready_with c =
    let p = err_from_is_err_and c.from_residual.result c.from_residual.ensures.1 in
    rw (p.1, p.2) (takes_refused c.args.need c.args.self.now c.ready_with.new.self c.in_err-ready_with.field-0.0 c.in_err-ready_with.ensures)
