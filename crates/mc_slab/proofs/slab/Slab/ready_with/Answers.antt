use Rattle.std.proofs.Common.{◌≡◌, ℕ, ◌+◌, ◌-◌, ◌<◌, ◌≤◌, Ok, Err, List, set, refl, sym, ap, subst, ◌∙◌, arith}
use Rattle.std.proofs.lemmas.Result.{err_from_is_err_and}
use Rattle.mc_slab.specs.PagesByClass.{StockState, all_chunks}
use Rattle.mc_slab.specs.Slabs.{SlabState, Readies, state_of, AreStocks}
use Rattle.mc_slab.specs.declared.slab.TakeFault.TheVariants.{Full, NoMemory}
use Rattle.mc_slab.proofs.SlabLemmas.{stock_at, few_at}
use Rattle.mc_slab.proofs.ReadyLemmas.{are_ready, readies_free, readies_full, readies_pages, readies_refused}
use Rattle.mc_slab.proofs.slab.Slab.ready_with.Goals as goal

pub returns-then-wanted-eq0 : goal.returns-then-wanted-eq0
returns-then-wanted-eq0 c =
    let is = c.class-class.ensures.is_need in
    let at = stock_at _ _ c.args.need.class _ _ c.self.invariant is.is_class (c.index.ensures.value ∙ ap (λ (k : ℕ). k - 1) c.class-class.ensures.value) c.index_mut-stock.ensures.value in
    let wanted : c.pages_wanted-wanted.result ≡ c.args.need.count - (all_chunks c.index_mut-stock.result.now - c.index_mut-stock.result.now.out + c.args.back) =
    c.pages_wanted-wanted.ensures.value ∙ ap (λ (n : ℕ). n - (all_chunks c.index_mut-stock.result.now - c.index_mut-stock.result.now.out + c.args.back)) c.count.ensures.value in
    subst (λ (s : SlabState). Readies c.args.need c.args.back s (Ok tt) (state_of c.self.inside.pages_left (set c.self.inside.stocks.items c.index.result c.index_mut-stock.result.now))) c.self.view_is
    (readies_free _ _ c.args.need _ _ at is c.args.back _ wanted c.if-wanted-eq0.true)

pub returns-then-wanted-self : goal.returns-then-wanted-self
returns-then-wanted-self c =
    let is = c.class-class.ensures.is_need in
    let at = stock_at _ _ c.args.need.class _ _ c.self.invariant is.is_class (c.index.ensures.value ∙ ap (λ (k : ℕ). k - 1) c.class-class.ensures.value) c.index_mut-stock.ensures.value in
    let wanted : c.pages_wanted-wanted.result ≡ c.args.need.count - (all_chunks c.index_mut-stock.result.now - c.index_mut-stock.result.now.out + c.args.back) =
    c.pages_wanted-wanted.ensures.value ∙ ap (λ (n : ℕ). n - (all_chunks c.index_mut-stock.result.now - c.index_mut-stock.result.now.out + c.args.back)) c.count.ensures.value in
    subst (λ (s : SlabState). Readies c.args.need c.args.back s (Err (Full c.class-class.result c.account-pages.result.pages c.account-pages.result.out))
    (state_of c.self.inside.pages_left (set c.self.inside.stocks.items c.index.result c.index_mut-stock.result.now))) c.self.view_is
    (readies_full _ _ c.args.need _ _ at is c.args.back _ wanted _ _ _ c.class-class.ensures.value (ap (λ a. a.pages) c.account-pages.ensures.value)
    (ap (λ a. a.out) c.account-pages.ensures.value) c.if-wanted-self.true)

pub add_pages-requires : goal.add_pages-requires
add_pages-requires c =
    let is = c.class-class.ensures.is_need in
    let at = stock_at _ _ c.args.need.class _ _ c.self.invariant is.is_class (c.index.ensures.value ∙ ap (λ (k : ℕ). k - 1) c.class-class.ensures.value) c.index_mut-stock.ensures.value in
    record { few = few_at _ _ _ _ _ at c.pages_wanted-wanted.result c.if-wanted-self.false }

pub returns-in_err-add_pages : goal.returns-in_err-add_pages
returns-in_err-add_pages c =
    let is = c.class-class.ensures.is_need in
    let at = stock_at _ _ c.args.need.class _ _ c.self.invariant is.is_class (c.index.ensures.value ∙ ap (λ (k : ℕ). k - 1) c.class-class.ensures.value) c.index_mut-stock.ensures.value in
    let wanted : c.pages_wanted-wanted.result ≡ c.args.need.count - (all_chunks c.index_mut-stock.result.now - c.index_mut-stock.result.now.out + c.args.back) =
    c.pages_wanted-wanted.ensures.value ∙ ap (λ (n : ℕ). n - (all_chunks c.index_mut-stock.result.now - c.index_mut-stock.result.now.out + c.args.back)) c.count.ensures.value in
    let p = err_from_is_err_and c.from_residual.result c.from_residual.ensures.1 in
    let some : 0 < c.pages_wanted-wanted.result = omega (arith, c.if-wanted-eq0.false) in
    rw (p.1, p.2, c.in_err-add_pages.ensures.err)
    (subst
    (λ (s : SlabState). Readies c.args.need c.args.back s (Err NoMemory)
    (state_of c.self.inside.pages_left (set c.self.inside.stocks.items c.index.result c.index_mut-stock.result.now))) c.self.view_is
    (readies_refused _ _ c.args.need _ _ at is c.args.back _ wanted some c.if-wanted-self.false))

pub invariant_of-self-2 : goal.invariant_of-self-2
invariant_of-self-2 c =
    let is = c.class-class.ensures.is_need in
    let at = stock_at _ _ c.args.need.class _ _ c.self.invariant is.is_class (c.index.ensures.value ∙ ap (λ (k : ℕ). k - 1) c.class-class.ensures.value) c.index_mut-stock.ensures.value in
    let wanted : c.pages_wanted-wanted.result ≡ c.args.need.count - (all_chunks c.index_mut-stock.result.now - c.index_mut-stock.result.now.out + c.args.back) =
    c.pages_wanted-wanted.ensures.value ∙ ap (λ (n : ℕ). n - (all_chunks c.index_mut-stock.result.now - c.index_mut-stock.result.now.out + c.args.back)) c.count.ensures.value in
    rw c.in_ok-add_pages.ensures.ok (are_ready _ _ c.args.need _ _ at is c.args.back _ wanted c.if-wanted-self.false)

pub returns : goal.returns
returns c =
    let is = c.class-class.ensures.is_need in
    let at = stock_at _ _ c.args.need.class _ _ c.self.invariant is.is_class (c.index.ensures.value ∙ ap (λ (k : ℕ). k - 1) c.class-class.ensures.value) c.index_mut-stock.ensures.value in
    let wanted : c.pages_wanted-wanted.result ≡ c.args.need.count - (all_chunks c.index_mut-stock.result.now - c.index_mut-stock.result.now.out + c.args.back) =
    c.pages_wanted-wanted.ensures.value ∙ ap (λ (n : ℕ). n - (all_chunks c.index_mut-stock.result.now - c.index_mut-stock.result.now.out + c.args.back)) c.count.ensures.value in
    rw c.in_ok-add_pages.ensures.ok
    (subst
    (λ (s : SlabState). Readies c.args.need c.args.back s (Ok tt)
    (state_of (c.self.inside.pages_left - c.pages_wanted-wanted.result)
    (set c.self.inside.stocks.items c.index.result (record c.index_mut-stock.result.now { pages = c.index_mut-stock.result.now.pages + c.pages_wanted-wanted.result })))) c.self.view_is
    (readies_pages _ _ c.args.need _ _ at is c.args.back _ wanted c.if-wanted-self.false))
