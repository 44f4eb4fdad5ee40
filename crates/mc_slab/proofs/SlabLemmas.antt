-- A slab's stocks, and what a change of one of them changes in what contracts see.
use Rattle.std.proofs.Common.{◌≡◌, ℕ, ◌+◌, ◌-◌, ◌*◌, ◌<◌, ◌≤◌, true, false, eqb, List, map, length, get_or, set, sum, refl, sym, ap, subst, ◌∙◌, arith}
use Rattle.std.proofs.Math.Seq.{map-set_same}
use Rattle.std.proofs.lemmas.Bool.{eq-eqb, ne_eqb}
use Rattle.std.proofs.lemmas.List.{get_or-map, length-map, map-set, set-get_or, get_or-set_same}
use Rattle.std.proofs.lemmas.List.Elements.{All-set}
use Rattle.std.proofs.lemmas.List.FromFn.{length-range_with_len, get_or-range_with_len, get_or-map-range_with_len}
use Rattle.std.proofs.lemmas.List.Sums.{sum_by-set}
use Rattle.std.specs.List.{range_with_len}
use Rattle.mc_slab.specs.Classes.{IsClass, chunks_a_page}
use Rattle.mc_slab.specs.PagesByClass.{StockState, all_chunks}
use Rattle.mc_slab.specs.Slabs.{IsSlab, AreStocks, empty_stock, state_of, pages_of, out_of, chunks_of, pages_left, pages_wanted, with_pages, with_out}

-- the stock of a class stands at the index
pub record StockAt (left : ℕ) (stocks : List StockState) (class index : ℕ) (stock : StockState) : Type 0 where
  pub stocks_are : AreStocks left stocks
  pub is_class : IsClass class
  pub place : index ≡ class - 1
  pub there : stock ≡ get_or stocks index stock

pub stock_at : (left : ℕ) (stocks : List StockState) (class index : ℕ) (stock : StockState)
    → AreStocks left stocks → IsClass class → index ≡ class - 1 → stock ≡ get_or stocks index stock
    → StockAt left stocks class index stock
stock_at left stocks class index stock are is_class place there = record {
  stocks_are = are;
  is_class = is_class;
  place = place;
  there = there;
}

-- there are 40 stocks
length-stocks : (left : ℕ) (stocks : List StockState) → AreStocks left stocks → length stocks ≡ 40
length-stocks left stocks are = sym (length-map stocks (λ (s : StockState). s.class)) ∙ ap length are.classes ∙ length-range_with_len 1 40

-- a class's place is among them
below : (left : ℕ) (stocks : List StockState) (class : ℕ) → AreStocks left stocks → IsClass class → class - 1 < length stocks
below left stocks class are is = rw (length-stocks left stocks are) (omega arith)

-- what stands there is of the class
class_in : (left : ℕ) (stocks : List StockState) (class : ℕ) (d : StockState) → AreStocks left stocks → IsClass class → (get_or stocks (class - 1) d).class ≡ class
class_in left stocks class d are is =
    let numbers : get_or (range_with_len 1 40) (class - 1) 0 ≡ 1 + (class - 1) = get_or-range_with_len 1 40 (class - 1) 0 (omega arith) in
    sym (get_or-map (λ (s : StockState). s.class) stocks (class - 1) d 0 (below left stocks class are is))
    ∙ ap (λ (l : List ℕ). get_or l (class - 1) 0) are.classes
    ∙ numbers
    ∙ omega arith

pages_in : (left : ℕ) (stocks : List StockState) (class : ℕ) (d : StockState) → AreStocks left stocks → IsClass class → pages_of (state_of left stocks) class ≡ (get_or stocks (class - 1) d).pages
pages_in left stocks class d are is = get_or-map (λ (s : StockState). s.pages) stocks (class - 1) d 0 (below left stocks class are is)

out_in : (left : ℕ) (stocks : List StockState) (class : ℕ) (d : StockState) → AreStocks left stocks → IsClass class → out_of (state_of left stocks) class ≡ (get_or stocks (class - 1) d).out
out_in left stocks class d are is = get_or-map (λ (s : StockState). s.out) stocks (class - 1) d 0 (below left stocks class are is)

chunks_in : (left : ℕ) (stocks : List StockState) (class : ℕ) (d : StockState) → AreStocks left stocks → IsClass class
    → chunks_of (state_of left stocks) class ≡ all_chunks (get_or stocks (class - 1) d)
chunks_in left stocks class d are is =
    let pages = pages_in left stocks class d are is in
    let same = class_in left stocks class d are is in
    ap (λ (n : ℕ). n * chunks_a_page class) pages ∙ ap (λ (k : ℕ). (get_or stocks (class - 1) d).pages * chunks_a_page k) (sym same)

-- the stocks are a slab's
pub IsSlab-state_of : (left : ℕ) (stocks : List StockState) → AreStocks left stocks → IsSlab (state_of left stocks)
IsSlab-state_of left stocks are = record {
  pages = length-map stocks (λ (s : StockState). s.pages) ∙ length-stocks left stocks are;
  out = length-map stocks (λ (s : StockState). s.out) ∙ length-stocks left stocks are;
  within = λ class is.
      let none : StockState = record { class = class; pages = 0; out = 0 } in
      rw (out_in left stocks class none are is, chunks_in left stocks class none are is) (are.within (class - 1) none (below left stocks class are is));
  limit = omega arith;
  most = are.most;
}

-- the stocks of a slab of which nothing was taken
pub AreStocks-empty : (pages : ℕ) → pages ≤ 65536 → AreStocks pages (map empty_stock (range_with_len 1 40))
AreStocks-empty pages most = record {
  classes = refl;
  within = λ k d below. subst (λ (s : StockState). s.out ≤ all_chunks s) (sym (get_or-map-range_with_len empty_stock 1 40 k (1 + k) d below refl)) (omega arith);
  most = omega arith;
}

module _ (left : ℕ) (stocks : List StockState) (class index : ℕ) (stock : StockState) (at : StockAt left stocks class index stock) where
  -- the stock by its class's place
  here : get_or stocks (class - 1) stock ≡ stock
  here = ap (λ (i : ℕ). get_or stocks i stock) (sym at.place) ∙ sym at.there

  inside : index < length stocks
  inside = subst (λ (i : ℕ). i < length stocks) (sym at.place) (below left stocks class at.stocks_are at.is_class)

  pub class_at : stock.class ≡ class
  class_at = ap (λ (s : StockState). s.class) (sym here) ∙ class_in left stocks class stock at.stocks_are at.is_class

  pub pages_at : pages_of (state_of left stocks) class ≡ stock.pages
  pages_at = pages_in left stocks class stock at.stocks_are at.is_class ∙ ap (λ (s : StockState). s.pages) here

  pub out_at : out_of (state_of left stocks) class ≡ stock.out
  out_at = out_in left stocks class stock at.stocks_are at.is_class ∙ ap (λ (s : StockState). s.out) here

  pub chunks_at : chunks_of (state_of left stocks) class ≡ all_chunks stock
  chunks_at = chunks_in left stocks class stock at.stocks_are at.is_class ∙ ap all_chunks here

  pub within_at : stock.out ≤ all_chunks stock
  within_at = subst (λ (s : StockState). s.out ≤ all_chunks s) (sym at.there) (at.stocks_are.within index stock inside)

  -- the pages, and so the limit, where another stock stands there
  pages-set : (new : StockState) → sum (map (λ (s : StockState). s.pages) (set stocks index new)) + stock.pages ≡ sum (map (λ (s : StockState). s.pages) stocks) + new.pages
  pages-set new =
      let pages : List ℕ = map (λ (s : StockState). s.pages) stocks in
      let there : get_or pages index 0 ≡ stock.pages = get_or-map (λ (s : StockState). s.pages) stocks index stock 0 inside ∙ ap (λ (s : StockState). s.pages) (sym at.there) in
      let long : index < length pages = rw length-map inside in
      let more : sum (set pages index new.pages) + get_or pages index 0 ≡ sum pages + new.pages = sum_by-set (λ (n : ℕ). n) pages index new.pages 0 long in
      rw (map-set, ← there) more

  -- while so many pages are left, the class may have as many more
  pub few_at : (n : ℕ) → n ≤ left → stock.pages + n ≤ 65536
  few_at n some =
      let sums = pages-set (record stock { pages = 0 }) in
      let most : left + sum (map (λ (s : StockState). s.pages) stocks) ≤ 65536 = at.stocks_are.most in
      omega arith

  -- the stocks are still a slab's where another stock stands there
  pub AreStocks-set : (later : ℕ) (new : StockState) → new.class ≡ stock.class → new.out ≤ all_chunks new → later + new.pages ≡ left + stock.pages → AreStocks later (set stocks index new)
  AreStocks-set later new same within pages =
      let sums = pages-set new in
      let most : left + sum (map (λ (s : StockState). s.pages) stocks) ≤ 65536 = at.stocks_are.most in
      record {
        classes = map-set_same (λ (s : StockState). s.class) stocks index new stock (same ∙ ap (λ (s : StockState). s.class) at.there) ∙ at.stocks_are.classes;
        within = All-set (λ (s : StockState). s.out ≤ all_chunks s) stocks index new within at.stocks_are.within;
        most = omega arith;
      }

  -- the same stock changes nothing
  pub set-same : set stocks index stock ≡ stocks
  set-same = ap (λ (s : StockState). set stocks index s) at.there ∙ set-get_or stocks index stock

  -- another count of chunks out
  pub state_of-out : (out : ℕ) → state_of left (set stocks index (record stock { out = out })) ≡ with_out (state_of left stocks) class out
  state_of-out out =
      let pages : map (λ (s : StockState). s.pages) (set stocks index (record stock { out = out })) ≡ map (λ (s : StockState). s.pages) stocks =
      map-set_same (λ (s : StockState). s.pages) stocks index (record stock { out = out }) stock (ap (λ (s : StockState). s.pages) at.there) in
      let outs : map (λ (s : StockState). s.out) (set stocks index (record stock { out = out })) ≡ set (map (λ (s : StockState). s.out) stocks) (class - 1) out =
      map-set (λ (s : StockState). s.out) stocks index (record stock { out = out }) ∙ ap (λ (i : ℕ). set (map (λ (s : StockState). s.out) stocks) i out) at.place in
      cc

  -- so many pages more, of those that were left
  pub state_of-pages : (n : ℕ) → n ≤ left → state_of (left - n) (set stocks index (record stock { pages = stock.pages + n })) ≡ with_pages (state_of left stocks) class n
  state_of-pages n some =
      let new : StockState = record stock { pages = stock.pages + n } in
      let sums : sum (map (λ (s : StockState). s.pages) (set stocks index new)) + stock.pages ≡ sum (map (λ (s : StockState). s.pages) stocks) + (stock.pages + n) = pages-set new in
      let limit : left - n + sum (map (λ (s : StockState). s.pages) (set stocks index new)) ≡ left + sum (map (λ (s : StockState). s.pages) stocks) = omega arith in
      let pages : map (λ (s : StockState). s.pages) (set stocks index new) ≡ set (map (λ (s : StockState). s.pages) stocks) (class - 1) (pages_of (state_of left stocks) class + n) =
      map-set (λ (s : StockState). s.pages) stocks index new ∙ ap (λ (i : ℕ). set (map (λ (s : StockState). s.pages) stocks) i (stock.pages + n)) at.place
      ∙ ap (λ (m : ℕ). set (map (λ (s : StockState). s.pages) stocks) (class - 1) (m + n)) (sym pages_at) in
      let outs : map (λ (s : StockState). s.out) (set stocks index new) ≡ map (λ (s : StockState). s.out) stocks =
      map-set_same (λ (s : StockState). s.out) stocks index new stock (ap (λ (s : StockState). s.out) at.there) in
      cc

  -- what the class's stock says of the pages that a need wants
  pub wanted_at : (count back : ℕ) → pages_wanted (state_of left stocks) (record { class = class; count = count }) back ≡ count - (all_chunks stock - stock.out + back)
  wanted_at count back = rw (chunks_at, out_at) refl

  pub left_at : pages_left (state_of left stocks) ≡ left
  left_at = omega arith
