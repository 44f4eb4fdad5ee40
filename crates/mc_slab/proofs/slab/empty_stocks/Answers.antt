use Rattle.std.proofs.Common.{◌≡◌, ◌+◌, List, [], ◌∷◌, ◌++◌, map, length, sym, ap, ◌∙◌, arith}
use Rattle.std.proofs.lemmas.List.FromFn.{length-map-range_with_len, map-range_with_len_more}
use Rattle.std.specs.List.{range_with_len}
use Rattle.mc_slab.specs.PagesByClass.{StockState}
use Rattle.mc_slab.specs.Slabs.{empty_stock}
use Rattle.mc_slab.proofs.slab.empty_stocks.Goals as goal

pub push_reserved-requires : goal.push_reserved-requires
push_reserved-requires c =
    let many : length c.loop-index.stocks.items ≡ c.loop-index.index = ap length c.loop-index.invariant.stocks ∙ length-map-range_with_len empty_stock 1 c.loop-index.index in
    omega arith

pub loop-index-preserved : goal.loop-index-preserved
loop-index-preserved c =
    let made : c.new.result ≡ empty_stock (c.loop-index.index + 1) = c.new.ensures ∙ ap empty_stock c.of.ensures in
    record {
      stocks = c.push_reserved.ensures.items
          ∙ ap (λ (l : List StockState). l ++ c.new.result ∷ []) c.loop-index.invariant.stocks
          ∙ ap (λ (s : StockState). map empty_stock (range_with_len 1 c.loop-index.index) ++ s ∷ []) made
          ∙ sym (map-range_with_len_more empty_stock 1 c.loop-index.index (c.loop-index.index + 1) (omega arith));
      capacity = c.push_reserved.ensures.capacity ∙ c.loop-index.invariant.capacity;
    }
