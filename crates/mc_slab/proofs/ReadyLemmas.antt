-- How a class is made ready for a need, by its stock.
use Rattle.std.proofs.Common.{◌≡◌, ℕ, ◌+◌, ◌-◌, ◌*◌, ◌<◌, ◌≤◌, inl, inr, true, false, Result, Ok, Err, List, set, refl, sym, ap, subst, ◌∙◌, arith}
use Rattle.mc_slab.specs.Chunks.{ChunksState, AreChunksOf}
use Rattle.std.proofs.Math.Nat.{mul-le-mul_right}
use Rattle.mc_slab.specs.Classes.{chunks_a_page}
use Rattle.mc_slab.specs.Needs.{NeedState, IsNeed}
use Rattle.mc_slab.specs.PagesByClass.{StockState, all_chunks}
use Rattle.mc_slab.specs.Slabs.{SlabState, AreStocks, IsSlab, Readies, Takes, has_room_with, made_ready, state_of, pages_of, pages_left, pages_wanted, with_pages, with_out, out_of, chunks_of}
use Rattle.mc_slab.specs.declared.slab.TakeFault.{TakeFault}
use Rattle.mc_slab.specs.declared.slab.TakeFault.TheVariants.{Full, NoMemory}
use Rattle.mc_slab.proofs.RoomLemmas.{room_when, full_when, ready_chunks}
use Rattle.mc_slab.proofs.SlabLemmas.{StockAt, AreStocks-set, IsSlab-state_of, wanted_at, left_at, within_at, pages_at, out_at, chunks_at, set-same, state_of-out, state_of-pages}

module _ (left : ℕ) (stocks : List StockState) (need : NeedState) (index : ℕ) (stock : StockState) (at : StockAt left stocks need.class index stock)
    (is : IsNeed need) (back wanted : ℕ) (wanted_is : wanted ≡ need.count - (all_chunks stock - stock.out + back)) where
  -- the pages that are wanted, by the stock
  wanted_same : pages_wanted (state_of left stocks) need back ≡ wanted
  wanted_same = wanted_at left stocks need.class index stock at need.count back ∙ sym wanted_is

  is_slab : IsSlab (state_of left stocks)
  is_slab = IsSlab-state_of left stocks at.stocks_are

  -- with so many pages more, the stocks are a slab's
  pub are_ready : wanted ≤ left → AreStocks (left - wanted) (set stocks index (record stock { pages = stock.pages + wanted }))
  are_ready some =
      let within = within_at left stocks need.class index stock at in
      let more : stock.pages * chunks_a_page stock.class ≤ (stock.pages + wanted) * chunks_a_page stock.class = mul-le-mul_right (chunks_a_page stock.class) (omega arith) in
      AreStocks-set left stocks need.class index stock at (left - wanted) (record stock { pages = stock.pages + wanted }) refl (omega arith) (omega arith)

  ready_is : wanted ≤ left → state_of (left - wanted) (set stocks index (record stock { pages = stock.pages + wanted })) ≡ made_ready (state_of left stocks) need back
  ready_is some = state_of-pages left stocks need.class index stock at wanted some ∙ ap (λ (n : ℕ). with_pages (state_of left stocks) need.class n) (sym wanted_same)

  has_room : wanted ≤ left → has_room_with (state_of left stocks) need back ≡ true
  has_room some = room_when (state_of left stocks) need back is (rw (wanted_same, left_at left stocks need.class index stock at) some)

  -- it got the pages
  pub readies_pages : wanted ≤ left → Readies need back (state_of left stocks) (Ok tt) (state_of (left - wanted) (set stocks index (record stock { pages = stock.pages + wanted })))
  readies_pages some = record {
    ready = ready_is some;
    room = has_room some;
    full = λ class pages out. ((λ e. cc), (λ f. let yes = has_room some in let no = f.0 in let e : true ≡ false = sym yes ∙ no in cc));
    no_memory = λ e. cc;
    faults = tt;
    err = tt;
    is_slab = IsSlab-state_of _ _ (are_ready some);
  }

  -- it wants none
  pub readies_free : wanted ≡ 0 → Readies need back (state_of left stocks) (Ok tt) (state_of left (set stocks index stock))
  readies_free none =
      let pages : record stock { pages = stock.pages + wanted } ≡ stock = ap (λ (n : ℕ). record stock { pages = n }) (omega arith) in
      let less : left - wanted ≡ left = omega arith in
      subst (λ (s : StockState). Readies need back (state_of left stocks) (Ok tt) (state_of left (set stocks index s))) pages
      (subst (λ (n : ℕ). Readies need back (state_of left stocks) (Ok tt) (state_of n (set stocks index (record stock { pages = stock.pages + wanted })))) less (readies_pages (omega arith)))

  -- too few are left
  pub readies_full : (class pages out : ℕ) → class ≡ need.class → pages ≡ stock.pages → out ≡ stock.out → left < wanted
      → Readies need back (state_of left stocks) (Err (Full class pages out)) (state_of left (set stocks index stock))
  readies_full class pages out class_is pages_is out_is few =
      let no : has_room_with (state_of left stocks) need back ≡ false = full_when (state_of left stocks) need back is (rw (wanted_same, left_at left stocks need.class index stock at) few) in
      let p : pages ≡ pages_of (state_of left stocks) need.class = pages_is ∙ sym (pages_at left stocks need.class index stock at) in
      let o : out ≡ out_of (state_of left stocks) need.class = out_is ∙ sym (out_at left stocks need.class index stock at) in
      record {
        ready = tt;
        room = tt;
        full = λ k n m. ((λ e. (no, cc, cc, cc)), (λ f. cc));
        no_memory = λ e. cc;
        faults = inr cc;
        err = ap (λ (l : List StockState). state_of left l) (set-same left stocks need.class index stock at);
        is_slab = tt;
      }

  -- memory for them was refused
  pub readies_refused : 0 < wanted → wanted ≤ left → Readies need back (state_of left stocks) (Err NoMemory) (state_of left (set stocks index stock))
  readies_refused some enough =
      let room = has_room enough in
      record {
        ready = tt;
        room = tt;
        full = λ k n m. ((λ e. cc), (λ f. let no = f.0 in let e : true ≡ false = sym room ∙ no in cc));
        no_memory = λ e. (room, rw wanted_same some);
        faults = inl refl;
        err = ap (λ (l : List StockState). state_of left l) (set-same left stocks need.class index stock at);
        is_slab = tt;
      }

module _ (old : SlabState) (left : ℕ) (stocks : List StockState) (need : NeedState) (index : ℕ) (stock : StockState)
    (at : StockAt left stocks need.class index stock) (is : IsNeed need) (is_slab : IsSlab old) (ready : state_of left stocks ≡ made_ready old need 0) where
  -- in a class that was made ready, so many chunks are unused
  pub enough_at : stock.out + need.count ≤ all_chunks stock
  enough_at =
      let chunks = ready_chunks old need 0 is_slab is in
      let more : out_of (made_ready old need 0) need.class + need.count ≤ chunks_of (made_ready old need 0) need.class = omega arith in
      let now : out_of (state_of left stocks) need.class + need.count ≤ chunks_of (state_of left stocks) need.class =
      subst (λ (s : SlabState). out_of s need.class + need.count ≤ chunks_of s need.class) (sym ready) more in
      rw (out_at left stocks need.class index stock at, chunks_at left stocks need.class index stock at) at now

  -- and when they were taken, the stocks are a slab's
  pub are_taken : AreStocks left (set stocks index (record stock { out = stock.out + need.count }))
  are_taken = AreStocks-set left stocks need.class index stock at left (record stock { out = stock.out + need.count }) refl enough_at refl

  pub takes : (chunks : ChunksState) → AreChunksOf need chunks → has_room_with old need 0 ≡ true
      → Takes need old (Ok chunks) (state_of left (set stocks index (record stock { out = stock.out + need.count })))
  takes chunks are room = record {
    chunks = are;
    taken = state_of-out left stocks need.class index stock at (stock.out + need.count)
        ∙ ap (λ (n : ℕ). with_out (state_of left stocks) need.class (n + need.count)) (sym (out_at left stocks need.class index stock at))
        ∙ ap (λ (s : SlabState). with_out s need.class (out_of s need.class + need.count)) ready;
    full = λ class pages out. ((λ e. cc), (λ f. let no = f.0 in let e : true ≡ false = sym room ∙ no in cc));
    no_memory = λ e. cc;
    faults = tt;
    err = tt;
    is_slab = IsSlab-state_of _ _ are_taken;
  }

-- where a class can't be made ready, the chunks aren't taken
pub takes_refused : (need : NeedState) (old new : SlabState) (fault : TakeFault) → Readies need 0 old (Err fault) new → Takes need old (Err fault) new
takes_refused need old new fault refused = record {
  chunks = tt;
  taken = tt;
  full = λ class pages out. (
    (λ e. let same : fault ≡ Full class pages out = cc in (refused.full class pages out).0 (ap Err same)),
    (λ f. let told = (refused.full class pages out).1 f in let same : fault ≡ Full class pages out = cc in ap Err same),
  );
  no_memory = λ e. let same : fault ≡ NoMemory = cc in refused.no_memory (ap Err same);
  faults = refused.faults;
  err = refused.err;
  is_slab = tt;
}
