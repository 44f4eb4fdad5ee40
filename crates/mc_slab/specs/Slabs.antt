-- What contracts see of a slab, and what taking and giving a chunk change in it.
use Rattle.std.specs.Prelude.{◌≡◌, ◌↔◌, ◌⊎◌, Result, Err, IfOk, IfErr, OnOk, OnErr, ℕ, ◌+◌, ◌-◌, ◌*◌, ◌≤◌, ◌<◌, ◌==◌, Bool, true, false, nat_le, List, map, length, replicate, sum, slice_index, slice_set, refl, if◌then◌else◌}
use Rattle.std.specs.Coded.{Coded, code_by, coded×, coded_ℕ, coded_list}
use Rattle.std.specs.List.{All, range_with_len}
use Rattle.mc_slab.specs.Classes.{IsClass, chunks_a_page}
use Rattle.mc_slab.specs.Needs.{NeedState, IsNeed}
use Rattle.mc_slab.specs.Chunks.{ChunksState, AreChunksOf}
use Rattle.mc_slab.specs.PagesByClass.{StockState, all_chunks}
use Rattle.mc_slab.specs.declared.slab.TakeFault.{TakeFault}
use Rattle.mc_slab.specs.declared.slab.TakeFault.TheVariants.{Full, NoMemory}

-- how many pages the classes may have together, and of each class, class 1 first, its pages and its chunks that are out
pub record SlabState : Type 0 where
  pub limit : ℕ
  pub pages : List ℕ
  pub out : List ℕ

-- how a proof stores it
abbrev pub coded_slab : Coded SlabState
coded_slab =
    code_by (ℕ × (List ℕ × List ℕ))
    (coded× coded_ℕ (coded× (coded_list coded_ℕ) (coded_list coded_ℕ)))
    (λ s. (s.limit, (s.pages, s.out)))
    (λ p. record { limit = p.0; pages = p.1.0; out = p.1.1 })
    (λ _. refl)

-- a slab that nothing was taken from
abbrev pub untouched : ℕ → SlabState
untouched limit = record { limit = limit; pages = replicate 40 0; out = replicate 40 0 }

-- how many pages a class has
abbrev pub pages_of : SlabState → ℕ → ℕ
pages_of slab class = slice_index slab.pages (class - 1)

-- how many of a class's chunks are out
abbrev pub out_of : SlabState → ℕ → ℕ
out_of slab class = slice_index slab.out (class - 1)

-- how many chunks a class's pages have, out and free ones
abbrev pub chunks_of : SlabState → ℕ → ℕ
chunks_of slab class = pages_of slab class * chunks_a_page class

-- how many pages no class has yet
abbrev pub pages_left : SlabState → ℕ
pages_left slab = slab.limit - sum slab.pages

-- how many of its pages' chunks aren't out
abbrev pub unused : SlabState → ℕ → ℕ
unused slab class = chunks_of slab class - out_of slab class

-- the chunks of a need can be had once a number of its class came back: they are unused, or can be cut from the pages left
abbrev pub has_room_with : SlabState → NeedState → ℕ → Bool
has_room_with slab need back =
    nat_le need.count (unused slab need.class + back + pages_left slab * chunks_a_page need.class)

-- the chunks of a need can be had
abbrev pub has_room : SlabState → NeedState → Bool
has_room slab need = has_room_with slab need 0

-- how many pages its class wants for a need, once a number of chunks came back; a page gives one
-- chunk if several are needed
abbrev pub pages_wanted : SlabState → NeedState → ℕ → ℕ
pages_wanted slab need back = need.count - (unused slab need.class + back)

-- the class has this number of pages more
abbrev pub with_pages : SlabState → ℕ → ℕ → SlabState
with_pages slab class count =
    record slab { pages = slice_set slab.pages (class - 1) (pages_of slab class + count) }

-- the pages that a need wants went to its class
abbrev pub made_ready : SlabState → NeedState → ℕ → SlabState
made_ready slab need back = with_pages slab need.class (pages_wanted slab need back)

-- the class has this number of chunks out
abbrev pub with_out : SlabState → ℕ → ℕ → SlabState
with_out slab class out = record slab { out = slice_set slab.out (class - 1) out }

-- after the chunks of a need were taken
abbrev pub taken : SlabState → NeedState → SlabState
taken slab need =
    let ready = made_ready slab need 0 in
    with_out ready need.class (out_of ready need.class + need.count)

-- after a number of chunks of the class were given back
abbrev pub given : SlabState → ℕ → ℕ → SlabState
given slab class count = with_out slab class (out_of slab class - count)

-- What is true of every slab: it has an account of each class, no class has more chunks out than its pages have, and the
-- pages are at most the limit.
pub record IsSlab (slab : SlabState) : Type 0 where
  pub pages : length slab.pages ≡ 40
  pub out : length slab.out ≡ 40
  pub within : (class : ℕ) → IsClass class → out_of slab class ≤ chunks_of slab class
  pub limit : sum slab.pages ≤ slab.limit
  pub most : slab.limit ≤ 65536

-- the chunks of a need can't be had, once a number of its class came back
abbrev pub IsFull : SlabState → NeedState → ℕ → Type 0
IsFull slab need back = has_room_with slab need back ≡ false

-- they can be had, and its class wants pages for them
abbrev pub WantsPages : SlabState → NeedState → ℕ → Type 0
WantsPages slab need back =
    (has_room_with slab need back ≡ true) × (0 < pages_wanted slab need back)

-- the fields of the error for missing chunks: the class's pages, and its chunks that are out
abbrev pub TellsFull : SlabState → NeedState → (back class pages out : ℕ) → Type 0
TellsFull slab need back class pages out =
    IsFull slab need back × (class ≡ need.class) × (pages ≡ pages_of slab need.class)
    × (out ≡ out_of slab need.class)

-- the error with these fields
abbrev pub full_fault : SlabState → NeedState → TakeFault
full_fault slab need = Full need.class (pages_of slab need.class) (out_of slab need.class)

-- Taking the chunks of a need. Either all of them are taken, and are out; or the error is that
-- there is no room, exactly if there is none, or that memory was refused, which is used only for
-- pages. After an error the slab is unchanged.
pub record Takes (need : NeedState) (old : SlabState) (result : Result ChunksState TakeFault)
    (new : SlabState) : Type 0 where
  pub chunks : IfOk result (AreChunksOf need)
  pub taken : OnOk result (new ≡ taken old need)
  pub full : (class pages out : ℕ) → (result ≡ Err (Full class pages out))
      ↔ TellsFull old need 0 class pages out
  pub no_memory : result ≡ Err NoMemory → WantsPages old need 0
  pub faults : IfErr result (λ fault. (fault ≡ NoMemory) ⊎ (fault ≡ full_fault old need))
  pub err : OnErr result (new ≡ old)
  pub is_slab : OnOk result (IsSlab new)

-- Making a class ready for a need, once `back` of its chunks were given back. It gets the pages
-- that it then wants, all or none; the errors are those of taking the chunks.
pub record Readies (need : NeedState) (back : ℕ) (old : SlabState) (result : Result Unit TakeFault)
    (new : SlabState) : Type 0 where
  pub ready : OnOk result (new ≡ made_ready old need back)
  pub room : OnOk result (has_room_with old need back ≡ true)
  pub full : (class pages out : ℕ) → (result ≡ Err (Full class pages out))
      ↔ TellsFull old need back class pages out
  pub no_memory : result ≡ Err NoMemory → WantsPages old need back
  pub faults : IfErr result (λ fault. (fault ≡ NoMemory) ⊎ (fault ≡ full_fault old need))
  pub err : OnErr result (new ≡ old)
  pub is_slab : OnOk result (IsSlab new)

-- the stock of a class that has no page
abbrev pub empty_stock : ℕ → StockState
empty_stock class = record { class = class; pages = 0; out = 0 }

-- the state that the stocks show, with the pages left
abbrev pub state_of : ℕ → List StockState → SlabState
state_of left stocks =
    let pages = map (λ stock. stock.pages) stocks in
    record { limit = left + sum pages; pages = pages; out = map (λ stock. stock.out) stocks }

-- stocks that are those of a slab: one of each class, in order
pub record AreStocks (left : ℕ) (stocks : List StockState) : Type 0 where
  pub classes : map (λ stock. stock.class) stocks ≡ range_with_len 1 40
  pub within : All (λ stock. stock.out ≤ all_chunks stock) stocks
  pub most : left + sum (map (λ stock. stock.pages) stocks) ≤ 65536
