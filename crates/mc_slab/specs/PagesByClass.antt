-- The stock of one class: its pages, its chunks that are out, and the free ones.
use Rattle.std.specs.Prelude.{◌≡◌, ℕ, ◌+◌, ◌*◌, ◌^◌, ◌<◌, ◌≤◌, List, length, refl}
use Rattle.std.specs.List.{All}
use Rattle.std.specs.Coded.{Coded, code_by, coded×, coded_ℕ}
use Rattle.mc_slab.specs.Classes.{IsClass, chunks_a_page}
use Rattle.mc_slab.specs.Chunks.{ChunksState, AreChunksOf}
use Rattle.mc_slab.specs.Runs.{UncutState}

-- what contracts see of a stock: its class, its pages, and its chunks that are out
pub record StockState : Type 0 where
  pub class : ℕ
  pub pages : ℕ
  pub out : ℕ

-- how a proof stores it
abbrev pub coded_stock : Coded StockState
coded_stock =
    code_by (ℕ × (ℕ × ℕ)) (coded× coded_ℕ (coded× coded_ℕ coded_ℕ)) (λ s. (s.class, (s.pages, s.out)))
    (λ p. record { class = p.0; pages = p.1.0; out = p.1.1 })
    (λ _. refl)

-- how many chunks its pages have
abbrev pub all_chunks : StockState → ℕ
all_chunks stock = stock.pages * chunks_a_page stock.class

-- one chunk of the class
abbrev pub IsChunkOf : ℕ → ChunksState → Type 0
IsChunkOf class chunk = AreChunksOf (record { class = class; count = 1 }) chunk

-- A stock with these free chunks, in a list with room for `room`, and with uncut memory: its chunks out, free and uncut add
-- up to the chunks of its pages, all are of the class, and the list of free chunks has room for all.
pub record IsStock (stock : StockState) (free : List ChunksState) (room : ℕ) (uncut : UncutState) : Type 0 where
  pub is_class : IsClass stock.class
  pub pages : stock.pages ≤ 65536
  pub account : stock.out + length free + uncut.count ≡ all_chunks stock
  pub chunks : All (IsChunkOf stock.class) free
  pub uncut_class : uncut.class ≡ stock.class
  pub enough : all_chunks stock ≤ room
  pub fits : all_chunks stock < 2 ^ 32
