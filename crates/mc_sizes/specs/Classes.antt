-- The classes of chunks: what size their chunks have, how many a page gives, and which one holds a charge. Classes are
-- numbered from 1, sizes and charges are in bytes.
use Rattle.std.specs.Prelude.{ℕ, zero, suc, ◌+◌, ◌-◌, ◌*◌, ◌/◌, ◌<◌, ◌≤◌, List, [], ◌∷◌, ◌++◌, Option, Some, None, nat_le, slice_index, if◌then◌else◌}
use Rattle.std.specs.List.{take_while, position_or_len}
use Rattle.mc_sizes.specs.declared.class.TheConstants.{PAGE_SIZE}

-- how many bytes a page has
abbrev pub page_size : ℕ
page_size = PAGE_SIZE

-- the size that comes after a size: five quarters of it, rounded up to a multiple of 8
abbrev pub next_size : ℕ → ℕ
next_size size = (size * 5 / 4 + 7) / 8 * 8

-- a number of sizes, each the next of the one before
abbrev pub sizes_from : ℕ → ℕ → List ℕ
sizes_from zero size = []
sizes_from (suc count) size = size ∷ sizes_from count (next_size size)

-- the chunk sizes, class 1 first: from 96 on while they are at most half a page (which the sixtieth is not), and then a
-- whole page
unfoldable pub chunk_sizes : List ℕ
chunk_sizes = take_while (λ size. nat_le size (page_size / 2)) (sizes_from 60 96) ++ page_size ∷ []

-- the number of a class
abbrev pub IsClass : ℕ → Type 0
IsClass class = (1 ≤ class) × (class ≤ 40)

-- how many bytes a chunk of the class has
abbrev pub size_of : ℕ → ℕ
size_of class = slice_index chunk_sizes (class - 1)

-- how many chunks of the class a page gives
abbrev pub chunks_a_page : ℕ → ℕ
chunks_a_page class = page_size / size_of class

-- the smallest class whose chunks hold the charge, if one does; 41 if none does
abbrev pub class_holding : ℕ → ℕ
class_holding charge = position_or_len (λ size. nat_le charge size) chunk_sizes + 1

-- the smallest class whose chunks hold the charge
abbrev pub class_of : ℕ → Option ℕ
class_of charge = if nat_le charge page_size then Some (class_holding charge) else None

-- where a charge parts the sizes: `smaller` sizes are below it, and the others hold it
pub record PartsAt (charge smaller : ℕ) : Type 0 where
  pub within : smaller ≤ 40
  pub before : (k : ℕ) → k < smaller → slice_index chunk_sizes k < charge
  pub behind : (k : ℕ) → smaller ≤ k → k < 40 → charge ≤ slice_index chunk_sizes k
