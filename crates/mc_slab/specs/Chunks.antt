-- Chunks, which contracts see as their bytes, one chunk's after another's, and as their head.
use Rattle.std.specs.Prelude.{◌≡◌, ℕ, ◌+◌, ◌*◌, ◌<◌, ◌≤◌, List, ◌++◌, length, take, drop, refl}
use Rattle.std.specs.Coded.{Coded, code_by, coded×, coded_ℕ, coded_list}
use Rattle.mc_slab.specs.Classes.{page_size, size_of}
use Rattle.mc_slab.specs.Needs.{NeedState, IsNeed, size_in}
use Rattle.mc_sizes.specs.declared.block.TheConstants.{HEADER_SIZE, LARGEST_BLOCK}

-- chunks of one class: how many, their bytes one after another, and the bytes of their head
pub record ChunksState : Type 0 where
  pub class : ℕ
  pub count : ℕ
  pub bytes : List ℕ
  pub head : List ℕ

-- how a proof stores them
abbrev pub coded_chunks : Coded ChunksState
coded_chunks =
    code_by (ℕ × (ℕ × (List ℕ × List ℕ)))
    (coded× coded_ℕ (coded× coded_ℕ (coded× (coded_list coded_ℕ) (coded_list coded_ℕ))))
    (λ c. (c.class, (c.count, (c.bytes, c.head))))
    (λ p. record { class = p.0; count = p.1.0; bytes = p.1.1.0; head = p.1.1.1 })
    (λ _. refl)

-- one chunk of a class
abbrev pub one_chunk : (class : ℕ) → (bytes head : List ℕ) → ChunksState
one_chunk class bytes head = record { class = class; count = 1; bytes = bytes; head = head }

-- the need that they serve
abbrev pub need_in : ChunksState → NeedState
need_in chunks = record { class = chunks.class; count = chunks.count }

-- how many bytes of its chunks' head an item's header takes
abbrev pub header_size : ℕ
header_size = HEADER_SIZE

-- how many bytes the largest block of an item has
abbrev pub largest_block : ℕ
largest_block = LARGEST_BLOCK

-- The head of chunks: below class 27 their bytes, and from class 27 on 304 bytes beside them.
pub record IsHead (chunks : ChunksState) : Type 0 where
  pub same : chunks.class < 27 → chunks.head ≡ chunks.bytes
  pub beside : 27 ≤ chunks.class → length chunks.head ≡ 304

-- What is true of chunks that are held together: they serve a need, each has its class's size, and they have a head.
pub record AreChunks (chunks : ChunksState) : Type 0 where
  pub is_need : IsNeed (need_in chunks)
  pub size : length chunks.bytes ≡ size_in (need_in chunks)
  pub is_head : IsHead chunks

-- chunks that serve this need
pub record AreChunksOf (need : NeedState) (chunks : ChunksState) : Type 0 where
  pub need_is : need_in chunks ≡ need
  pub are : AreChunks chunks

-- The bytes of the first chunk: all bytes of a class below the last, and a page of those of the last.
pub record IsFirst (chunks : ChunksState) (first : List ℕ) : Type 0 where
  pub alone : chunks.class < 40 → first ≡ chunks.bytes
  pub page : chunks.class ≡ 40 → first ≡ take page_size chunks.bytes

-- the bytes of the chunk at a place, the first at 0
abbrev pub chunk_at : ChunksState → ℕ → List ℕ
chunk_at chunks at = take (size_of chunks.class) (drop (at * size_of chunks.class) chunks.bytes)

-- bytes in which a part was written at a place
abbrev pub with_part : List ℕ → (at : ℕ) → (part : List ℕ) → List ℕ
with_part bytes at part = take at bytes ++ part ++ drop (at + length part) bytes

-- a chunk whose head is its bytes, in which a part was written at a place
abbrev pub written_cut : ChunksState → (at : ℕ) → (part : List ℕ) → ChunksState
written_cut chunks at part =
    record chunks { bytes = with_part chunks.bytes at part; head = with_part chunks.bytes at part }

-- Chunks that took the memory of a part over: chunks of a class from 27 on, whose bytes now begin with the part's, and else
-- are of any content. They are as many as before, and everything else is as it was.
pub record TakesOver (old : ChunksState) (part : List ℕ) (new : ChunksState) : Type 0 where
  pub class : 27 ≤ old.class
  pub begins : take (length part) new.bytes ≡ part
  pub size : length new.bytes ≡ length old.bytes
  pub same : new ≡ record old { bytes = new.bytes }
