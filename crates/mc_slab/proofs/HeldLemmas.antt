-- The bytes of the first chunk, wherever it lies.
use Rattle.std.proofs.Common.{◌≡◌, ℕ, ◌*◌, ◌<◌, ◌≤◌, ◌⊎◌, inl, inr, List, length, take, sym, ap, ◌∙◌, arith}
use Rattle.std.proofs.lemmas.Bool.{cases_lt}
use Rattle.std.proofs.lemmas.List.{take_all, length-take-le}
use Rattle.std.proofs.Math.Nat.{mul-le-mul_right}
use Rattle.mc_slab.specs.Classes.{size_of}
use Rattle.mc_slab.specs.Chunks.{ChunksState, AreChunks, IsFirst}
use Rattle.mc_slab.proofs.ChunkLemmas.{lone_at}
use Rattle.mc_slab.proofs.ClassLemmas.{size_of-last}

-- a chunk of a class below the last has its class's size
pub lone_length : (chunks : ChunksState) → AreChunks chunks → chunks.class < 40 → length chunks.bytes ≡ size_of chunks.class
lone_length chunks are below = (lone_at chunks 0 are below are.is_need.some).0

-- the bytes of the first chunk are all of a lone one
pub first_lone : (chunks : ChunksState) (first : List ℕ) → AreChunks chunks → first ≡ take (size_of chunks.class) chunks.bytes → chunks.count ≡ 1 → first ≡ chunks.bytes
first_lone chunks first are is one =
    let size : length chunks.bytes ≡ chunks.count * size_of chunks.class = are.size in
    let single : chunks.count * size_of chunks.class ≡ size_of chunks.class = ap (λ (n : ℕ). n * size_of chunks.class) one ∙ omega arith in
    is ∙ take_all (size_of chunks.class) chunks.bytes (omega arith)

module _ (chunks : ChunksState) (first : List ℕ) (are : AreChunks chunks) (is : IsFirst chunks first) where
  -- the first chunk's bytes stand in front
  pub first_is : first ≡ take (size_of chunks.class) chunks.bytes
  first_is = go (cases_lt chunks.class 40)
    where
      go : (chunks.class < 40) ⊎ (40 ≤ chunks.class) → first ≡ take (size_of chunks.class) chunks.bytes
      go (inl below) =
          let size = lone_length chunks are below in
          is.alone below ∙ sym (take_all (size_of chunks.class) chunks.bytes (omega arith))
      go (inr above) =
          let most = are.is_need.is_class.1 in
          let last : chunks.class ≡ 40 = omega arith in
          is.page last ∙ ap (λ (n : ℕ). take n chunks.bytes) (sym (ap (λ (k : ℕ). size_of k) last ∙ size_of-last))

  -- they are as many as the class's size, so cutting them to that takes nothing off
  pub first_length : length first ≡ size_of chunks.class
  first_length =
      let one : 1 * size_of chunks.class ≤ chunks.count * size_of chunks.class = mul-le-mul_right (size_of chunks.class) are.is_need.some in
      let size : length chunks.bytes ≡ chunks.count * size_of chunks.class = are.size in
      ap (λ (l : List ℕ). length l) first_is ∙ length-take-le (size_of chunks.class) chunks.bytes (omega arith)
