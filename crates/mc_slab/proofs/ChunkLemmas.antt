-- Chunks that are had together.
use Rattle.std.proofs.Common.{◌≡◌, ℕ, ◌+◌, ◌*◌, ◌<◌, ◌≤◌, inl, inr, List, ◌++◌, length, take, drop, refl, sym, ap, subst, ◌∙◌, ◌⊎◌, arith}
use Rattle.std.proofs.lemmas.Bool.{cases_lt}
use Rattle.std.proofs.lemmas.List.{length-append, length-drop, length-take-le, take_all}
use Rattle.mc_slab.specs.Classes.{size_of}
use Rattle.mc_slab.specs.Needs.{NeedState, IsNeed}
use Rattle.mc_slab.specs.Chunks.{ChunksState, AreChunks, AreChunksOf, IsHead, chunk_at, need_in, with_part, written_cut}
use Rattle.mc_slab.proofs.ClassLemmas.{size_of-last}

-- a head beside chunks
beside : (chunks : ChunksState) → 27 ≤ chunks.class → length chunks.head ≡ 304 → IsHead chunks
beside chunks lent is = record {
  same = λ below. absurd (omega arith);
  beside = λ _. is;
}

-- so many pages
pub pages_are : (count : ℕ) (bytes head : List ℕ) → 1 ≤ count → count ≤ 8 → length bytes ≡ count * 1048576 → length head ≡ 304
    → AreChunks (record { class = 40; count = count; bytes = bytes; head = head })
pages_are count bytes head some most size is_head = record {
  is_need = record {
    is_class = (omega arith, omega arith);
    some = some;
    most = most;
    pages = inr refl;
  };
  size = rw size_of-last size;
  is_head = beside (record { class = 40; count = count; bytes = bytes; head = head }) (omega arith) is_head;
}

-- one chunk below a page
pub lone_is : (class : ℕ) (bytes head : List ℕ) → 1 ≤ class → class < 40 → length bytes ≡ size_of class → IsHead (record { class = class; count = 1; bytes = bytes; head = head })
    → AreChunks (record { class = class; count = 1; bytes = bytes; head = head })
lone_is class bytes head first below size is_head = record {
  is_need = record {
    is_class = (first, omega arith);
    some = omega arith;
    most = omega arith;
    pages = inl refl;
  };
  size = omega arith;
  is_head = is_head;
}

-- one page
pub page_is : (count : ℕ) (bytes head : List ℕ) → count ≡ 1 → length bytes ≡ 1048576 → length head ≡ 304 → AreChunks (record { class = 40; count = count; bytes = bytes; head = head })
page_is count bytes head one size is_head = pages_are count bytes head (omega arith) (omega arith) (omega arith) is_head

-- chunks serve the need that they are as many and of the class of
pub chunks_of : (chunks : ChunksState) (class count : ℕ) → chunks.class ≡ class → chunks.count ≡ count → AreChunks chunks → AreChunksOf (record { class = class; count = count }) chunks
chunks_of chunks class count class_is count_is are = record {
  need_is = ap (λ (k : ℕ). record { class = k; count = chunks.count }) class_is ∙ ap (λ (n : ℕ). record { class = class; count = n }) count_is;
  are = are;
}

-- several chunks are pages
pub several_are : (need : NeedState) → IsNeed need → 2 ≤ need.count → need.class ≡ 40
several_are need is several = elim is.pages [
  | inl one ↦ absurd (omega arith)
  | inr last ↦ last
]

-- one page in front of others
pub in_front_are : (one behind : ChunksState) → AreChunksOf (record { class = 40; count = 1 }) one → AreChunks behind → behind.class ≡ 40 → behind.count < 8
    → AreChunks (record { class = 40; count = 1 + behind.count; bytes = one.bytes ++ behind.bytes; head = one.head })
in_front_are one behind single are last few =
    let class : one.class ≡ 40 = ap (λ (n : NeedState). n.class) single.need_is in
    let count : one.count ≡ 1 = ap (λ (n : NeedState). n.count) single.need_is in
    let first : length one.bytes ≡ 1 * 1048576 = single.are.size ∙ ap (λ (k : ℕ). one.count * size_of k) class ∙ ap (λ (n : ℕ). one.count * n) size_of-last ∙ ap (λ (n : ℕ). n * 1048576) count in
    let rest : length behind.bytes ≡ behind.count * 1048576 = are.size ∙ ap (λ (k : ℕ). behind.count * size_of k) last ∙ ap (λ (n : ℕ). behind.count * n) size_of-last in
    let sum = length-append one.bytes behind.bytes in
    pages_are (1 + behind.count) (one.bytes ++ behind.bytes) one.head (omega arith) (omega arith) (omega arith) (single.are.is_head.beside (omega arith))

-- what is taken off others is a page, and they are pages
pub behind_are : (count : ℕ) (chunks : ChunksState) (bytes head : List ℕ) → AreChunks chunks → chunks.class ≡ 40 → 2 ≤ chunks.count → 1 + count ≡ chunks.count
    → 1048576 + length bytes ≡ length chunks.bytes → length head ≡ 304 → AreChunks (record { class = 40; count = count; bytes = bytes; head = head })
behind_are count chunks bytes head are last several fewer size is_head =
    let most : chunks.count ≤ 8 = are.is_need.most in
    let all : length chunks.bytes ≡ chunks.count * 1048576 = are.size ∙ ap (λ (k : ℕ). chunks.count * size_of k) last ∙ ap (λ (n : ℕ). chunks.count * n) size_of-last in
    pages_are count bytes head (omega arith) (omega arith) (omega arith) is_head

-- the bytes of a page behind the first
pub part_is : (chunks : ChunksState) (at : ℕ) → chunks.class ≡ 40 → take 1048576 (drop (at * 1048576) chunks.bytes) ≡ chunk_at chunks at
part_is chunks at last =
    let size : 1048576 ≡ size_of chunks.class = sym (ap (λ (k : ℕ). size_of k) last ∙ size_of-last) in
    ap (λ (n : ℕ). take n (drop (at * n) chunks.bytes)) size

-- the bytes of a lone chunk at its only place
pub lone_at : (chunks : ChunksState) (at : ℕ) → AreChunks chunks → chunks.class < 40 → at < chunks.count → (length chunks.bytes ≡ size_of chunks.class) × (chunks.bytes ≡ chunk_at chunks at)
lone_at chunks at are below inside =
    let one : chunks.count ≡ 1 = elim are.is_need.pages [
      | inl one ↦ one
      | inr last ↦ absurd (omega arith)
    ] in
    let none : at * size_of chunks.class ≡ 0 = ap (λ (n : ℕ). n * size_of chunks.class) (let n : at ≡ 0 = omega arith in n) ∙ omega arith in
    let size : length chunks.bytes ≡ size_of chunks.class = are.size ∙ ap (λ (n : ℕ). n * size_of chunks.class) one ∙ omega arith in
    (size, sym (ap (λ (n : ℕ). take (size_of chunks.class) (drop n chunks.bytes)) none ∙ take_all (size_of chunks.class) chunks.bytes (omega arith)))

-- a chunk of the last class is a page
pub single_is : (one : ChunksState) → AreChunksOf (record { class = 40; count = 1 }) one → (one.count ≡ 1) × (length one.bytes ≡ 1048576)
single_is one single =
    let class : one.class ≡ 40 = ap (λ (n : NeedState). n.class) single.need_is in
    let count : one.count ≡ 1 = ap (λ (n : NeedState). n.count) single.need_is in
    let size : length one.bytes ≡ 1 * 1048576 = single.are.size ∙ ap (λ (k : ℕ). one.count * size_of k) class ∙ ap (λ (n : ℕ). one.count * n) size_of-last ∙ ap (λ (n : ℕ). n * 1048576) count in
    (count, size)

-- the bytes of the first
pub part_first : (chunks : ChunksState) (at : ℕ) → at ≡ 0 → take (size_of chunks.class) chunks.bytes ≡ chunk_at chunks at
part_first chunks at is =
    let none : at * size_of chunks.class ≡ 0 = rw is (omega arith) in
    ap (λ (n : ℕ). take (size_of chunks.class) (drop n chunks.bytes)) (sym none)

-- bytes in which a part was written are as many
pub length-with_part : (at : ℕ) (part old : List ℕ) → at + length part ≤ length old → length (with_part old at part) ≡ length old
length-with_part at part old within =
    let front : length (take at old) ≡ at = length-take-le at old (omega arith) in
    simp (length-append, length-drop) (omega arith)

-- chunks in which a part was written
pub written_are : (old new : ChunksState) (at : ℕ) (part : List ℕ) → AreChunks old → at + length part ≤ length old.bytes
    → (old.class < 27 → new ≡ written_cut old at part) → (27 ≤ old.class → new ≡ record old { bytes = with_part old.bytes at part }) → AreChunks new
written_are old new at part are within cut lent = go (cases_lt old.class 27)
  where
    size : length (with_part old.bytes at part) ≡ length old.bytes
    size = length-with_part at part old.bytes within

    go : (old.class < 27) ⊎ (27 ≤ old.class) → AreChunks new
    go (inl below) = subst AreChunks (sym (cut below)) (record {
      is_need = are.is_need;
      size = size ∙ are.size;
      is_head = record { same = λ _. refl; beside = λ above. absurd (omega arith) };
    })
    go (inr above) = subst AreChunks (sym (lent above)) (record {
      is_need = are.is_need;
      size = size ∙ are.size;
      is_head = record { same = λ below. absurd (omega arith); beside = are.is_head.beside };
    })

-- chunks in whose head a part was written
pub headed_are : (old new : ChunksState) (at : ℕ) (part : List ℕ) → AreChunks old → at + length part ≤ length old.head
    → (old.class < 27 → new ≡ written_cut old at part) → (27 ≤ old.class → new ≡ record old { head = with_part old.head at part }) → AreChunks new
headed_are old new at part are within cut lent = go (cases_lt old.class 27)
  where
    go : (old.class < 27) ⊎ (27 ≤ old.class) → AreChunks new
    go (inl below) =
        let long : length old.head ≡ length old.bytes = ap (λ (l : List ℕ). length l) (are.is_head.same below) in
        subst AreChunks (sym (cut below)) (record {
          is_need = are.is_need;
          size = length-with_part at part old.bytes (omega arith) ∙ are.size;
          is_head = record { same = λ _. refl; beside = λ above. absurd (omega arith) };
        })
    go (inr above) = subst AreChunks (sym (lent above)) (record {
      is_need = are.is_need;
      size = are.size;
      is_head = record { same = λ below. absurd (omega arith); beside = λ _. length-with_part at part old.head within ∙ are.is_head.beside above };
    })
