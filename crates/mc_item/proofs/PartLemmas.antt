-- A block that is cut where its chunks end: its parts, and what a write into it leaves.
use Rattle.std.proofs.Common.{◌≡◌, ℕ, zero, suc, ◌+◌, ◌-◌, ◌*◌, ◌<◌, ◌≤◌, List, [], ◌∷◌, ◌++◌, length, take, drop, Some, refl, sym, ap, ◌∙◌, append_assoc, min, None, arith}
use Rattle.std.specs.Prelude.{slice_get}
use Rattle.std.specs.List.{concat}
use Rattle.std.proofs.lemmas.List.{append-nil, length-append, length-drop, length-take-le, take_all, take_at, take-take, drop_at, drop-drop}
use Rattle.std.proofs.lemmas.List.{take-append-le, take-append-drop, nil_from_length}
use Rattle.std.proofs.Math.Nat.{suc-mul}
use Rattle.mc_slab.specs.Chunks.{with_part}
use Rattle.mc_slab.proofs.BlockLemmas.{drop-take-sub}
use Rattle.mc_item.specs.Items.{pieces}

-- a front of a front
take-take-min : (n m : ℕ) (xs : List ℕ) → take n (take m xs) ≡ take (min n m) xs
take-take-min zero m xs = let none : 0 ≡ min 0 m = omega arith in ap (λ (k : ℕ). take k xs) none
take-take-min (suc n) zero xs = let none : 0 ≡ min (suc n) 0 = omega arith in ap (λ (k : ℕ). take k xs) none
take-take-min (suc n) (suc m) [] = sym (take_all (min (suc n) (suc m)) [] (omega arith))
take-take-min (suc n) (suc m) (x ∷ xs) =
    let same : suc (min n m) ≡ min (suc n) (suc m) = omega arith in
    ap (λ (l : List ℕ). x ∷ l) (take-take-min n m xs) ∙ ap (λ (k : ℕ). take k (x ∷ xs)) same

-- pieces of bytes that they have room for join to them
concat-pieces : (size count : ℕ) (bytes : List ℕ) → length bytes ≤ count * size → concat (pieces size count bytes) ≡ bytes
concat-pieces size zero bytes within = sym (nil_from_length bytes (omega arith))
concat-pieces size (suc count) bytes within =
    let apart : suc count * size ≡ count * size + size = suc-mul count size in
    ap (λ (l : List ℕ). take size bytes ++ l) (concat-pieces size count (drop size bytes) (simp length-drop (omega arith)))
    ∙ take-append-drop size bytes

-- so do a front and pieces behind it
pub concat-cut : (front size count : ℕ) (block : List ℕ) → length block ≤ front + count * size → concat (take front block ∷ pieces size count (drop front block)) ≡ block
concat-cut front size count block within =
    ap (λ (l : List ℕ). take front block ++ l) (concat-pieces size count (drop front block) (simp length-drop (omega arith)))
    ∙ take-append-drop front block

-- there are so many
pub length-pieces : (size count : ℕ) (bytes : List ℕ) → length (pieces size count bytes) ≡ count
length-pieces size zero bytes = refl
length-pieces size (suc count) bytes = ap suc (length-pieces size count (drop size bytes))

-- and each begins where so many of them end
pub slice_get-pieces : (size count : ℕ) (bytes : List ℕ) (at : ℕ) → at < count → slice_get (pieces size count bytes) at ≡ Some (take size (drop (at * size) bytes))
slice_get-pieces size zero bytes at below = absurd (omega arith)
slice_get-pieces size (suc count) bytes zero below =
    let place : 0 * size ≡ 0 = omega arith in
    ap (λ (n : ℕ). Some (take size (drop n bytes))) (sym place)
slice_get-pieces size (suc count) bytes (suc at) below =
    let place : size + at * size ≡ suc at * size = omega arith ∙ sym (suc-mul at size) in
    slice_get-pieces size count (drop size bytes) at (omega arith)
    ∙ ap (λ (l : List ℕ). Some (take size l)) (drop-drop (at * size) size bytes ∙ ap (λ (n : ℕ). drop n bytes) place)

-- what lies in the chunk at a place of a block that begins with the first chunk
pub part_within : (many size at : ℕ) (bytes : List ℕ) → take (min (many - at * size) size) (take size (drop (at * size) bytes)) ≡ take size (drop (at * size) (take many bytes))
part_within many size at bytes =
    let place : ℕ = at * size in
    let short : min (many - place) size ≤ size = omega arith in
    let same : min (many - place) size ≡ min size (many - place) = omega arith in
    take-take _ _ (drop place bytes) short
    ∙ ap (λ (n : ℕ). take n (drop place bytes)) same
    ∙ sym (take-take-min size (many - place) (drop place bytes))
    ∙ ap (take size) (sym (drop-take-sub place many bytes))

-- one part more, of those that were joined
concat-next : (parts : List (List ℕ)) (at : ℕ) (part : List ℕ) → slice_get parts at ≡ Some part → concat (take (suc at) parts) ≡ concat (take at parts) ++ part
concat-next [] at part is = let no : None ≡ Some part = is in cc
concat-next (x ∷ parts) zero part is =
    let same : Some x ≡ Some part = is in
    let which : x ≡ part = cc in
    append-nil x ∙ which
concat-next (x ∷ parts) (suc at) part is =
    ap (λ (l : List ℕ). x ++ l) (concat-next parts at part is) ∙ sym (append_assoc x (concat (take at parts)) part)

pub concat-more : (parts : List (List ℕ)) (at : ℕ) (part : List ℕ) → slice_get parts at ≡ Some part → concat (take (at + 1) parts) ≡ concat (take at parts) ++ part
concat-more parts at part is = let next : at + 1 ≡ suc at = omega arith in ap (λ (n : ℕ). concat (take n parts)) next ∙ concat-next parts at part is

-- what was joined, and one part more, is no longer than all of them
pub concat-within : (parts : List (List ℕ)) (at : ℕ) (part : List ℕ) → slice_get parts at ≡ Some part → length (concat (take at parts)) + length part ≤ length (concat parts)
concat-within [] at part is = let no : None ≡ Some part = is in cc
concat-within (x ∷ parts) zero part is =
    let same : Some x ≡ Some part = is in
    let which : x ≡ part = cc in
    let all : length (x ++ concat parts) ≡ length x + length (concat parts) = length-append x (concat parts) in
    let size : length x ≡ length part = ap length which in
    let none : length (concat (take 0 (x ∷ parts))) ≡ 0 = refl in
    omega arith
concat-within (x ∷ parts) (suc at) part is =
    let rest = concat-within parts at part is in
    let all : length (x ++ concat parts) ≡ length x + length (concat parts) = length-append x (concat parts) in
    let some : length (x ++ concat (take at parts)) ≡ length x + length (concat (take at parts)) = length-append x (concat (take at parts)) in
    omega arith

-- a part that was written behind another is one part with it
pub with_part-behind : (bytes : List ℕ) (at : ℕ) (first second : List ℕ) → at + (length first + length second) ≤ length bytes
    → with_part (with_part bytes at first) (at + length first) second ≡ with_part bytes at (first ++ second)
with_part-behind bytes at first second within =
    let front : length (take at bytes) ≡ at = length-take-le at bytes (omega arith) in
    let written : length (take at bytes ++ first) ≡ at + length first = length-append (take at bytes) first ∙ omega arith in
    let before : take (at + length first) (with_part bytes at first) ≡ take at bytes ++ first = take_at (take at bytes ++ first) _ (at + length first) written in
    let behind : drop (at + length first) (with_part bytes at first) ≡ drop (at + length first) bytes = drop_at (take at bytes ++ first) _ (at + length first) written in
    let left : drop (at + length first + length second) (with_part bytes at first) ≡ drop (at + (length first + length second)) bytes =
    sym (drop-drop (length second) (at + length first) (with_part bytes at first))
    ∙ ap (drop (length second)) behind
    ∙ drop-drop (length second) (at + length first) bytes
    ∙ ap (λ (n : ℕ). drop n bytes) (omega arith) in
    rw (before, left, length-append first second) (simp append_assoc)

-- no part
pub with_part-none : (bytes : List ℕ) (at : ℕ) → with_part bytes at [] ≡ bytes
with_part-none bytes at =
    let same : at + 0 ≡ at = omega arith in
    rw (same, append-nil) (take-append-drop at bytes)

-- where a part is written behind a place, what is in front of it stays
pub take-written : (near at : ℕ) (part bytes : List ℕ) → near ≤ at → at + length part ≤ length bytes → take near (with_part bytes at part) ≡ take near bytes
take-written near at part bytes before within =
    let front : length (take at bytes) ≡ at = length-take-le at bytes (omega arith) in
    let far : near ≤ length (take at bytes ++ part) = rw (length-append (take at bytes) part) (omega arith) in
    take-append-le near (take at bytes ++ part) _ far
    ∙ take-append-le near (take at bytes) part (omega arith)
    ∙ take-take near at bytes before

-- bytes of which a front ends with a part, and the rest stayed
pub with_part-from : (at : ℕ) (part new old : List ℕ) → take (at + length part) new ≡ take at old ++ part → drop (at + length part) new ≡ drop (at + length part) old → new ≡ with_part old at part
with_part-from at part new old before behind =
    sym (take-append-drop (at + length part) new)
    ∙ ap (λ (l : List ℕ). l ++ drop (at + length part) new) before
    ∙ ap (λ (l : List ℕ). take at old ++ part ++ l) behind
