-- Bytes that lie in memory from a place on: what is lent of them, written to them, and taken over.
use Rattle.std.proofs.Common.{◌≡◌, ℕ, zero, suc, ◌+◌, ◌-◌, ◌≤◌, List, [], ◌∷◌, ◌++◌, length, take, drop, refl, sym, ap, ◌∙◌, arith}
use Rattle.std.proofs.lemmas.List.{length-append, length-drop, length-take-le, take_all, take-take, drop-drop, drop-take, drop-append-le}
use Rattle.std.proofs.Math.Seq.{take-append-add}
use Rattle.mc_slab.specs.Chunks.{with_part}

-- what is left of a front, once more was left out than it has or not
pub drop-take-sub : (n m : ℕ) (xs : List ℕ) → drop n (take m xs) ≡ take (m - n) (drop n xs)
drop-take-sub zero m xs = let same : m ≡ m - 0 = omega arith in ap (λ (k : ℕ). take k xs) same
drop-take-sub (suc n) zero xs = let none : 0 ≡ 0 - suc n = omega arith in ap (λ (k : ℕ). take k (drop (suc n) xs)) none
drop-take-sub (suc n) (suc m) [] = sym (take_all (suc m - suc n) [] (omega arith))
drop-take-sub (suc n) (suc m) (x ∷ xs) =
    let same : m - n ≡ suc m - suc n = omega arith in
    drop-take-sub n m xs ∙ ap (λ (k : ℕ). take k (drop n xs)) same

-- so many bytes from a place on show a part that was written behind that place
pub block-written : (start many at : ℕ) (part bytes : List ℕ) → at + length part ≤ many → start + many ≤ length bytes
    → take many (drop start (with_part bytes (start + at) part)) ≡ with_part (take many (drop start bytes)) at part
block-written start many at part bytes within room =
    let front : length (take (start + at) bytes) ≡ start + at = length-take-le (start + at) bytes (omega arith) in
    let xs : List ℕ = drop start bytes in
    let rest : List ℕ = drop (start + at + length part) bytes in
    let from : drop start (take (start + at) bytes) ≡ take at xs = drop-take start at bytes in
    let far : start ≤ length (take (start + at) bytes ++ part) = rw (length-append (take (start + at) bytes) part) (omega arith) in
    let cut : drop start (with_part bytes (start + at) part) ≡ take at xs ++ part ++ rest =
    drop-append-le start (take (start + at) bytes ++ part) rest far
    ∙ ap (λ (l : List ℕ). l ++ rest) (drop-append-le start (take (start + at) bytes) part (omega arith) ∙ ap (λ (l : List ℕ). l ++ part) from) in
    let size : length (take at xs) ≡ at = length-take-le at xs (simp length-drop (omega arith)) in
    let written : length (take at xs ++ part) ≡ at + length part = length-append (take at xs) part ∙ omega arith in
    let whole : length (take at xs ++ part) + (many - (at + length part)) ≡ many = omega arith in
    let taken : take many (take at xs ++ part ++ rest) ≡ take at xs ++ part ++ take (many - (at + length part)) rest =
    sym (ap (λ (n : ℕ). take n (take at xs ++ part ++ rest)) whole) ∙ take-append-add (take at xs ++ part) rest (many - (at + length part)) in
    let short : take at (take many xs) ≡ take at xs = take-take at many xs (omega arith) in
    let behind : drop (at + length part) (take many xs) ≡ take (many - (at + length part)) rest =
    drop-take-sub (at + length part) many xs
    ∙ ap (take (many - (at + length part))) (drop-drop (at + length part) start bytes ∙ ap (λ (n : ℕ). drop n bytes) (omega arith)) in
    ap (take many) cut ∙ taken ∙ sym (rw (short, behind) refl)

-- there are so many
pub length-within : (place size : ℕ) (bytes : List ℕ) → place + size ≤ length bytes → length (take size (drop place bytes)) ≡ size
length-within place size bytes within = length-take-le size (drop place bytes) (simp length-drop (omega arith))

-- and what is lent of them lies behind the place
pub lent-within : (place size from to : ℕ) (bytes now : List ℕ) → place + size ≤ length bytes → take size (drop place bytes) ≡ now → from ≤ to → to ≤ length now
    → take (place + to - (place + from)) (drop (place + from) bytes) ≡ take (to - from) (drop from now)
lent-within place size from to bytes now room is order within =
    let many : place + to - (place + from) ≡ to - from = omega arith in
    let long : length now ≡ size = ap length (sym is) ∙ length-within place size bytes room in
    ap (λ (n : ℕ). take n (drop (place + from) bytes)) many
    ∙ sym
    (ap (λ (l : List ℕ). take (to - from) (drop from l)) (sym is)
    ∙ ap (take (to - from)) (drop-take-sub from size (drop place bytes))
    ∙ take-take (to - from) (size - from) (drop from (drop place bytes)) (omega arith)
    ∙ ap (take (to - from)) (drop-drop from place bytes))

-- they show a part that was written to the memory
pub written-within : (place size at : ℕ) (part bytes now new : List ℕ) → place + size ≤ length bytes → now ≡ take size (drop place bytes) → at + length part ≤ length now
    → new ≡ with_part bytes (place + at) part → take size (drop place new) ≡ with_part now at part
written-within place size at part bytes now new room is within written =
    let long : length now ≡ size = ap length is ∙ length-within place size bytes room in
    ap (λ (l : List ℕ). take size (drop place l)) written
    ∙ block-written place size at part bytes (omega arith) room
    ∙ ap (λ (l : List ℕ). with_part l at part) (sym is)

-- as many bytes of other memory begin with a part that begins there
pub begins-within : (from size place : ℕ) (old now part bytes : List ℕ) → from + size ≤ length old → now ≡ take size (drop from old) → length part ≤ length now
    → part ≡ take (length part) (drop place bytes) → take (length part) (take size (drop place bytes)) ≡ part
begins-within from size place old now part bytes room is within begins =
    let long : length now ≡ size = ap length is ∙ length-within from size old room in
    take-take (length part) size (drop place bytes) (omega arith) ∙ sym begins
