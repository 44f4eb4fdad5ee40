-- A part of memory whose front is left out.
use Rattle.std.proofs.Common.{◌≡◌, ℕ, ◌+◌, ◌-◌, ◌≤◌, List, length, take, drop, sym, ap, ◌∙◌, length-drop, arith}
use Rattle.std.proofs.lemmas.List.{drop-take, drop-drop, length-take-le, take-take}

-- the rest of a part lies so much further behind
further : (xs : List ℕ) (from to count : ℕ) → count ≤ to - from → take (to - (from + count)) (drop (from + count) xs) ≡ drop count (take (to - from) (drop from xs))
further xs from to count within =
    let rest : ℕ = to - (from + count) in
    let all : count + rest ≡ to - from = omega (arith, within) in
    let place : drop (from + count) xs ≡ drop count (drop from xs) = sym (drop-drop count from xs) in
    ap (λ l. take rest l) place ∙ sym (drop-take count rest (drop from xs)) ∙ ap (λ n. drop count (take n (drop from xs))) all

pub front_left_out : (xs part : List ℕ) (from to count : ℕ) → take (to - from) (drop from xs) ≡ part → from ≤ to → to ≤ length xs → count ≤ length part
    → take (to - (from + count)) (drop (from + count) xs) ≡ drop count part
front_left_out xs part from to count is order inside within =
    let behind : length (drop from xs) ≡ length xs - from = length-drop from xs in
    let long : length part ≡ to - from = ap length (sym is) ∙ length-take-le (to - from) (drop from xs) (omega (arith, behind, inside, order)) in
    further xs from to count (omega (arith, long, within)) ∙ ap (λ l. drop count l) is

-- a part of a part lies so much further behind, and ends so much earlier
part_of_part : (xs : List ℕ) (from to start end : ℕ) → start ≤ end → end ≤ length (take (to - from) (drop from xs)) → from ≤ to → to ≤ length xs
    → take (from + end - (from + start)) (drop (from + start) xs) ≡ take (end - start) (drop start (take (to - from) (drop from xs)))
part_of_part xs from to start end order within inside long =
    let behind : length (drop from xs) ≡ length xs - from = length-drop from xs in
    let has : length (take (to - from) (drop from xs)) ≡ to - from = length-take-le (to - from) (drop from xs) (omega (arith, behind, long, inside)) in
    let count : from + end - (from + start) ≡ end - start = omega (arith, order) in
    let place : drop (from + start) xs ≡ drop start (drop from xs) = sym (drop-drop start from xs) in
    let all : start + (to - from - start) ≡ to - from = omega (arith, order, within, has) in
    let cut : drop start (take (to - from) (drop from xs)) ≡ take (to - from - start) (drop start (drop from xs)) =
    ap (λ n. drop start (take n (drop from xs))) (sym all) ∙ drop-take start (to - from - start) (drop from xs) in
    ap (λ n. take n (drop (from + start) xs)) count ∙ ap (λ l. take (end - start) l) place
    ∙ sym (take-take (end - start) (to - from - start) (drop start (drop from xs)) (omega (arith, order, within, has)))
    ∙ ap (λ l. take (end - start) l) (sym cut)

-- the same for a part that is known as a list
pub part_within : (xs part : List ℕ) (from to start end : ℕ) → take (to - from) (drop from xs) ≡ part → start ≤ end → end ≤ length part → from ≤ to → to ≤ length xs
    → take (from + end - (from + start)) (drop (from + start) xs) ≡ take (end - start) (drop start part)
part_within xs part from to start end is order within inside long =
    part_of_part xs from to start end order (omega (arith, ap length is, within)) inside long ∙ ap (λ l. take (end - start) (drop start l)) is
