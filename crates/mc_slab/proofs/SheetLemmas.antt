-- Chunks of a page that lie one after another: where a part is, and what writing one changes.
use Rattle.std.proofs.Common.{◌≡◌, ℕ, ◌+◌, ◌-◌, ◌*◌, ◌≤◌, List, [], ◌++◌, length, take, drop, Option, IfSome, sym, ap, subst, ◌∙◌, append_assoc, length-append, arith}
use Rattle.std.proofs.lemmas.List.{take-append-le, drop-append-le, append-nil, take_all, take_at}
use Rattle.std.proofs.Math.Seq.{take-append-add, drop-append-add, drop-length}
use Rattle.mc_slab.specs.Chunks.{with_part}

-- the chunk is first
pub first_here : (c r : List ℕ) → length c ≡ 1048576 → c ≡ take 1048576 (c ++ r)
first_here c r whole = sym (take_at c r 1048576 whole)

pub first_alone : (c : List ℕ) → length c ≡ 1048576 → c ≡ take 1048576 c
first_alone c whole = sym (take_all 1048576 c (omega arith))

-- what is lent of bytes is lent of the same bytes
pub lent_of : (lent : Option (List ℕ)) (from to : ℕ) (a b : List ℕ) → a ≡ b → IfSome lent (λ l. l ≡ take (to - from) (drop from a)) → IfSome lent (λ l. l ≡ take (to - from) (drop from b))
lent_of lent from to a b same is = subst (λ (bytes : List ℕ). IfSome lent (λ l. l ≡ take (to - from) (drop from bytes))) same is

-- what lies behind the first lies there one place less far
pub place_behind : (c r : List ℕ) (at k : ℕ) → length c ≡ 1048576 → at ≡ k + 1 → drop (at * 1048576) (c ++ r) ≡ drop (k * 1048576) r
place_behind c r at k whole next =
    let place : at * 1048576 ≡ length c + k * 1048576 = omega arith in
    ap (λ n. drop n (c ++ r)) place ∙ drop-append-add c r (k * 1048576)

-- a part lies behind the first
pub put_behind : (c r part : List ℕ) (k at : ℕ) → at ≡ length c + k → c ++ with_part r k part ≡ with_part (c ++ r) at part
put_behind c r part k at is =
    let front : take at (c ++ r) ≡ c ++ take k r = ap (λ n. take n (c ++ r)) is ∙ take-append-add c r k in
    let behind : drop (at + length part) (c ++ r) ≡ drop (k + length part) r = ap (λ n. drop n (c ++ r)) (omega arith) ∙ drop-append-add c r (k + length part) in
    let d : List ℕ = drop (k + length part) r in
    rw (front, behind) (sym (append_assoc c (take k r ++ part) d) ∙ ap (λ l. l ++ d) (sym (append_assoc c (take k r) part)))

-- it lies in the first
pub put_here : (c r part : List ℕ) (at : ℕ) → at + length part ≤ length c → with_part c at part ++ r ≡ with_part (c ++ r) at part
put_here c r part at within =
    let front : take at (c ++ r) ≡ take at c = take-append-le at c r (omega arith) in
    let behind : drop (at + length part) (c ++ r) ≡ drop (at + length part) c ++ r = drop-append-le (at + length part) c r within in
    rw (front, behind) (append_assoc (take at c ++ part) (drop (at + length part) c) r)

-- its front fills the first, and the rest lies behind
pub put_across : (c r front behind : List ℕ) (at : ℕ) → at + length front ≡ length c → with_part c at front ++ with_part r 0 behind ≡ with_part (c ++ r) at (front ++ behind)
put_across c r front behind at fills =
    let head : take at (c ++ r) ≡ take at c = take-append-le at c r (omega arith) in
    let none : drop (at + length front) c ≡ [] = ap (λ n. drop n c) fills ∙ drop-length c in
    let long : at + length (front ++ behind) ≡ length c + length behind = let sum = length-append front behind in omega arith in
    let tail : drop (at + length (front ++ behind)) (c ++ r) ≡ drop (length behind) r = ap (λ n. drop n (c ++ r)) long ∙ drop-append-add c r (length behind) in
    let d : List ℕ = drop (length behind) r in
    let one : take at c ++ front ++ drop (at + length front) c ≡ take at c ++ front = ap (λ l. take at c ++ front ++ l) none ∙ append-nil (take at c ++ front) in
    let zero : drop (0 + length behind) r ≡ d = ap (λ n. drop n r) (omega arith) in
    rw (head, tail, zero) (ap (λ l. l ++ (behind ++ d)) one ∙ sym (append_assoc (take at c ++ front) behind d) ∙ ap (λ l. l ++ d) (append_assoc (take at c) front behind))
