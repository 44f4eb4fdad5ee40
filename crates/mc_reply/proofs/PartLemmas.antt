-- Parts that are joined one after another.
use Rattle.std.proofs.Common.{◌≡◌, ℕ, zero, suc, ◌+◌, ◌<◌, ◌≤◌, List, [], ◌∷◌, ◌++◌, length, take, get_or, refl, sym, ap, ◌∙◌, append_assoc, length-append, arith}
use Rattle.std.specs.List.{concat}
use Rattle.std.proofs.lemmas.List.{append-nil}

concat-next : (parts : List (List ℕ)) (at : ℕ) (part : List ℕ) → at < length parts → part ≡ get_or parts at part
    → concat (take (suc at) parts) ≡ concat (take at parts) ++ part
concat-next [] at part below is = absurd (omega arith)
concat-next (x ∷ parts) zero part below is = append-nil x ∙ sym is
concat-next (x ∷ parts) (suc at) part below is =
    ap (λ (l : List ℕ). x ++ l) (concat-next parts at part (omega arith) is) ∙ sym (append_assoc x (concat (take at parts)) part)

-- one part more
pub concat-more : (parts : List (List ℕ)) (at : ℕ) (part : List ℕ) → at < length parts → part ≡ get_or parts at part
    → concat (take (at + 1) parts) ≡ concat (take at parts) ++ part
concat-more parts at part below is =
    let next : at + 1 ≡ suc at = omega arith in ap (λ (n : ℕ). concat (take n parts)) next ∙ concat-next parts at part below is

-- what was joined, and one part more, is no longer than all of them
pub concat-within : (parts : List (List ℕ)) (at : ℕ) (part : List ℕ) → at < length parts → part ≡ get_or parts at part
    → length (concat (take at parts)) + length part ≤ length (concat parts)
concat-within [] at part below is = absurd (omega arith)
concat-within (x ∷ parts) zero part below is =
    let all : length (x ++ concat parts) ≡ length x + length (concat parts) = length-append x (concat parts) in
    let size : length part ≡ length x = ap length is in
    let none : length (concat (take 0 (x ∷ parts))) ≡ 0 = refl in
    omega arith
concat-within (x ∷ parts) (suc at) part below is =
    let rest = concat-within parts at part (omega arith) is in
    let all : length (x ++ concat parts) ≡ length x + length (concat parts) = length-append x (concat parts) in
    let some : length (x ++ concat (take at parts)) ≡ length x + length (concat (take at parts)) = length-append x (concat (take at parts)) in
    omega arith
