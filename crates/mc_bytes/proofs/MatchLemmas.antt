-- Bytes that begin with parts.
use Rattle.std.proofs.Common.{◌≡◌, ◌↔◌, ℕ, ◌+◌, ◌<◌, ◌≤◌, List, [], ◌++◌, length, take, drop, min, slice_index_or, sym, ap, ◌∙◌, length-append, arith}
use Rattle.std.specs.List.{concat}
use Rattle.std.proofs.Math.Seq.{take-append_seam}
use Rattle.std.proofs.Math.ListN.{drop_of_length-le}
use Rattle.std.proofs.lemmas.List.{append_cancel_left, drop_more}

-- behind a front that is the same, the rest is the same exactly where all is
pub same_behind : (front rest left bytes : List ℕ) → bytes ≡ front ++ left → (front ++ rest ≡ bytes) ↔ (rest ≡ left)
same_behind front rest left bytes is =
    (λ all. append_cancel_left front rest left (all ∙ is), λ same. ap (λ l. front ++ l) same ∙ sym is)

-- what is left of parts begins with the next
next_part : (parts : List (List ℕ)) (at : ℕ) (part : List ℕ) → at < length parts → part ≡ slice_index_or parts at part
    → concat (drop at parts) ≡ part ++ concat (drop (at + 1) parts)
next_part parts at part below is =
    ap concat (drop_more parts at part below) ∙ ap (λ (l : List ℕ). l ++ concat (drop (at + 1) parts)) (sym is)

-- a part that bytes begin with leaves what comes behind it
pub further_part : (all bytes : List ℕ) (parts : List (List ℕ)) (at : ℕ) (part left further : List ℕ) → at < length parts → part ≡ slice_index_or parts at part
    → left ≡ part ++ further → (all ≡ bytes) ↔ (concat (drop at parts) ≡ left) → (all ≡ bytes) ↔ (concat (drop (at + 1) parts) ≡ further)
further_part all bytes parts at part left further below is begins same =
    let next = next_part parts at part below is in
    let behind = same_behind part (concat (drop (at + 1) parts)) further left begins in
    (λ a. behind.0 (sym next ∙ same.0 a), λ b. same.1 (next ∙ behind.1 b))

-- bytes that don't begin with the next part are others
pub other_part : (all bytes : List ℕ) (parts : List (List ℕ)) (at : ℕ) (part left : List ℕ) → at < length parts → part ≡ slice_index_or parts at part
    → ((rest : List ℕ) → left ≡ part ++ rest → ⊥) → (all ≡ bytes) ↔ (concat (drop at parts) ≡ left) → all ≡ bytes → ⊥
other_part all bytes parts at part left below is unlike same a =
    unlike (concat (drop (at + 1) parts)) (sym (same.0 a) ∙ next_part parts at part below is)

-- bytes whose first are others don't begin with a front
pub not_begun : (front begin bytes rest : List ℕ) → begin ≡ take (min (length front) (length bytes)) bytes → (begin ≡ front → ⊥) → bytes ≡ front ++ rest → ⊥
not_begun front begin bytes rest is unlike begins =
    let size : length bytes ≡ length front + length rest = ap length begins ∙ length-append front rest in
    let least : min (length front) (length bytes) ≡ length front = omega (arith, size) in
    unlike (is ∙ ap (λ n. take n bytes) least ∙ ap (λ l. take (length front) l) begins ∙ take-append_seam front rest)

-- behind all parts nothing may be left
pub all_matched : (all bytes : List ℕ) (parts : List (List ℕ)) (at : ℕ) (left : List ℕ) → length parts ≤ at
    → (all ≡ bytes) ↔ (concat (drop at parts) ≡ left) → (all ≡ bytes) ↔ (left ≡ [])
all_matched all bytes parts at left beyond same =
    let none : concat (drop at parts) ≡ [] = ap concat (drop_of_length-le parts beyond) in
    (λ a. sym (same.0 a) ∙ none, λ e. same.1 (none ∙ sym e))
