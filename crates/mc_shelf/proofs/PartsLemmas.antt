-- A block in parts, and which of them are blank.
use Rattle.mc_shelf.proofs.Common.{[], ◌&&◌, ◌+◌, ◌-◌, ◌<◌, ◌∙◌, ◌∷◌, ◌≡◌, ◌≤◌, ap, arith, Bool, charge, concat, drop, drop-nil, drop_more, Entry, false, get_or_from_slice_get}
use Rattle.mc_shelf.proofs.Common.{if◌then◌else◌, item_need, length, List, list_all, need_for, None, number_of, parts_of, pieces, refl, same_Some, size_of, size_of-last, slice_get_within}
use Rattle.mc_shelf.proofs.Common.{Some, subst, suc, sym, take, true, zero, ℕ}
use Rattle.std.proofs.Common.{slice_get, min}
use Rattle.std.proofs.lemmas.List.{length-take}
use Rattle.std.proofs.lemmas.List.Folds.{list_all-append}
use Rattle.mc_item.specs.Items.{front_of, start_of}
use Rattle.mc_item.proofs.LayoutLemmas.{start_of-above}
use Rattle.mc_shelf.specs.States.{stored}
use Rattle.mc_shelf.proofs.NeedLemmas.{by_charge}
use Rattle.mc_protocol.specs.Words.{is_space}
use Rattle.mc_protocol.proofs.NumberLemmas.{number_of-joined}

-- each part is nothing but spaces
abbrev pub are_blank : List (List ℕ) → Bool
are_blank parts = list_all (λ part. list_all is_space part) parts

pub blank_concat : (parts : List (List ℕ)) → list_all is_space (concat parts) ≡ are_blank parts
blank_concat [] = refl
blank_concat (part ∷ parts) = list_all-append is_space part (concat parts) ∙ ap (λ (b : Bool). list_all is_space part && b) (blank_concat parts)

from_here : (parts : List (List ℕ)) (at : ℕ) (part : List ℕ) → slice_get parts at ≡ Some part → drop at parts ≡ part ∷ drop (at + 1) parts
from_here parts at part there =
    drop_more parts at [] (slice_get_within parts at part there) ∙ ap (λ (p : List ℕ). p ∷ drop (at + 1) parts) (get_or_from_slice_get parts at part [] there)

pub blank_off : (parts : List (List ℕ)) (at : ℕ) (part : List ℕ) → slice_get parts at ≡ Some part → list_all is_space part ≡ false → are_blank (drop at parts) ≡ false
blank_off parts at part there not_blank = ap are_blank (from_here parts at part there) ∙ ap (λ (b : Bool). b && are_blank (drop (at + 1) parts)) not_blank

length_pieces : (size count : ℕ) (bytes : List ℕ) → length (pieces size count bytes) ≡ count
length_pieces size zero bytes = refl
length_pieces size (suc count) bytes = ap suc (length_pieces size count (drop size bytes))

-- as many parts as chunks
pub parts_count : (key : List ℕ) (item : Entry) → 1 ≤ (item_need key item).count → length (parts_of key item) ≡ (item_need key item).count
parts_count key item some =
    let rest = length_pieces (size_of (item_need key item).class) ((item_need key item).count - 1) (drop (front_of (stored key item)) item.block) in
    omega (arith, rest, some)

-- past the last there is none
pub blank_past : (parts : List (List ℕ)) (at : ℕ) → length parts ≤ at → are_blank (drop at parts) ≡ true
blank_past [] at past = ap are_blank (drop-nil at)
blank_past (part ∷ parts) zero past = absurd (omega (arith, past))
blank_past (part ∷ parts) (suc at) past = blank_past parts at (omega (arith, past))

-- what is in front of other parts is long
front_long : (key block : List ℕ) → length key ≤ 250 → ((need_for (charge key block)).count ≡ 1 → ⊥)
    → 20 < length (take (size_of (need_for (charge key block)).class - start_of (need_for (charge key block)).class (length key)) block)
front_long key block short several =
    by_charge (λ need. (need.count ≡ 1 → ⊥) → 20 < length (take (size_of need.class - start_of need.class (length key)) block)) (charge key block)
    (λ most several. absurd (several refl))
    (λ above several.
    let size : size_of 40 ≡ 1048576 = size_of-last in
    let start : start_of 40 (length key) ≡ 0 = start_of-above 40 (length key) (omega arith) in
    let long : length (take 1048576 block) ≡ min 1048576 (length block) = length-take 1048576 block in
    let all : 1048576 ≡ size_of 40 - start_of 40 (length key) = omega (arith, size, start) in
    let some : 20 < length (take 1048576 block) = omega (arith, long, short, above) in
    subst (λ (n : ℕ). 20 < length (take n block)) all some)
    several

-- the number of a block, by its first part
pub number_by : (key : List ℕ) (item : Entry) → length key ≤ 250 → concat (parts_of key item) ≡ item.block → ((item_need key item).count ≡ 1 → ⊥)
    → (first : List ℕ) → slice_get (parts_of key item) 0 ≡ Some first
    → number_of item.block ≡ (if are_blank (drop 1 (parts_of key item)) then number_of first else None)
number_by key item short joined several first there =
    let front : List ℕ = take (front_of (stored key item)) item.block in
    let rest : List (List ℕ) = drop 1 (parts_of key item) in
    let same : front ≡ first = same_Some front first there in
    ap number_of (sym joined) ∙ number_of-joined front (concat rest) (front_long key item.block short several)
    ∙ (λ i. if blank_concat rest i then number_of (same i) else None)
