-- The words of a line hold no space and no line feed.
use Rattle.std.proofs.Common.{◌≡◌, ◌≢◌, ◌<◌, ℕ, true, false, cond, List, [], ◌∷◌, length, arith, refl}
use Rattle.std.specs.List.{All, AllByRecursion, slice_split, onto_first}
use Rattle.std.proofs.lemmas.Bool.{eqb-false}
use Rattle.std.proofs.lemmas.List.Elements.{All-from_recursion, recursion_from_All, All-filter, filter_passes}
use Rattle.mc_protocol.specs.Words.{words, is_space, is_nonempty}
use Rattle.mc_parse.specs.Lines.{IsWord}

-- one byte more of the first part
onto_first-hold : (Q : ℕ → Type 0) (x : ℕ) (parts : List (List ℕ)) → Q x → AllByRecursion (AllByRecursion Q) parts → AllByRecursion (AllByRecursion Q) (onto_first x parts)
onto_first-hold Q x [] held rest = ((held, tt), tt)
onto_first-hold Q x (part ∷ parts) held rest = ((held, rest.0), rest.1)

-- what holds of each byte but the spaces holds of each byte of the parts round the spaces
parts-hold : (Q : ℕ → Type 0) (text : List ℕ) → AllByRecursion (λ b. is_space b ≡ false → Q b) text → AllByRecursion (AllByRecursion Q) (slice_split is_space text)
parts-hold Q [] held = (tt, tt)
parts-hold Q (x ∷ text) held =
    elim (is_space x) as (λ b. is_space x ≡ b → AllByRecursion (AllByRecursion Q) (cond b ([] ∷ slice_split is_space text) (onto_first x (slice_split is_space text)))) [
      | true ↦ λ e. (tt, parts-hold Q text held.1)
      | false ↦ λ e. onto_first-hold Q x (slice_split is_space text) (held.0 e) (parts-hold Q text held.1)
    ] refl

abbrev IsWordByte : ℕ → Type 0
IsWordByte b = (b ≢ 32) × (b ≢ 10)

bytes-hold : (text : List ℕ) → AllByRecursion (λ b. b ≢ 10) text → AllByRecursion (λ b. is_space b ≡ false → IsWordByte b) text
bytes-hold [] held = tt
bytes-hold (x ∷ text) held = ((λ e. (eqb-false x 32 e, held.0)), bytes-hold text held.1)

some_byte : (word : List ℕ) → is_nonempty word ≡ true → 0 < length word
some_byte [] h = absurd (cc)
some_byte (b ∷ word) h = omega arith

-- each word of a text without a line feed is a run of bytes other than the space and the line feed
pub words_are_words : (text : List ℕ) → All (λ b. b ≢ 10) text → All IsWord (words text)
words_are_words text held k d inside =
    let parts : AllByRecursion (AllByRecursion IsWordByte) (slice_split is_space text) = parts-hold IsWordByte text (bytes-hold text (recursion_from_All (λ b. b ≢ 10) text held)) in
    let kept : All (AllByRecursion IsWordByte) (words text) =
    All-filter is_nonempty (AllByRecursion IsWordByte) (slice_split is_space text) (All-from_recursion (AllByRecursion IsWordByte) (slice_split is_space text) parts) in
    (some_byte _ (filter_passes is_nonempty (slice_split is_space text) k d inside), All-from_recursion IsWordByte _ (kept k d inside))
