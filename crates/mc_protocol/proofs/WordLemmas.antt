-- The first word of a text.
use Rattle.std.proofs.Common.{add-zero, ◌≡◌, ◌<◌, ◌≤◌, ◌+◌, ◌-◌, ℕ, suc, Bool, true, false, cond, not, List, [], ◌∷◌, ◌++◌, length, get_or, take, drop, refl, sym, ap, ◌∙◌, subst}
use Rattle.std.proofs.Common.{arith, inl, inr, Some, None}
use Rattle.std.proofs.Math.Numerals.{one-add}
use Rattle.std.proofs.Math.Seq.{drop-nil}
use Rattle.std.proofs.lemmas.List.{take-append-drop, length-take, length-take-le, get_or-take, get_or-drop, length-drop, append-nil, nil_from_length}
use Rattle.std.proofs.lemmas.List.Sums.{prefix_len_passes, prefix_len_stops, prefix_len-le-length}
use Rattle.std.proofs.lemmas.List.Splits.{slice_split_none, slice_split_at, slice_split-cons_yes}
use Rattle.std.proofs.lemmas.Bool.{cases_lt}
use Rattle.std.specs.List.{slice_split, onto_first, filter, take_while, prefix_len, All}
use Rattle.memchr.specs.Find.{IsFirstByte, is_byte}
use Rattle.mc_protocol.specs.Words.{words, is_space, is_nonempty, EndsIn}

not_false : (b : Bool) → not b ≡ true → b ≡ false
not_false true h = sym h
not_false false h = refl

not_true : (b : Bool) → not b ≡ false → b ≡ true
not_true true h = refl
not_true false h = sym h

-- a space in front says nothing
words-space : (x : ℕ) (text : List ℕ) → is_space x ≡ true → words (x ∷ text) ≡ words text
words-space x text e = ap (filter is_nonempty) (slice_split-cons_yes is_space x text e)

-- nor do several
pub words-spaces : (text : List ℕ) → words (drop (prefix_len is_space text) text) ≡ words text
words-spaces [] = refl
words-spaces (x ∷ text) =
    elim (is_space x) as (λ b. is_space x ≡ b → words (drop (cond b (1 + prefix_len is_space text) 0) (x ∷ text)) ≡ words (x ∷ text)) [
      | true ↦ λ e. rw one-add (words-spaces text ∙ sym (words-space x text e))
      | false ↦ λ e. refl
    ] refl

length-onto_first : (x : ℕ) (parts : List (List ℕ)) → length (filter is_nonempty (onto_first x parts)) ≤ suc (length (filter is_nonempty parts))
length-onto_first x [] = omega arith
length-onto_first x ([] ∷ parts) = omega arith
length-onto_first x ((y ∷ part) ∷ parts) = omega arith

-- a text has at most as many words as bytes
pub length-words : (text : List ℕ) → length (words text) ≤ length text
length-words [] = omega arith
length-words (x ∷ text) =
    elim (is_space x) as (λ b. length (filter is_nonempty (cond b ([] ∷ slice_split is_space text) (onto_first x (slice_split is_space text)))) ≤ suc (length text)) [
      | true ↦ omega (arith, length-words text)
      | false ↦ omega (arith, length-words text, length-onto_first x (slice_split is_space text))
    ]

pub length-take_while : (p : ℕ → Bool) (xs : List ℕ) → length (take_while p xs) ≡ prefix_len p xs
length-take_while p xs = omega (arith, length-take (prefix_len p xs) xs, prefix_len-le-length p xs)

-- a text of no space is one word
words_alone : (w : List ℕ) → All (λ b. is_space b ≡ false) w → 0 < length w → words w ≡ w ∷ []
words_alone [] none some = absurd (omega arith)
words_alone (x ∷ w) none some = ap (filter is_nonempty) (slice_split_none is_space (x ∷ w) none)

-- a word ends at a space
words_front : (w : List ℕ) (y : ℕ) (t : List ℕ) → All (λ b. is_space b ≡ false) w → is_space y ≡ true → 0 < length w → words (w ++ y ∷ t) ≡ w ∷ words (y ∷ t)
words_front [] y t none space some = absurd (omega arith)
words_front (x ∷ w) y t none space some =
    ap (filter is_nonempty) (slice_split_at is_space (x ∷ w) y t none space) ∙ ap (λ ws. (x ∷ w) ∷ ws) (sym (words-space y t space))

-- a word that ends at a space or with the text
word_then : (w rest : List ℕ) → All (λ b. is_space b ≡ false) w → 0 < length w → (0 < length rest → is_space (get_or rest 0 0) ≡ true) → words (w ++ rest) ≡ w ∷ words rest
word_then w [] none some stop = ap words (append-nil w) ∙ words_alone w none some
word_then w (y ∷ t) none some stop = words_front w y t none (stop (omega arith)) some

abbrev pub not_space : ℕ → Bool
not_space b = not (is_space b)

before_space : (text : List ℕ) → All (λ b. is_space b ≡ false) (take (prefix_len not_space text) text)
before_space text k d h =
    let inside : k < prefix_len not_space text = omega (arith, length-take (prefix_len not_space text) text) in
    rw (get_or-take) (not_false _ (prefix_len_passes not_space text k d inside))

at_space : (text : List ℕ) → 0 < length (drop (prefix_len not_space text) text) → is_space (get_or (drop (prefix_len not_space text) text) 0 0) ≡ true
at_space text h =
    let n = prefix_len not_space text in
    rw (get_or-drop n text 0 0, add-zero) (not_true _ (prefix_len_stops not_space text 0 (omega (arith, length-drop n text))))

some_word : (text : List ℕ) → 0 < length text → is_space (get_or text 0 0) ≡ false → 0 < length (take (prefix_len not_space text) text)
some_word [] some no_space = absurd (omega arith)
some_word (x ∷ text) some no_space = rw (no_space, one-add) (omega arith)

-- a text that begins with no space begins with a word
pub words-first : (text : List ℕ) → 0 < length text → is_space (get_or text 0 0) ≡ false → words text ≡ take (prefix_len not_space text) text ∷ words (drop (prefix_len not_space text) text)
words-first text some no_space =
    let n = prefix_len not_space text in
    ap words (sym (take-append-drop n text)) ∙ word_then (take n text) (drop n text) (before_space text) (some_word text some no_space) (at_space text)

-- what is left after the spaces begins with no space
pub after_spaces : (text : List ℕ) → 0 < length (drop (prefix_len is_space text) text) → is_space (get_or (drop (prefix_len is_space text) text) 0 0) ≡ false
after_spaces text h =
    let n = prefix_len is_space text in
    rw (get_or-drop n text 0 0, add-zero) (prefix_len_stops is_space text 0 (omega (arith, length-drop n text)))

-- a byte before the first space is none, and the one there is
below_space : (text : List ℕ) (k : ℕ) → k < prefix_len not_space text → is_space (get_or text k 0) ≡ false
below_space text k less = not_false _ (prefix_len_passes not_space text k 0 less)

first_space : (text : List ℕ) → prefix_len not_space text < length text → is_space (get_or text (prefix_len not_space text) 0) ≡ true
first_space text less = not_true _ (prefix_len_stops not_space text 0 less)

-- where a search finds the first space, so many bytes come before it
pub space_at : (text : List ℕ) (place : ℕ) → IsFirstByte (is_byte 32) text (Some place) → place ≡ length (take_while not_space text)
space_at text place found =
    let n = prefix_len not_space text in
    let same : place ≡ n = elim (cases_lt place n) as (λ _. place ≡ n) [
      | inl less ↦ let none = below_space text place less in let some = found.1 in absurd (cc)
      | inr more ↦ elim (cases_lt n place) as (λ _. place ≡ n) [
        | inl after ↦ absurd (found.0.before n (omega arith) after (first_space text (omega (arith, found.0.high))))
        | inr same ↦ omega arith
      ]
    ] in
    same ∙ sym (length-take_while not_space text)

-- where it finds none, all bytes do
pub space_nowhere : (text : List ℕ) → IsFirstByte (is_byte 32) text None → length text ≡ length (take_while not_space text)
space_nowhere text nowhere =
    let n = prefix_len not_space text in
    let same : length text ≡ n = elim (cases_lt n (length text)) as (λ _. length text ≡ n) [
      | inl less ↦ absurd (nowhere n (omega arith) less (first_space text less))
      | inr more ↦ omega (arith, prefix_len-le-length not_space text)
    ] in
    same ∙ sym (length-take_while not_space text)

-- the spaces, a word and what follows
module _ (text rest : List ℕ) (s : ℕ) (spaces : s ≡ length (take_while is_space text)) (back : rest ≡ drop s text) where
  rest_is : rest ≡ drop (prefix_len is_space text) text
  rest_is = back ∙ ap (λ k. drop k text) (spaces ∙ length-take_while is_space text)

  pub words-none : length rest ≡ 0 → words text ≡ []
  words-none none = sym (words-spaces text) ∙ ap words (sym rest_is ∙ nil_from_length rest none)

  pub words-some : (word after : List ℕ) (n : ℕ) → 0 < length rest → n ≡ length (take_while not_space rest) → word ≡ take n rest → after ≡ drop n rest → words text ≡ word ∷ words after
  words-some word after n some len front behind =
      let no_space : is_space (get_or rest 0 0) ≡ false = rw rest_is (after_spaces text (subst (λ r. 0 < length r) rest_is some)) in
      let at : n ≡ prefix_len not_space rest = len ∙ length-take_while not_space rest in
      let same : words text ≡ words rest = sym (words-spaces text) ∙ ap words (sym rest_is) in
      let first = words-first rest some no_space in
      let w : word ≡ take (prefix_len not_space rest) rest = front ∙ ap (λ k. take k rest) at in
      let a : after ≡ drop (prefix_len not_space rest) rest = behind ∙ ap (λ k. drop k rest) at in
      cc

  pub words-rest : (n : ℕ) → n ≡ length (take_while not_space rest) → words (drop n rest) ≡ drop 1 (words text)
  words-rest n len =
      elim (cases_lt 0 (length rest)) as (λ _. words (drop n rest) ≡ drop 1 (words text)) [
        | inl some ↦ ap (drop 1) (sym (words-some (take n rest) (drop n rest) n some len refl refl))
        | inr none ↦
            let nothing : rest ≡ [] = nil_from_length rest (omega arith) in
            ap words (ap (drop n) nothing ∙ drop-nil n) ∙ ap (drop 1) (sym (words-none (omega arith)))
      ]

  -- the first word begins behind the spaces
  pub words-head : (word : List ℕ) (more : List (List ℕ)) → words text ≡ word ∷ more → word ≡ take (length word) rest
  words-head word more is = elim (cases_lt 0 (length rest)) as (λ _. word ≡ take (length word) rest) [
    | inl some ↦
        let n = prefix_len not_space rest in
        let found = words-some (take n rest) (drop n rest) n some (sym (length-take_while not_space rest)) refl refl in
        let same : word ≡ take n rest = cc in
        let len : length word ≡ n = ap length same ∙ length-take-le n rest (prefix_len-le-length not_space rest) in
        same ∙ ap (λ k. take k rest) (sym len)
    | inr none ↦ let nothing = words-none (omega arith) in absurd (cc)
  ]

pub ruleset word_rules = length-words

-- what is left behind some bytes is what the text ends in
pub ends_in : (n : ℕ) (text end : List ℕ) → n ≤ length text → end ≡ drop n text → EndsIn text end
ends_in n text end inside is =
    let count : length text - length end ≡ n = omega (arith, ap length is, length-drop n text) in
    is ∙ ap (λ k. drop k text) (sym count)
