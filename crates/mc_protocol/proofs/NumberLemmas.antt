-- When a word writes a number up to a limit.
use Rattle.std.proofs.Common.{◌≡◌, ◌<◌, ◌≤◌, ◌+◌, ◌*◌, ℕ, Bool, true, false, cond, ◌&&◌, List, [], ◌∷◌, ◌++◌, Option, Some, None, length, get_or, take, refl, sym, ap, ◌∙◌, ⊎_elim}
use Rattle.std.proofs.Common.{arith, leb, ltb, ◌-◌, ◌^◌}
use Rattle.std.proofs.lemmas.Bool.{cases_lt, le-leb, lt-leb, leb-true, le-ltb, lt-ltb}
use Rattle.std.proofs.lemmas.Str.Parse.{IsNumeralModel, numerals_by_value, tells_all_ascii_digits, digit_at, digits_value-take-le}
use Rattle.std.proofs.lemmas.Int.Digits.{digits_value_more, digits_more}
use Rattle.std.proofs.lemmas.List.{take_all, take-append-le, drop-append-le}
use Rattle.std.proofs.lemmas.List.Folds.{list_all-append}
use Rattle.std.specs.Str.{all_ascii_digits}
use Rattle.std.specs.Str.Parse.{digits_value, AllDigits}
use Rattle.std.specs.Char.{digit_value, is_ascii_digit}
use Rattle.std.specs.Prelude.{nat_le, drop}
use Rattle.std.specs.List.{take_while, prefix_len, list_all}
use Rattle.mc_protocol.specs.Words.{is_space}
use Rattle.mc_protocol.specs.Plain.{number_of}
use Rattle.mc_protocol.proofs.WordLemmas.{length-take_while}
use Rattle.mc_protocol.specs.Numbers.{number_up_to}

pub own : IsNumeralModel (λ ds. all_ascii_digits ds ≡ true) (digits_value 10)
own = numerals_by_value _ tells_all_ascii_digits

chosen : (a b c : Bool) (n : ℕ) → (a ≡ true → b ≡ true → c ≡ true → Some n ≡ None) → cond ((a && b) && c) (Some n) None ≡ None
chosen true true true n h = h refl refl refl
chosen true true false n h = refl
chosen true false c n h = refl
chosen false b c n h = refl

pub number-none : (limit : ℕ) (word : List ℕ) → (AllDigits 10 word → digits_value 10 word ≤ limit → 0 < length word → Some (digits_value 10 word) ≡ None) → number_up_to limit word ≡ None
number-none limit [] refused = refl
number-none limit (b ∷ word) refused =
    chosen true (all_ascii_digits (b ∷ word)) (leb (digits_value 10 (b ∷ word)) limit) (digits_value 10 (b ∷ word))
    (λ _ digits le. refused (own.to (b ∷ word) digits) (leb-true _ _ le) (omega arith))

pub number-some : (limit : ℕ) (word : List ℕ) → AllDigits 10 word → digits_value 10 word ≤ limit → 0 < length word → number_up_to limit word ≡ Some (digits_value 10 word)
number-some limit [] digits le some = absurd (omega arith)
number-some limit (b ∷ word) digits le some =
    let d : all_ascii_digits (b ∷ word) ≡ true = own.from (b ∷ word) digits in
    let l : leb (digits_value 10 (b ∷ word)) limit ≡ true = le-leb _ _ le in
    ap (λ (t : Bool). cond (t && leb (digits_value 10 (b ∷ word)) limit) (Some (digits_value 10 (b ∷ word))) None) d
    ∙ ap (λ (t : Bool). cond t (Some (digits_value 10 (b ∷ word))) None) l

digit_value-is : (b : ℕ) → 48 ≤ b → b < 58 → digit_value b ≡ b - 48
digit_value-is b low high =
    let l : ltb b 48 ≡ false = le-ltb b 48 low in
    let h : ltb b 58 ≡ true = lt-ltb b 58 high in
    rw (l, h) refl

-- one digit more
module _ (word : List ℕ) (i : ℕ) (inside : i < length word) (n : ℕ) (value : n ≡ digits_value 10 (take i word)) where
  abbrev byte : ℕ
  byte = get_or word i 0

  more : digits_value 10 (take (i + 1) word) ≡ n * 10 + digit_value byte
  more = rw value (digits_value_more 10 word i inside)

  pub value-more : 48 ≤ byte → byte < 58 → n * 10 + (byte - 48) ≡ digits_value 10 (take (i + 1) word)
  value-more low high = sym (more ∙ ap (λ d. n * 10 + d) (digit_value-is byte low high))

  pub digits-more : AllDigits 10 (take i word) → 48 ≤ byte → byte < 58 → AllDigits 10 (take (i + 1) word)
  digits-more digits low high = digits_more 10 word i inside digits (rw (digit_value-is byte low high) (omega arith))

  -- another byte than a digit
  pub none-other : (limit : ℕ) → (48 ≤ byte → byte < 58 → ⊥) → number_up_to limit word ≡ None
  none-other limit other = number-none limit word (λ digits le some. let at = digit_at word i digits inside in absurd (other at.0 (omega (arith, at.1))))

  pub none-mul : (limit : ℕ) → limit < 2 ^ 64 → (n * 10 < 2 ^ 64 → ⊥) → number_up_to limit word ≡ None
  none-mul limit small over = number-none limit word (λ digits le some. absurd (over (omega (arith, more, digits_value-take-le 10 word (i + 1) (omega arith)))))

  pub none-add : (limit : ℕ) → limit < 2 ^ 64 → 48 ≤ byte → byte < 58 → (n * 10 + (byte - 48) < 2 ^ 64 → ⊥) → number_up_to limit word ≡ None
  none-add limit small low high over =
      number-none limit word (λ digits le some. absurd (over (omega (arith, value-more low high, digits_value-take-le 10 word (i + 1) (omega arith)))))

-- all of the word was read
module _ (word : List ℕ) (i : ℕ) (end : length word ≤ i) (n : ℕ) (value : n ≡ digits_value 10 (take i word)) (some : 0 < length word) (limit : ℕ) where
  whole : n ≡ digits_value 10 word
  whole = value ∙ ap (digits_value 10) (take_all i word end)

  pub whole-some : AllDigits 10 (take i word) → n ≤ limit → number_up_to limit word ≡ Some n
  whole-some digits le = number-some limit word (rw take_all at digits) (rw (← whole) le) some ∙ ap Some (sym whole)

  pub whole-none : limit < n → number_up_to limit word ≡ None
  whole-none over = number-none limit word (λ digits le some. absurd (omega (arith, whole)))

-- the digits of a block, and what follows them
number_of-as : (block digits rest : List ℕ) (n : ℕ) → n ≡ length (take_while is_ascii_digit block) → digits ≡ take n block → rest ≡ drop n block
    → number_of block ≡ cond (nat_le (length digits) 20 && list_all is_space rest) (number_up_to (2 ^ 64 - 1) digits) None
number_of-as block digits rest n len front back =
    let at : take_while is_ascii_digit block ≡ digits = ap (λ k. take k block) (sym (len ∙ length-take_while is_ascii_digit block)) ∙ sym front in
    let after : drop (length (take_while is_ascii_digit block)) block ≡ rest = ap (λ k. drop k block) (sym len) ∙ sym back in
    rw (after, at) refl

pub number_of-yes : (block : List ℕ) (n : ℕ) (digits rest : List ℕ) → n ≡ length (take_while is_ascii_digit block) → digits ≡ take n block → rest ≡ drop n block
    → length digits ≤ 20 → list_all is_space rest ≡ true → number_of block ≡ number_up_to (2 ^ 64 - 1) digits
number_of-yes block n digits rest len front back few blank =
    let a : nat_le (length digits) 20 ≡ true = le-leb _ _ few in
    number_of-as block digits rest n len front back ∙ rw (a, blank) refl

-- ---- a block in two parts, of which the first is longer than the digits of a number

-- the digits end in the first
ends-in_front : (p : ℕ → Bool) (front rest : List ℕ) → prefix_len p front < length front → prefix_len p (front ++ rest) ≡ prefix_len p front
ends-in_front p [] rest below = absurd (omega arith)
ends-in_front p (b ∷ front) rest below =
    elim (p b) as (λ t. cond t (1 + prefix_len p front) 0 < length (b ∷ front) → cond t (1 + prefix_len p (front ++ rest)) 0 ≡ cond t (1 + prefix_len p front) 0) [
      | true ↦ λ less. ap (λ (n : ℕ). 1 + n) (ends-in_front p front rest (omega (arith, less)))
      | false ↦ λ less. refl
    ] below

-- or they go on behind it
goes-on : (p : ℕ → Bool) (front rest : List ℕ) → length front ≤ prefix_len p front → length front ≤ prefix_len p (front ++ rest)
goes-on p [] rest all = omega arith
goes-on p (b ∷ front) rest all =
    elim (p b) as (λ t. length (b ∷ front) ≤ cond t (1 + prefix_len p front) 0 → length (b ∷ front) ≤ cond t (1 + prefix_len p (front ++ rest)) 0) [
      | true ↦ λ more. let here = goes-on p front rest (omega (arith, more)) in omega (arith, here)
      | false ↦ λ more. absurd (omega (arith, more))
    ] all

abbrev read : (digits behind : List ℕ) → Option ℕ
read digits behind = cond (nat_le (length digits) 20 && list_all is_space behind) (number_up_to (2 ^ 64 - 1) digits) None

many-none : (digits behind : List ℕ) → 20 < length digits → read digits behind ≡ None
many-none digits behind many = ap (λ (t : Bool). cond (t && list_all is_space behind) (number_up_to (2 ^ 64 - 1) digits) None) (lt-leb (length digits) 20 many)

parted : (few here there : Bool) (x : Option ℕ) → cond (few && (here && there)) x None ≡ cond there (cond (few && here) x None) None
parted true true true x = refl
parted true true false x = refl
parted true false true x = refl
parted true false false x = refl
parted false here true x = refl
parted false here false x = refl

none-twice : (t : Bool) (x : Option ℕ) → x ≡ None → None ≡ cond t x None
none-twice true x none = sym none
none-twice false x none = refl

pub number_of-joined : (front rest : List ℕ) → 20 < length front → number_of (front ++ rest) ≡ cond (list_all is_space rest) (number_of front) None
number_of-joined front rest long =
    let digits : List ℕ = take_while is_ascii_digit front in
    let n : ℕ = prefix_len is_ascii_digit front in
    let long_as : length digits ≡ n = length-take_while is_ascii_digit front in
    ⊎_elim
    (λ (below : n < length front).
    let same : take_while is_ascii_digit (front ++ rest) ≡ digits =
    ap (λ (k : ℕ). take k (front ++ rest)) (ends-in_front is_ascii_digit front rest below) ∙ take-append-le n front rest (omega arith) in
    let behind : drop (length digits) (front ++ rest) ≡ drop (length digits) front ++ rest = drop-append-le (length digits) front rest (omega (arith, long_as, below)) in
    ap (λ (ds : List ℕ). read ds (drop (length ds) (front ++ rest))) same
    ∙ ap (read digits) behind
    ∙ ap (λ (t : Bool). cond (nat_le (length digits) 20 && t) (number_up_to (2 ^ 64 - 1) digits) None) (list_all-append is_space (drop (length digits) front) rest)
    ∙ parted (nat_le (length digits) 20) (list_all is_space (drop (length digits) front)) (list_all is_space rest) (number_up_to (2 ^ 64 - 1) digits))
    (λ (all : length front ≤ n).
    let more = goes-on is_ascii_digit front rest all in
    let whole = length-take_while is_ascii_digit (front ++ rest) in
    many-none (take_while is_ascii_digit (front ++ rest)) (drop (length (take_while is_ascii_digit (front ++ rest))) (front ++ rest)) (omega (arith, long, more, whole))
    ∙ none-twice (list_all is_space rest) (number_of front) (many-none digits (drop (length digits) front) (omega (arith, long, all, long_as))))
    (cases_lt n (length front))
