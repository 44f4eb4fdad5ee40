-- What the first bytes of a connection show.
use Rattle.std.proofs.Common.{◌≡◌, ◌<◌, ◌≤◌, ◌+◌, ◌-◌, ◌==◌, ◌&&◌, ℕ, Bool, true, false, List, [], ◌∷◌, ◌++◌, length, take, drop, set, get_or, codes, Option, None, refl, sym, ap, ◌∙◌, subst, arith, append_assoc, append-nil}
use Rattle.std.proofs.lemmas.List.{drop_more, length-append, length-set, length-take, take-append-drop, take_more, take_more_set}
use Rattle.std.proofs.Math.Seq.{take-append-add, take-length}
use Rattle.mc_sockets.specs.Headers.{is_binary_header}
use Rattle.mc_sockets.specs.declared.header.HeaderPart.{HeaderPart}
use Rattle.mc_sockets.specs.declared.opening.PieceOpening.TheVariants as verdict
use Rattle.mc_sockets.specs.declared.opening.Opening.{Opening}
use Rattle.mc_sockets.specs.declared.opening.Opening.TheVariants as opening
use Rattle.mc_sockets.specs.declared.opening.Part.{Part}
use Rattle.mc_sockets.specs.declared.opening.Part.TheVariants as part
use Rattle.mc_sockets.specs.declared.opening.Protocol.{Protocol}
use Rattle.mc_sockets.specs.declared.opening.Protocol.TheVariants.{Binary, Http}
use Rattle.mc_sockets.specs.Openings.{Judges, begins_then, came, last_word, shown_behind, shown_by, shows}

-- fewer bytes than 24 are no header
pub no_header : (header : List ℕ) → length header < 24 → is_binary_header header ≡ false
no_header header few = grind (arith, few)

-- the header is whole with its last byte
pub whole_header : (header : HeaderPart) (text : List ℕ) (b : ℕ) → header.count + 1 ≡ 24 → take 24 (came header ++ b ∷ text) ≡ set header.bytes header.count b
whole_header header text b last =
    let n = header.count in
    let bytes = header.bytes in
    let front : length (take n bytes) ≡ n = grind (arith, length-take n bytes, header.whole, header.short) in
    let all : length (set bytes n b) ≡ n + 1 = length-set bytes n b ∙ header.whole ∙ sym last in
    subst (λ k. take k (take n bytes ++ b ∷ text) ≡ set bytes n b) last
    (subst (λ k. take (k + 1) (take n bytes ++ b ∷ text) ≡ take n bytes ++ b ∷ []) front (take-append-add (take n bytes) (b ∷ text) 1)
    ∙ sym (take_more_set bytes n b (omega (arith, header.whole, header.short)))
    ∙ subst (λ k. take k (set bytes n b) ≡ set bytes n b) all (take-length (set bytes n b)))

-- the third word goes on with its next byte, if that is the one
pub version_goes_on : (word : List ℕ) (n b : ℕ) (text : List ℕ) → n < length word
    → begins_then (drop n word) last_word (b ∷ text) ≡ ((b == get_or word n 0) && begins_then (drop (n + 1) word) last_word text)
version_goes_on word n b text within = ap (λ w. begins_then w last_word (b ∷ text)) (drop_more word n 0 within)

same_byte : (a b : ℕ) → a ≡ b → (a == b) ≡ true
same_byte a b same = grind (arith, same)

other_byte : (a b : ℕ) → (a ≡ b → ⊥) → (a == b) ≡ false
other_byte a b other = grind (arith, other)

module _ (word : List ℕ) (n b : ℕ) (text : List ℕ) (within : n < length word) where
  pub next_byte : b ≡ get_or word n 0 → begins_then (drop (n + 1) word) last_word text ≡ begins_then (drop n word) last_word (b ∷ text)
  next_byte same = sym (version_goes_on word n b text within ∙ ap (λ (is : Bool). is && begins_then (drop (n + 1) word) last_word text) (same_byte _ _ same))

  pub wrong_byte : (b ≡ get_or word n 0 → ⊥) → false ≡ begins_then (drop n word) last_word (b ∷ text)
  wrong_byte other = sym (version_goes_on word n b text within ∙ ap (λ (is : Bool). is && begins_then (drop (n + 1) word) last_word text) (other_byte _ _ other))

none_in_version : (word : List ℕ) → shows Http (begins_then word last_word []) ≡ None
none_in_version [] = refl
none_in_version (b ∷ word) = refl

few_came : (header : HeaderPart) → length (take 24 (came header ++ [])) < 24
few_came header = grind (arith, header.short, length-take 24 (came header ++ []), length-append (came header) [], length-take header.count header.bytes)

-- a beginning alone shows nothing yet
pub none_yet_shown : (part : Part) → shown_behind part [] ≡ None
none_yet_shown part.Nothing = refl
none_yet_shown (part.Header header) = ap (shows Binary) (no_header _ (few_came header))
none_yet_shown part.Method = refl
none_yet_shown part.Space = refl
none_yet_shown part.Target = refl
none_yet_shown (part.Version count) = none_in_version (drop count (codes "HTTP/1."))

back : (count : ℕ) → count + 1 - 1 ≡ count
back count = omega arith

-- what is known behind the first bytes is what they show
abbrev pub Reached : (part : Part) (bytes : List ℕ) (known : Opening) (count : ℕ) → Type 0
Reached part bytes known count = (text : List ℕ) → shown_by known text ≡ shown_behind part (take count bytes ++ text)

module _ (start : Part) (bytes : List ℕ) (mid : Part) (next : Opening) (count b : ℕ) (within : count < length bytes) (is : b ≡ get_or bytes count 0)
    (reached : Reached start bytes (opening.Open mid) count) (step : (text : List ℕ) → shown_by next text ≡ shown_behind mid (b ∷ text)) where
  cut : (text : List ℕ) → take (count + 1) bytes ++ text ≡ take count bytes ++ b ∷ text
  cut text = ap (λ l. l ++ text) (take_more bytes count 0 within ∙ ap (λ c. take count bytes ++ c ∷ []) (sym is)) ∙ append_assoc (take count bytes) (b ∷ []) text

  -- one byte more was judged
  pub goes_on : Reached start bytes next (count + 1)
  goes_on text = step text ∙ reached (b ∷ text) ∙ ap (shown_behind start) (sym (cut text))

  none_before : shown_behind start (take count bytes) ≡ None
  none_before = ap (shown_behind start) (sym (append-nil (take count bytes))) ∙ sym (reached []) ∙ none_yet_shown mid

  -- it shows no other protocol
  pub settled_so : next ≡ opening.Settled → Judges start bytes verdict.Settled
  settled_so is_settled text =
      ap (λ l. shown_behind start (l ++ text)) (sym (take-append-drop (count + 1) bytes))
      ∙ ap (shown_behind start) (append_assoc (take (count + 1) bytes) (drop (count + 1) bytes) text)
      ∙ sym (goes_on (drop (count + 1) bytes ++ text)) ∙ ap (λ known. shown_by known (drop (count + 1) bytes ++ text)) is_settled

  -- it shows another
  pub other_so : (protocol : Protocol) → next ≡ opening.Other protocol → Judges start bytes (verdict.Other protocol (count + 1))
  other_so protocol is_other = record {
    some = omega arith;
    within = omega (arith, within);
    shows = ap (shown_behind start) (sym (append-nil (take (count + 1) bytes))) ∙ sym (goes_on []) ∙ ap (λ known. shown_by known []) is_other;
    before = ap (λ k. shown_behind start (take k bytes)) (back count) ∙ none_before;
  }

-- it is still open
pub open_so : (start : Part) (bytes : List ℕ) (mid : Part) (count : ℕ) → length bytes ≡ count → Reached start bytes (opening.Open mid) count → Judges start bytes (verdict.Open mid)
open_so start bytes mid count all reached text =
    ap (λ l. shown_behind start (l ++ text)) (sym (subst (λ k. take k bytes ≡ bytes) all (take-length bytes))) ∙ sym (reached text)
