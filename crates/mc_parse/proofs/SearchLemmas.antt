-- The search for the first line feed.
use Rattle.std.proofs.Common.{◌≡◌, ◌<◌, ◌≤◌, ◌+◌, ℕ, inl, inr, List, [], ◌∷◌, ◌++◌, length, take, drop, sym, ap, ◌∙◌, subst, arith, get_or, Some, None, zero, suc}
use Rattle.std.proofs.Math.Seq.{take-add}
use Rattle.std.proofs.lemmas.Bool.{eqb-true, eq-eqb, cases_lt}
use Rattle.std.proofs.lemmas.List.{take_all, take-take, take_more, length-take, length-take-le, length-drop, get_or-take, get_or-drop, get_or_default}
use Rattle.std.proofs.lemmas.List.Elements.{recursion_from_All}
use Rattle.memchr.specs.Find.{IsFirstByte, Nowhere, Passes, is_byte}
use Rattle.mc_parse.specs.Units.{LongLine, IsLine}
use Rattle.mc_parse.specs.Peeks.{BeginsWithNone, IsSpelled}
use Rattle.mc_parse.proofs.UnitLemmas.{NoFeed, none_in}

-- the first bytes of such as hold no line feed hold none
pub no_feed_take : (n : ℕ) (xs : List ℕ) → NoFeed xs → NoFeed (take n xs)
no_feed_take zero xs none = tt
no_feed_take (suc n) [] none = tt
no_feed_take (suc n) (x ∷ xs) none = (none.0, no_feed_take n xs none.1)

no_feed_append : (xs ys : List ℕ) → NoFeed xs → NoFeed ys → NoFeed (xs ++ ys)
no_feed_append [] ys first then = then
no_feed_append (x ∷ xs) ys first then = (first.0, no_feed_append xs ys first.1 then)

feed_free : (xs : List ℕ) (n : ℕ) → n ≤ length xs → Nowhere (Passes (is_byte 10) xs) 0 n → NoFeed (take n xs)
feed_free xs n le none =
    recursion_from_All _ (take n xs) (λ k d h. λ is.
    let inside : k < n = omega (arith, length-take n xs) in
    none k (omega arith) inside (eq-eqb _ _ (sym (get_or-take n xs k 0 inside) ∙ get_or_default (take n xs) k 0 d h ∙ is)))

-- Of the first n bytes so many hold no line feed, and the rest of them is searched.
module _ (bytes front rest : List ℕ) (n searched start : ℕ) (is_front : front ≡ take n bytes) (le : n ≤ length bytes) (is_rest : rest ≡ drop start front)
    (inside : start ≤ n) (known : start ≤ searched) (none : NoFeed (take searched bytes)) where
  rest_len : length rest + start ≡ n
  rest_len = omega (arith, ap length is_rest, length-drop start front, ap length is_front, length-take-le n bytes le)

  -- so many more hold none
  free_to : (k : ℕ) → k ≤ length rest → Nowhere (Passes (is_byte 10) rest) 0 k → NoFeed (take (start + k) bytes)
  free_to k few nowhere =
      let first : take start front ≡ take start bytes = ap (take start) is_front ∙ take-take start n bytes inside in
      let searched_free : NoFeed (take start front) = subst NoFeed (take-take start searched bytes known ∙ sym first) (no_feed_take start (take searched bytes) none) in
      let rest_free : NoFeed (take k (drop start front)) = subst (λ r. NoFeed (take k r)) is_rest (feed_free rest k few nowhere) in
      let both : take (start + k) bytes ≡ take start front ++ take k (drop start front) =
      sym (take-take (start + k) n bytes (omega (arith, rest_len))) ∙ ap (take (start + k)) (sym is_front) ∙ take-add start k front in
      subst NoFeed (sym both) (no_feed_append (take start front) (take k (drop start front)) searched_free rest_free)

  module _ (place : ℕ) (found : IsFirstByte (is_byte 10) rest (Some place)) where
    pub feed_inside : start + place < length bytes
    feed_inside = omega (arith, found.0.high, rest_len)

    feed_at : get_or bytes (start + place) 0 ≡ 10
    feed_at =
        sym (get_or-take n bytes (start + place) 0 (omega (arith, found.0.high, rest_len))) ∙ ap (λ f. get_or f (start + place) 0) (sym is_front)
        ∙ sym (get_or-drop start front place 0) ∙ ap (λ r. get_or r place 0) (sym is_rest) ∙ eqb-true _ _ found.1

    -- the first line ends there
    pub line_found : n ≤ 65537 → IsLine (take (start + place + 1) bytes) (take (start + place) bytes)
    line_found short = record {
      ended = take_more bytes (start + place) 0 feed_inside ∙ ap (λ b. take (start + place) bytes ++ b ∷ []) feed_at;
      one_line = free_to place (omega (arith, found.0.high)) found.0.before;
      short = omega (arith, found.0.high, rest_len, length-take (start + place) bytes);
    }

  -- no line ends among the first bytes
  pub none_found : (length bytes < 65537 → n ≡ length bytes) → (65537 ≤ length bytes → n ≡ 65537) → IsFirstByte (is_byte 10) rest None → NoFeed (take 65537 bytes)
  none_found all long nowhere =
      let front_free : NoFeed (take n bytes) = subst (λ k. NoFeed (take k bytes)) (omega (arith, rest_len)) (free_to (length rest) (omega arith) nowhere) in
      elim (cases_lt (length bytes) 65537) as (λ _. NoFeed (take 65537 bytes)) [
        | inl few ↦ subst NoFeed (ap (λ k. take k bytes) (all few) ∙ take_all (length bytes) bytes (omega arith) ∙ sym (take_all 65537 bytes (omega arith))) front_free
        | inr many ↦ subst (λ k. NoFeed (take k bytes)) (long many) front_free
      ]

-- so many bytes without a line feed are a line that is too long
pub long_found : (greatest : ℕ) (bytes : List ℕ) → 65537 ≤ length bytes → NoFeed (take 65537 bytes) → IsSpelled greatest (LongLine, 65537) bytes
long_found greatest bytes many none = record { within = many; spelled = (length-take-le 65537 bytes many, none) }

-- fewer spell nothing
pub none_yet_found : (greatest : ℕ) (bytes : List ℕ) → length bytes < 65537 → NoFeed (take 65537 bytes) → BeginsWithNone greatest bytes
none_yet_found greatest bytes few none = record { none = none_in greatest bytes (subst NoFeed (take_all 65537 bytes (omega arith)) none) (omega arith) }
