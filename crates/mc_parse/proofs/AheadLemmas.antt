-- What is known of the front of unread bytes.
use Rattle.std.proofs.Common.{◌≡◌, ℕ, inl, inr, arith, List, [], ◌∷◌, ◌++◌, length, take, drop, Option, Some, None, sym, refl, subst, ap}
use Rattle.std.proofs.lemmas.Bool.{cases_lt}
use Rattle.std.proofs.lemmas.List.{take-take, take-append-le, take-append-drop}
use Rattle.mc_parse.specs.declared.ahead.Ahead.{Ahead}
use Rattle.mc_parse.specs.declared.ahead.Ahead.TheVariants.{Searched, Line}
use Rattle.mc_parse.specs.Units.{ProtocolUnit, LongLine}
use Rattle.mc_parse.specs.Peeks.{IsSpelled, left_of}
use Rattle.mc_parse.specs.Aheads.{Knew, Knows}
use Rattle.mc_parse.proofs.UnitLemmas.{NoFeed, found_only}
use Rattle.mc_parse.proofs.SearchLemmas.{no_feed_take, long_found, none_yet_found}
use Rattle.mc_parse.proofs.NoteLemmas.{noted_more}

-- where no byte is, nothing is known
pub knows_nothing : (greatest : ℕ) (bytes : List ℕ) → length bytes ≡ 0 → Knows greatest (Searched 0) bytes
knows_nothing greatest [] none = (tt, omega arith, omega arith)
knows_nothing greatest (b ∷ bytes) none = absurd (omega (arith, none))

-- it still holds when more come
pub knew_more : (greatest : ℕ) (ahead : Ahead) (bytes more : List ℕ) → Knows greatest ahead bytes → Knew greatest ahead (bytes ++ more)
knew_more greatest (Searched n) bytes more is =
    let here : NoFeed (take n bytes) = subst NoFeed (take-take n 65537 bytes is.2) (no_feed_take n (take 65537 bytes) is.0) in
    subst NoFeed (sym (take-append-le n bytes more is.1)) here
knew_more greatest (Line note) bytes more is = noted_more greatest note bytes more is

abbrev first_or : ProtocolUnit → Option (ProtocolUnit × ℕ) → ProtocolUnit
first_or unit None = unit
first_or unit (Some found) = found.0

-- what is spelled where no line ends is a line that is too long, and turns leave it whole
pub long_whole : (greatest : ℕ) (bytes : List ℕ) (unit : ProtocolUnit) (len taken : ℕ) → NoFeed (take 65537 bytes) → IsSpelled greatest (unit, len) bytes → left_of unit taken ≡ unit
long_whole greatest bytes unit len taken none is = elim (cases_lt (length bytes) 65537) as (λ _. left_of unit taken ≡ unit) [
  | inl few ↦ absurd ((none_yet_found greatest bytes few none).none unit (take len bytes) (drop len bytes) (sym (take-append-drop len bytes)) is.spelled)
  | inr many ↦
      let found = found_only greatest bytes (Some (LongLine, 65537)) (long_found greatest bytes many none) (λ e. absurd (cc)) unit len is in
      let long : LongLine ≡ unit = ap (first_or unit) found in
      subst (λ u. left_of u taken ≡ u) long refl
]
