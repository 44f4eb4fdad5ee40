-- What a feed holds after its pieces.
use Rattle.std.proofs.Common.{◌≡◌, ◌<◌, ◌≤◌, ◌+◌, ◌-◌, ℕ, ◌⊎◌, inl, inr, List, [], ◌∷◌, ◌++◌, length, drop, refl, sym, ap, ◌∙◌, subst, arith, length-append, length-drop, Option, Some, None, IfSome}
use Rattle.std.specs.List.{fold, concat}
use Rattle.std.proofs.Math.Seq.{drop-append-add, drop-nil}
use Rattle.std.proofs.Math.ListN.{drop_of_length-le}
use Rattle.std.proofs.lemmas.Bool.{cases_lt}
use Rattle.std.proofs.lemmas.List.{append-nil, drop-append-le, drop-drop, append_assoc}
use Rattle.mc_parse.specs.declared.cursor.Cursor.{Cursor}
use Rattle.mc_parse.specs.declared.ahead.Ahead.{Ahead}
use Rattle.mc_parse.specs.declared.ahead.Ahead.TheVariants.{Searched}
use Rattle.mc_parse.specs.Units.{ProtocolUnit}
use Rattle.mc_parse.specs.Peeks.{BeginsWithNone, IsSpelled, IsLeft, left_of}
use Rattle.mc_parse.specs.Feeds.{Unread, pushed, read, settled, IsSettled, IsKept}
use Rattle.mc_parse.specs.Cursors.{PointsInto}
use Rattle.mc_parse.proofs.CursorLemmas.{points_more}
use Rattle.mc_parse.proofs.UnitLemmas.{none_in}

-- bytes are passed over of what came first, and then of what came later
pub passed_along : (n : ℕ) (first later : List ℕ) → (n < length first) ⊎ (length first ≤ n) → drop (n - length first) (drop n first ++ later) ≡ drop n (first ++ later)
passed_along n first later (inl within) =
    let none : n - length first ≡ 0 = omega arith in
    rw (none, drop-append-le n first later (omega arith)) refl
passed_along n first later (inr beyond) =
    let k = n - length first in
    let is : n ≡ length first + k = omega arith in
    rw (drop_of_length-le first beyond) (sym (ap (λ m. drop m (first ++ later)) is ∙ drop-append-add first later k))

abbrev pub unread : ℕ → ℕ → List ℕ → Unread
unread greatest passed bytes = record { greatest = greatest; passed = passed; bytes = bytes }

-- no front spells anything while some bytes are to be passed over
pub none_yet : (greatest passed : ℕ) (cursor : Option Cursor) (ahead : Ahead) (bytes : List ℕ) → IsKept greatest passed cursor ahead bytes → 0 < passed → BeginsWithNone greatest (drop passed bytes)
none_yet greatest passed cursor ahead bytes kept some =
    let none : bytes ≡ [] = elim kept.settled as (λ _. bytes ≡ []) [
      | inl zero ↦ absurd (omega arith)
      | inr all ↦ all
    ] in
    let nothing : drop passed bytes ≡ [] = ap (drop passed) none ∙ drop-nil passed in
    subst (BeginsWithNone greatest) (sym nothing) (record { none = none_in greatest [] tt (omega arith) })

-- what was found is what is left, where turns leave it whole
pub left_found : (greatest taken passed : ℕ) (bytes : List ℕ) (found : Option (ProtocolUnit × ℕ))
    → IfSome found (λ p. (passed ≡ 0) × IsSpelled greatest p bytes)
    → ((unit : ProtocolUnit) (len : ℕ) → IsSpelled greatest (unit, len) bytes → left_of unit taken ≡ unit) → IfSome found (λ p. (passed ≡ 0) × IsLeft greatest taken p bytes)
left_found greatest taken passed bytes None h whole = tt
left_found greatest taken passed bytes (Some (unit, len)) h whole = (h.0, record { unit = unit; spelled = h.1; left = sym (whole unit len h.1) })

-- it doesn't matter whether what is to be passed over is dropped before more bytes come
pub pushed_settled : (u : Unread) (more : List ℕ) → pushed (settled u) more ≡ pushed u more
pushed_settled u more =
    let count : (u.passed - length u.bytes) - length (drop u.passed u.bytes ++ more) ≡ u.passed - length (u.bytes ++ more) =
    omega (arith, length-append u.bytes more, length-append (drop u.passed u.bytes) more, length-drop u.passed u.bytes) in
    ap (λ n. unread u.greatest n (drop (u.passed - length u.bytes) (drop u.passed u.bytes ++ more))) count
    ∙ ap (unread u.greatest (u.passed - length (u.bytes ++ more))) (passed_along u.passed u.bytes more (cases_lt u.passed (length u.bytes)))

-- pieces that come one after another leave what they leave joined
pub pushed_twice : (u : Unread) (piece more : List ℕ) → pushed (pushed u piece) more ≡ pushed u (piece ++ more)
pushed_twice u piece more =
    pushed_settled (unread u.greatest u.passed (u.bytes ++ piece)) more
    ∙ ap (λ bytes. settled (unread u.greatest u.passed bytes)) (append_assoc u.bytes piece more)

-- of what is settled no byte is unread while some are to be passed over
settled_stays : (u : Unread) → (u.passed < length u.bytes) ⊎ (length u.bytes ≤ u.passed) → IsSettled (settled u)
settled_stays u (inl within) = inl (omega arith)
settled_stays u (inr beyond) = inr (drop_of_length-le u.bytes beyond)

-- and no bytes change nothing of it
pub pushed_none : (u : Unread) → IsSettled u → pushed u [] ≡ u
pushed_none u (inl none) =
    let nothing : u.passed - length u.bytes ≡ 0 = omega arith in
    rw (append-nil u.bytes, nothing, none) refl
pushed_none u (inr nothing) =
    let all : u.passed - 0 ≡ u.passed = omega arith in
    rw (append-nil u.bytes, nothing, drop-nil u.passed) (ap (λ n. unread u.greatest n []) all)

-- so do any number of pieces
pub pushed_all : (u : Unread) (pieces : List (List ℕ)) → IsSettled u → fold pushed u pieces ≡ pushed u (concat pieces)
pushed_all u [] is = sym (pushed_none u is)
pushed_all u (piece ∷ pieces) is =
    let all : Unread = record u { bytes = u.bytes ++ piece } in
    pushed_all (pushed u piece) pieces (settled_stays all (cases_lt all.passed (length all.bytes))) ∙ pushed_twice u piece (concat pieces)

-- a feed of no bytes
pub kept_none : (greatest passed : ℕ) → IsKept greatest passed None (Searched 0) []
kept_none greatest passed = record { settled = inr refl; points = tt; knows = (tt, omega arith, omega arith) }

-- a cursor stays when more come
pub cursor_pushed : (greatest : ℕ) (cursor : Option Cursor) (bytes more : List ℕ) → IfSome cursor (λ c. PointsInto greatest c bytes) → IfSome cursor (λ c. PointsInto greatest c (bytes ++ more))
cursor_pushed greatest None bytes more is = tt
cursor_pushed greatest (Some cursor) bytes more is = points_more greatest cursor bytes more is

-- A piece has come of which the first bytes, so many, are passed over.
module _ (passed skipped : ℕ) (bytes piece kept : List ℕ) (settled : (passed ≡ 0) ⊎ (bytes ≡ [])) (behind : kept ≡ drop skipped piece)
    (all : length piece ≤ passed → skipped ≡ length piece) (some : passed ≤ length piece → skipped ≡ passed) where
  no_bytes : bytes ≡ [] → (passed < length piece) ⊎ (length piece ≤ passed) → (passed - skipped ≡ 0) ⊎ (bytes ++ kept ≡ [])
  no_bytes none (inl less) = inl (omega (arith, some))
  no_bytes none (inr more) = inr (ap (λ b. b ++ kept) none ∙ behind ∙ drop_of_length-le piece (omega (arith, all more)))

  pub settled_pushed : (passed - skipped ≡ 0) ⊎ (bytes ++ kept ≡ [])
  settled_pushed = elim settled as (λ _. (passed - skipped ≡ 0) ⊎ (bytes ++ kept ≡ [])) [
    | inl zero ↦ inl (omega arith)
    | inr none ↦ no_bytes none (cases_lt passed (length piece))
  ]

  kept_all : bytes ≡ [] → (passed < length piece) ⊎ (length piece ≤ passed) → kept ≡ drop passed piece
  kept_all none (inl less) = behind ∙ ap (λ n. drop n piece) (some (omega arith))
  kept_all none (inr more) = behind ∙ drop_of_length-le piece (omega (arith, all more)) ∙ sym (drop_of_length-le piece more)

  count_is : passed - skipped ≡ passed - length (bytes ++ piece)
  count_is = elim settled as (λ _. passed - skipped ≡ passed - length (bytes ++ piece)) [
    | inl zero ↦ omega arith
    | inr none ↦ elim (cases_lt passed (length piece)) as (λ _. passed - skipped ≡ passed - length (bytes ++ piece)) [
      | inl less ↦ omega (arith, some (omega arith), length-append bytes piece, ap length none)
      | inr more ↦ omega (arith, all more, length-append bytes piece, ap length none)
    ]
  ]

  kept_is : bytes ++ kept ≡ drop passed (bytes ++ piece)
  kept_is = elim settled as (λ _. bytes ++ kept ≡ drop passed (bytes ++ piece)) [
    | inl zero ↦
        let first : skipped ≡ 0 = omega (arith, some (omega arith)) in
        ap (λ k. bytes ++ k) (behind ∙ ap (λ n. drop n piece) first) ∙ sym (ap (λ n. drop n (bytes ++ piece)) zero)
    | inr none ↦ rw none (kept_all none (cases_lt passed (length piece)))
  ]

  pub view_pushed : (greatest : ℕ) (new : List ℕ) → new ≡ bytes ++ kept → unread greatest (passed - skipped) new ≡ pushed (unread greatest passed bytes) piece
  view_pushed greatest new is = rw (is, count_is, kept_is) refl

-- a unit was read, and so many of the bytes that it passes over have come
pub view_read : (greatest : ℕ) (u : Unread) (old new : List ℕ) (len passed dropped : ℕ) → u ≡ unread greatest 0 old → new ≡ drop (len + dropped) old
    → len ≤ length old → (passed ≤ length old - len → dropped ≡ passed) → (length old - len ≤ passed → dropped ≡ length old - len) → unread greatest (passed - dropped) new ≡ read u len passed
view_read greatest u old new len passed dropped is behind inside some all =
    let left : length (drop len old) ≡ length old - len = length-drop len old in
    let count : passed - dropped ≡ passed - length (drop len old) = elim (cases_lt passed (length old - len)) as (λ _. passed - dropped ≡ passed - length (drop len old)) [
      | inl less ↦ omega (arith, some (omega arith), left)
      | inr more ↦ omega (arith, all more, left)
    ] in
    let rest : new ≡ drop passed (drop len old) = elim (cases_lt passed (length old - len)) as (λ _. new ≡ drop passed (drop len old)) [
      | inl less ↦ behind ∙ ap (λ n. drop (len + n) old) (some (omega arith)) ∙ sym (drop-drop passed len old)
      | inr more ↦
          let whole : drop (len + dropped) old ≡ [] = drop_of_length-le old (omega (arith, all more)) in
          behind ∙ whole ∙ sym (drop_of_length-le (drop len old) (omega (arith, left)))
    ] in
    rw (is, count, rest) refl
