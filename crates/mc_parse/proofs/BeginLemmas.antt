-- Bytes begin with a unit, or no front of them spells anything.
use Rattle.std.proofs.Common.{◌≡◌, ◌<◌, ◌≤◌, ◌+◌, ℕ, true, false, ◌⊎◌, inl, inr, List, [], ◌∷◌, ◌++◌, length, take, drop, refl, sym, ap, ◌∙◌, subst, arith, Result, Ok, Err, Option}
use Rattle.std.proofs.Common.{Some, None, length-append, length-drop, if◌then◌else◌}
use Rattle.std.proofs.Math.Seq.{take-append_seam, take-append-add}
use Rattle.std.proofs.lemmas.Bool.{cases_eq, cases_lt}
use Rattle.std.proofs.lemmas.List.{take_all, take-append-drop, length-take, length-take-le, append_assoc}
use Rattle.std.specs.Str.{bytes_eq}
use Rattle.std.specs.Str.Lines.{strip_carriage_return}
use Rattle.mc_protocol.specs.Words.{words}
use Rattle.mc_protocol.specs.declared.fault.LineFault.{LineFault}
use Rattle.mc_protocol.specs.declared.fault.LineFault.TheVariants.{BadChunk}
use Rattle.mc_protocol.specs.Commands.{block_in}
use Rattle.mc_parse.specs.Lines.{Line, meaning}
use Rattle.mc_parse.specs.Units.{ProtocolUnit, Request, Fault, LongLine, IsLine, CompletesBy, Completes, with_block, stored, SpellsLine, Spells}
use Rattle.mc_parse.specs.Peeks.{BeginsWithNone, IsSpelled}
use Rattle.mc_parse.proofs.UnitLemmas.{NoFeed, none_in, none_line, spells_bare, spells_block}

-- nothing is spelled, or something is
abbrev pub Begins : ℕ → List ℕ → Type 0
Begins greatest bytes = BeginsWithNone greatest bytes ⊎ ((unit : ProtocolUnit) × (n : ℕ) × IsSpelled greatest (unit, n) bytes)

-- the text before the first line feed, and what follows it
pub record FirstFeed (bytes : List ℕ) : Type 0 where
  pub text : List ℕ
  pub after : List ℕ
  pub one_line : NoFeed text
  pub parts : bytes ≡ text ++ 10 ∷ after

-- with one byte more in front
one_more : (b : ℕ) (bytes : List ℕ) → (b ≡ 10) ⊎ (b ≡ 10 → ⊥) → NoFeed bytes ⊎ FirstFeed bytes → NoFeed (b ∷ bytes) ⊎ FirstFeed (b ∷ bytes)
one_more b bytes (inl is) rest = inr (record { text = []; after = bytes; one_line = tt; parts = ap (λ k. k ∷ bytes) is })
one_more b bytes (inr isnt) (inl none) = inl (isnt, none)
one_more b bytes (inr isnt) (inr some) = inr (record { text = b ∷ some.text; after = some.after; one_line = (isnt, some.one_line); parts = ap (λ k. b ∷ k) some.parts })

-- bytes have a first line feed, or none
first_feed : (bytes : List ℕ) → NoFeed bytes ⊎ FirstFeed bytes
first_feed [] = inl tt
first_feed (b ∷ bytes) = one_more b bytes (cases_eq b 10) (first_feed bytes)

-- the bytes up to the line feed are a line
line_here : (bytes text after : List ℕ) → bytes ≡ text ++ 10 ∷ after → NoFeed text → length text ≤ 65536 → IsLine (take (length text + 1) bytes) (take (length text) bytes)
line_here bytes text after parts none short =
    let front : take (length text) bytes ≡ text = ap (take (length text)) parts ∙ take-append_seam text (10 ∷ after) in
    let line : take (length text + 1) bytes ≡ text ++ 10 ∷ [] = ap (take (length text + 1)) parts ∙ take-append-add text (10 ∷ after) 1 in
    record { ended = line ∙ ap (λ s. s ++ 10 ∷ []) (sym front); one_line = subst NoFeed (sym front) none; short = omega (arith, ap length front) }

-- what a line and a block complete is spelled by them
stored_spelled : (greatest : ℕ) (head : Line) (block ended front : List ℕ) → SpellsLine greatest (stored head block ended) front → Spells greatest (stored head block ended) front
stored_spelled greatest head block ended front =
    elim (bytes_eq ended (13 ∷ 10 ∷ [])) as
    (λ b. SpellsLine greatest (if b then Request (with_block head block) else Fault BadChunk) front → Spells greatest (if b then Request (with_block head block) else Fault BadChunk) front) [
      | true ↦ λ h. h
      | false ↦ λ h. h
    ]

-- The bytes begin with a line whose line feed is at end.
module _ (greatest : ℕ) (bytes : List ℕ) (end : ℕ) (inside : end < length bytes) (line : IsLine (take (end + 1) bytes) (take end bytes)) where
  abbrev said : Result Line LineFault
  said = meaning greatest (words (strip_carriage_return (take end bytes)))

  -- so many bytes are behind the line, and a block and its end have so many
  begins_block : (head : Line) (len : ℕ) → said ≡ Ok head → block_in head ≡ Some len → (length (drop (end + 1) bytes) < len + 2) ⊎ (len + 2 ≤ length (drop (end + 1) bytes)) → Begins greatest bytes
  begins_block head len is its (inl few) = inl (none_line greatest bytes end line head len is its few)
  begins_block head len is its (inr enough) =
      let rest = drop (end + 1) bytes in
      inr (
        stored head (take len rest) (take 2 (drop len rest)),
        end + 1 + (len + 2),
        record {
          within = omega (arith, length-drop (end + 1) bytes);
          spelled =
              stored_spelled greatest head (take len rest) (take 2 (drop len rest)) (take (end + 1 + (len + 2)) bytes)
              (spells_block greatest bytes end line head len rest (take len rest) (take 2 (drop len rest)) _ is its refl enough refl refl refl);
        },
      )

  begins_by : (head : Line) (its : Option ℕ) → said ≡ Ok head → block_in head ≡ its → Begins greatest bytes
  begins_by head None is its =
      let whole : CompletesBy (block_in head) head [] (Request (with_block head [])) = subst (λ n. CompletesBy n head [] (Request (with_block head []))) (sym its) (refl, refl) in
      inr (
        Request (with_block head []),
        end + 1,
        record { within = omega arith; spelled = spells_bare greatest bytes end line (Request (with_block head [])) (subst (λ m. Completes m [] (Request (with_block head []))) (sym is) whole) },
      )
  begins_by head (Some len) is its = begins_block head len is its (cases_lt (length (drop (end + 1) bytes)) (len + 2))

  begins_said : (m : Result Line LineFault) → said ≡ m → Begins greatest bytes
  begins_said (Err fault) is =
      inr (Fault fault, end + 1, record { within = omega arith; spelled = spells_bare greatest bytes end line (Fault fault) (subst (λ m. Completes m [] (Fault fault)) (sym is) (refl, refl)) })
  begins_said (Ok head) is = begins_by head (block_in head) is refl

  begins_line : Begins greatest bytes
  begins_line = begins_said said refl

-- no line feed is among the first 65537 bytes
begins_free : (greatest : ℕ) (bytes : List ℕ) → NoFeed (take 65537 bytes) → (length bytes < 65537) ⊎ (65537 ≤ length bytes) → Begins greatest bytes
begins_free greatest bytes none (inl short) = inl (record { none = none_in greatest bytes (subst NoFeed (take_all 65537 bytes (omega arith)) none) (omega arith) })
begins_free greatest bytes none (inr long) = inr (LongLine, 65537, record { within = long; spelled = (length-take-le 65537 bytes long, none) })

begins_from : (greatest : ℕ) (bytes : List ℕ) → NoFeed (take 65537 bytes) ⊎ FirstFeed (take 65537 bytes) → Begins greatest bytes
begins_from greatest bytes (inl none) = begins_free greatest bytes none (cases_lt (length bytes) 65537)
begins_from greatest bytes (inr first) =
    let parts : bytes ≡ first.text ++ 10 ∷ (first.after ++ drop 65537 bytes) = sym (take-append-drop 65537 bytes) ∙ ap (λ k. k ++ drop 65537 bytes) first.parts
    ∙ append_assoc first.text (10 ∷ first.after) (drop 65537 bytes) in
    let inside : length first.text < length bytes = omega (arith, ap length parts, length-append first.text (10 ∷ (first.after ++ drop 65537 bytes))) in
    let short : length first.text ≤ 65536 = omega (arith, ap length first.parts, length-append first.text (10 ∷ first.after), length-take 65537 bytes) in
    begins_line greatest bytes (length first.text) inside (line_here bytes first.text (first.after ++ drop 65537 bytes) parts first.one_line short)

-- bytes begin with a unit, or no front of them spells anything
pub begins : (greatest : ℕ) (bytes : List ℕ) → Begins greatest bytes
begins greatest bytes = begins_from greatest bytes (first_feed (take 65537 bytes))
