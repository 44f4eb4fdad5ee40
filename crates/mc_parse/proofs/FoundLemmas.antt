-- A feed finds something exactly where a front spells it.
use Rattle.std.proofs.Common.{◌≡◌, ℕ, List, take, drop, refl, sym, ap, ◌∙◌, Option, Some, None, IfSome}
use Rattle.std.proofs.lemmas.List.{take-append-drop}
use Rattle.std.specs.Option.{option_map}
use Rattle.mc_parse.specs.Units.{ProtocolUnit}
use Rattle.mc_parse.specs.Peeks.{BeginsWithNone, IsSpelled, IsLeft, left_of}
use Rattle.mc_parse.proofs.UnitLemmas.{found_only}

-- a front that spells something is one
spelled_there : (greatest passed : ℕ) (bytes : List ℕ) (unit : ProtocolUnit) (len : ℕ) → passed ≡ 0 → IsSpelled greatest (unit, len) bytes → BeginsWithNone greatest (drop passed bytes) → ⊥
spelled_there greatest passed bytes unit len settled h none =
    none.none unit (take len bytes) (drop len bytes) (ap (λ n. drop n bytes) settled ∙ sym (take-append-drop len bytes)) h.spelled

-- where no front spells anything, nothing was found
pub found_none : (greatest passed : ℕ) (bytes : List ℕ) (found : Option (ProtocolUnit × ℕ)) → IfSome found (λ p. (passed ≡ 0) × IsSpelled greatest p bytes)
    → BeginsWithNone greatest (drop passed bytes) → found ≡ None
found_none greatest passed bytes None is none = refl
found_none greatest passed bytes (Some (unit, len)) is none = absurd (spelled_there greatest passed bytes unit len is.0 is.1 none)

-- and nothing that is left of a unit
pub left_none : (greatest taken passed : ℕ) (bytes : List ℕ) (found : Option (ProtocolUnit × ℕ))
    → IfSome found (λ p. (passed ≡ 0) × IsLeft greatest taken p bytes) → BeginsWithNone greatest (drop passed bytes) → found ≡ None
left_none greatest taken passed bytes None is none = refl
left_none greatest taken passed bytes (Some (left, len)) is none = absurd (spelled_there greatest passed bytes is.1.unit len is.0 is.1.spelled none)

-- whatever a front spells was found
pub found_whole : (greatest passed : ℕ) (bytes : List ℕ) (found : Option (ProtocolUnit × ℕ)) → IfSome found (λ p. (passed ≡ 0) × IsSpelled greatest p bytes)
    → (found ≡ None → BeginsWithNone greatest (drop passed bytes))
    → (unit : ProtocolUnit) (len : ℕ) → passed ≡ 0 → IsSpelled greatest (unit, len) bytes → found ≡ Some (unit, len)
found_whole greatest passed bytes None is none unit len settled h = absurd (spelled_there greatest passed bytes unit len settled h (none refl))
found_whole greatest passed bytes (Some found) is none unit len settled h = found_only greatest bytes (Some found) is.1 (λ e. absurd (cc)) unit len h

abbrev some : ProtocolUnit → ℕ → Option (ProtocolUnit × ℕ)
some unit len = Some (unit, len)

-- and what is left of it
pub left_whole : (greatest taken passed : ℕ) (bytes : List ℕ) (found : Option (ProtocolUnit × ℕ))
    → IfSome found (λ p. (passed ≡ 0) × IsLeft greatest taken p bytes) → (found ≡ None → BeginsWithNone greatest (drop passed bytes))
    → (unit : ProtocolUnit) (len : ℕ) → passed ≡ 0 → IsSpelled greatest (unit, len) bytes → found ≡ Some (left_of unit taken, len)
left_whole greatest taken passed bytes None is none unit len settled h = absurd (spelled_there greatest passed bytes unit len settled h (none refl))
left_whole greatest taken passed bytes (Some (left, n)) is none unit len settled h =
    let after : ProtocolUnit × ℕ → ProtocolUnit × ℕ = λ p. (left_of p.0 taken, p.1) in
    ap (λ (u : ProtocolUnit). some u n) is.1.left ∙ ap (option_map after) (found_only greatest bytes (Some (is.1.unit, n)) is.1.spelled (λ e. absurd (cc)) unit len h)
