-- The first row with a word names what the search finds.
use Rattle.std.proofs.Common.{◌≡◌, ℕ, true, false, List, [], ◌∷◌, Option, Some, None, refl, if◌then◌else◌}
use Rattle.std.specs.List.{find}
use Rattle.std.specs.Option.{option_map}
use Rattle.std.specs.Str.{bytes_eq}
use Rattle.mc_parse.specs.declared.name.Name.{Name}
use Rattle.mc_parse.specs.Lines.{named}

pub named_found : {R : Type 0} (bytes_of : R → List ℕ) (rows : List (R × Name)) (word : List ℕ)
    → option_map (λ row. row.1) (find (λ row. bytes_eq (bytes_of row.0) word) rows) ≡ named bytes_of rows word
named_found bytes_of [] word = refl
named_found bytes_of (row ∷ rows) word =
    elim (bytes_eq (bytes_of row.0) word) as
    (λ b. option_map (λ row. row.1) (if b then Some row else find (λ row. bytes_eq (bytes_of row.0) word) rows) ≡ (if b then Some row.1 else named bytes_of rows word)) [
      | true ↦ refl
      | false ↦ named_found bytes_of rows word
    ]
