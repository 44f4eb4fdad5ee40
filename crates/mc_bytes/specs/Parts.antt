-- Parts of memory, one behind another.
use Rattle.std.specs.Prelude.{◌≡◌, ◌≤◌, ◌^◌, ℕ, List, [], ◌++◌, length}
use Rattle.std.specs.List.{concat}

-- The first of these bytes: none only if there are none.
pub record IsFront (all front : List ℕ) : Type 0 where
  pub rest : List ℕ
  pub parts : all ≡ front ++ rest
  pub some : front ≡ [] → all ≡ []

-- a first part and the others have this number of bytes together; the first is empty only if there
-- are no others
pub record AreParts (first : List ℕ) (others : List (List ℕ)) (left : ℕ) : Type 0 where
  pub counted : left ≡ length (first ++ concat others)
  pub some : first ≡ [] → others ≡ []
  pub few : left ≤ 2 ^ 40
