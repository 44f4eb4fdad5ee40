-- The bytes of a source.
use Rattle.std.specs.Prelude.{ℕ, List}

-- a source wrote a piece with an answer, and this holds for the piece
pub record Brings {S A : Type 0} (gives : S → List ℕ → A → S → Type 0) (before after : S) (answer : A)
    (Becomes : List ℕ → Type 0) : Type 0 where
  pub piece : List ℕ
  pub gave : gives before piece answer after
  pub becomes : Becomes piece
