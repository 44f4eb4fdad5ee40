-- For which events of a connection the poll is asked.
use Rattle.std.specs.Prelude.{◌≡◌, ◌+◌, ℕ, true, Result}
use Rattle.std.specs.declared.io.Error.{Error}
use Rattle.mio.specs.Interest.{is_readable, is_writable, is_priority}
use Rattle.mio.specs.declared.token.Token.{Token}
use Rattle.mio.specs.declared.interest.Interest.{Interest}

-- Input, room and urgent data of the connection at a place are asked for, under the token of that place, which is 1 more.
pub record AsksAll {G : Type 0} (asked : G → Token → Interest → Result (Unit {0}) Error → Type 0) (register : G) (at : ℕ)
    (result : Result (Unit {0}) Error) : Type 0 where
  pub interests : Interest
  pub input : is_readable interests ≡ true
  pub room : is_writable interests ≡ true
  pub urgent : is_priority interests ≡ true
  pub asks : asked register (record { 0 = at + 1 }) interests result
