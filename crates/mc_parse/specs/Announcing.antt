-- How long a request is, by its line: what is announced before its block comes.
use Rattle.std.specs.Prelude.{◌≡◌, ◌<◌, ◌+◌, ℕ, List, take, Result, Ok, Err, Option, Some, None}
use Rattle.std.specs.Str.Lines.{strip_carriage_return}
use Rattle.mc_protocol.specs.Words.{words}
use Rattle.mc_protocol.specs.Commands.{block_in}
use Rattle.mc_protocol.specs.declared.fault.LineFault.{LineFault}
use Rattle.mc_parse.specs.Lines.{Line, meaning}
use Rattle.mc_parse.specs.Units.{HasLine}

-- a line whose line feed is at `end`, a block of this length and the two bytes behind it; 0 without a block
abbrev pub whole_with : (end : ℕ) → Option ℕ → ℕ
whole_with end None = 0
whole_with end (Some len) = end + 3 + len

-- the length that a line announces, by its meaning
abbrev pub whole_by : (end : ℕ) → Result Line LineFault → ℕ
whole_by end (Err fault) = 0
whole_by end (Ok line) = whole_with end (block_in line)

-- the length of the first request, if its line has come and announces a block, and else 0
pub record Announces (greatest : ℕ) (bytes : List ℕ) (all : ℕ) : Type 0 where
  pub line : (end : ℕ) → HasLine end bytes → all ≡ whole_by end (meaning greatest (words (strip_carriage_return (take end bytes))))
  pub some : 0 < all → (end : ℕ) × HasLine end bytes
