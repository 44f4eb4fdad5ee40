-- A parsed line, as it is kept.
use Rattle.std.specs.Prelude.{◌≡◌, ◌≤◌, ◌<◌, ◌+◌, ℕ, List, length, take, drop, Result, Ok, Err, Option, IfSome}
use Rattle.std.specs.Result.{IfOk}
use Rattle.std.specs.Str.Lines.{strip_carriage_return}
use Rattle.mc_protocol.specs.Words.{words}
use Rattle.mc_protocol.specs.Commands.{mapped, retrieval_in}
use Rattle.mc_protocol.specs.declared.command.CommandOf.{CommandOf}
use Rattle.mc_protocol.specs.declared.fault.LineFault.{LineFault}
use Rattle.mc_parse.specs.declared.note.Span.{Span}
use Rattle.mc_parse.specs.declared.note.KeySpan.{KeySpan}
use Rattle.mc_parse.specs.declared.note.Note.{Note}
use Rattle.mc_parse.specs.Lines.{Line, meaning}
use Rattle.mc_parse.specs.Units.{IsLine}

-- a command parsed from a line's text
abbrev pub Noted : Type 0
Noted = CommandOf Span KeySpan ℕ

-- the bytes of a span
abbrev pub at : (text : List ℕ) → Span → List ℕ
at text span = take span.len (drop span.from text)

-- the keys of a retrieval
abbrev pub keys_at : (text : List ℕ) → KeySpan → List (List ℕ)
keys_at text keys = words (drop keys.from text)

-- the command that was parsed from a text
abbrev pub read : (text : List ℕ) → Noted → Line
read text noted = mapped (at text) (keys_at text) (λ len. len) noted

-- the same, or the fault of the line
abbrev pub said : (text : List ℕ) → Result Noted LineFault → Result Line LineFault
said text (Ok noted) = Ok (read text noted)
said text (Err fault) = Err fault

-- keys are in the text, and are counted right
abbrev pub FitIn : KeySpan → (text : List ℕ) → Type 0
FitIn keys text = (keys.from ≤ length text) × (keys.count ≡ length (keys_at text keys))

-- and so do those of a command
abbrev pub Fits : Noted → (text : List ℕ) → Type 0
Fits noted text = IfSome (retrieval_in noted) (λ asked. FitIn asked.1 text)

-- the line whose line feed is at this place has this meaning
abbrev pub Says : (greatest : ℕ) → (bytes : List ℕ) → (end : ℕ) → Result Line LineFault → Type 0
Says greatest bytes end line = meaning greatest (words (strip_carriage_return (take end bytes))) ≡ line

-- the first line of the bytes is parsed
pub record IsNoted (greatest : ℕ) (note : Note) (bytes : List ℕ) : Type 0 where
  pub inside : note.end < length bytes
  pub within : note.to ≤ note.end
  pub line : IsLine (take (note.end + 1) bytes) (take note.end bytes)
  pub text : take note.to bytes ≡ strip_carriage_return (take note.end bytes)
  pub says : said (take note.to bytes) note.said ≡ meaning greatest (words (take note.to bytes))
  pub fits : IfOk note.said (λ noted. Fits noted (take note.to bytes))
