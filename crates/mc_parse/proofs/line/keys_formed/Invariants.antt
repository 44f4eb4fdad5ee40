use Rattle.std.proofs.Common.{◌≡◌, ◌+◌, length}
use Rattle.std.specs.List.{list_all}
use Rattle.mc_protocol.specs.Words.{words}
use Rattle.mc_parse.specs.Lines.{is_key}
use Rattle.mc_parse.proofs.line.keys_formed.Given as goal

-- the words that are left, of which the others were tested and counted
abbrev pub invariant-loop-word : goal.invariant-loop-word
invariant-loop-word l =
    (l.count + length l.word-iterator ≡ length (words l.fn.text)) ×
    (list_all is_key (words l.fn.text) ≡ list_all is_key l.word-iterator)
