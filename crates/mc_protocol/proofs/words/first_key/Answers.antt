use Rattle.std.proofs.Common.{◌∙◌, sym, arith, eqb-true}
use Rattle.mc_protocol.proofs.WordLemmas.{words-none, words-some}
use Rattle.mc_protocol.proofs.words.first_key.Goals as goal

pub returns-then-is_empty : goal.returns-then-is_empty
returns-then-is_empty c = words-none _ _ _ c.spaces.ensures.len c.split_at.ensures.back (eqb-true _ 0 (sym c.is_empty.ensures ∙ c.if-is_empty.true))

pub returns : goal.returns
returns c =
    words-some _ _ _ c.spaces.ensures.len c.split_at.ensures.back _ _ _ (grind (arith, c.is_empty.ensures)) c.key_len.ensures c.split_at-2.ensures.front c.split_at-2.ensures.back
