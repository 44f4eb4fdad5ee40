use Rattle.std.proofs.Common.{◌∙◌, ◌+◌, ap, sym, arith, eqb-true, drop, length}
use Rattle.std.proofs.lemmas.List.{drop-drop, length-take}
use Rattle.mc_protocol.proofs.WordLemmas.{words-none, words-some, ends_in}
use Rattle.mc_protocol.proofs.words.first_word.Goals as goal

pub returns-then-is_empty : goal.returns-then-is_empty
returns-then-is_empty c = words-none _ _ _ c.spaces.ensures.len c.split_at.ensures.back (eqb-true _ 0 (sym c.is_empty.ensures ∙ c.if-is_empty.true))

pub returns : goal.returns
returns c = (
  words-some _ _ _ c.spaces.ensures.len c.split_at.ensures.back _ _ _ (grind (arith, c.is_empty.ensures)) c.word_len.ensures c.split_at-2.ensures.front c.split_at-2.ensures.back,
  ends_in (c.spaces.result + c.word_len.result) c.args.text.now c.split_at-2.result.1.now
      (omega (arith, c.spaces.ensures.within, c.split_at.ensures.back_len, c.split_at-2.ensures.front_len, ap length c.split_at-2.ensures.front, length-take c.word_len.result c.split_at.result.1.now))
      (c.split_at-2.ensures.back ∙ ap (drop c.word_len.result) c.split_at.ensures.back ∙ drop-drop c.word_len.result c.spaces.result c.args.text.now),
)
