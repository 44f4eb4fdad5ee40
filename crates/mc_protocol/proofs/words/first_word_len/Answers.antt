use Rattle.std.proofs.Common.{◌∙◌, ap, sym, drop, ◌+◌}
use Rattle.std.proofs.lemmas.List.{drop-drop}
use Rattle.mc_protocol.specs.Words.{words}
use Rattle.mc_protocol.proofs.WordLemmas.{words-rest}
use Rattle.mc_protocol.proofs.words.first_word_len.Goals as goal

pub returns-clause-rest : goal.returns-clause-rest
returns-clause-rest c =
    let text = c.args.text.now in
    let rest = c.split_at.result.1.now in
    let len = c.key_len.result in
    ap words (ap (λ n. drop (n + len) text) c.split_at.ensures.front_len ∙ sym (drop-drop len c.spaces.result text) ∙ ap (drop len) (sym c.split_at.ensures.back))
    ∙ words-rest text rest c.spaces.result c.spaces.ensures.len c.split_at.ensures.back len c.key_len.ensures
