use Rattle.std.proofs.Common.{arith, ◌∙◌, sym, ap, ◌+◌, take, length-drop}
use Rattle.std.specs.Str.{bytes_eq}
use Rattle.mc_parse.specs.Units.{Request, with_block}
use Rattle.mc_parse.specs.Notes.{read}
use Rattle.mc_parse.proofs.UnitLemmas.{finds_block, none_line, stored_whole, stored_fault}
use Rattle.mc_parse.proofs.NoteLemmas.{block_stays}
use Rattle.mc_parse.proofs.peek.block_peeked.Goals as goal

pub returns-then-rest-len-clause-none : goal.returns-then-rest-len-clause-none
returns-then-rest-len-clause-none c =
    λ greatest says _. none_line greatest c.args.unread.now c.args.end c.requires.line _ c.args.len says
    (block_stays c.args.text.now c.args.noted.now ∙ c.requires.len) (omega (arith, c.if-rest-len.true, c.split_at.ensures.back_len, length-drop (c.args.end + 1) c.args.unread.now))

pub returns-then-eq-clause-found : goal.returns-then-eq-clause-found
returns-then-eq-clause-found c = λ greatest says. finds_block greatest c.args.unread.now c.args.end c.requires.line _ c.args.len c.split_at.result.1.now c.split_at-2.result.0.now
    c.split_at-3.result.0.now _ says (block_stays c.args.text.now c.args.noted.now ∙ c.requires.len) c.split_at.ensures.back c.if-rest-len.false
    c.split_at-2.ensures.front (c.split_at-3.ensures.front ∙ ap (take 2) c.split_at-2.ensures.back)
    (ap Request (c.lend.ensures ∙ ap (with_block (read c.args.text.now c.args.noted.now)) c.lent_with.ensures)
    ∙ stored_whole _ c.split_at-2.result.0.now c.split_at-3.result.0.now (sym (c.if-eq.ensures ∙ ap (bytes_eq c.split_at-3.result.0.now) c.as_slice.ensures)))

pub returns-else-eq-clause-found : goal.returns-else-eq-clause-found
returns-else-eq-clause-found c = λ greatest says. finds_block greatest c.args.unread.now c.args.end c.requires.line _ c.args.len c.split_at.result.1.now c.split_at-2.result.0.now
    c.split_at-3.result.0.now _ says (block_stays c.args.text.now c.args.noted.now ∙ c.requires.len) c.split_at.ensures.back c.if-rest-len.false
    c.split_at-2.ensures.front (c.split_at-3.ensures.front ∙ ap (take 2) c.split_at-2.ensures.back)
    (stored_fault _ c.split_at-2.result.0.now c.split_at-3.result.0.now (sym (c.if-eq.ensures ∙ ap (bytes_eq c.split_at-3.result.0.now) c.as_slice.ensures)))
