use Rattle.std.proofs.Common.{◌∙◌, sym, ap, [], Ok, ◌≡◌, subst, ◌+◌}
use Rattle.mc_parse.specs.Units.{Request, with_block}
use Rattle.mc_parse.specs.Peeks.{IsSpelled}
use Rattle.mc_parse.specs.Notes.{read, said}
use Rattle.mc_parse.proofs.NoteLemmas.{spells_alone, says_text, block_stays}
use Rattle.mc_parse.proofs.note.Note.peek.Goals as goal

pub returns-in-None-clause-found : goal.returns-in-None-clause-found
returns-in-None-clause-found c = λ greatest is.
    let text = c.split_at.result.0.now in
    let noted = c.in-Ok.noted in
    let says = says_text greatest c.args.self.now c.args.unread.now is ∙ ap (λ t. said t c.args.self.now.said) (sym c.split_at.ensures.front) ∙ ap (said text) c.in-Ok.is in
    let none = block_stays text noted ∙ sym c.announced_block.ensures ∙ c.in-None.is in
    subst (λ k. IsSpelled greatest (Request k, c.args.self.now.end + 1) c.args.unread.now) (sym (c.lend.ensures ∙ ap (with_block (read text noted)) c.of.ensures))
    (spells_alone greatest c.args.unread.now c.args.self.now.end (read text noted) is.inside is.line says none)
