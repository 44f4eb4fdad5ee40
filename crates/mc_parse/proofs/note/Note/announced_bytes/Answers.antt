use Rattle.std.proofs.Common.{◌∙◌, sym, arith}
use Rattle.mc_parse.proofs.AnnouncingLemmas.{announces_block, announces_no_block, announces_fault}
use Rattle.mc_parse.proofs.note.Note.announced_bytes.Goals as goal

pub returns-in-Some : goal.returns-in-Some
returns-in-Some c = λ greatest unread is.
    announces_block greatest unread c.args.self.now c.in-Ok.noted c.in-Some.len c.saturating_add.result c.saturating_add-in-Some.result c.in-Ok.is
    (sym c.announced_block.ensures ∙ c.in-Some.is) (omega arith) c.saturating_add.ensures c.saturating_add-in-Some.ensures is

pub returns-in-None : goal.returns-in-None
returns-in-None c = λ greatest unread is.
    announces_no_block greatest unread c.args.self.now c.in-Ok.noted c.in-Ok.is (sym c.announced_block.ensures ∙ c.in-None.is) is

pub returns-in-Err : goal.returns-in-Err
returns-in-Err c = λ greatest unread is. announces_fault greatest unread c.args.self.now c.in-Err.field-0 c.in-Err.is is
