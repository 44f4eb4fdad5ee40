use Rattle.std.proofs.Common.{◌∙◌, sym, subst}
use Rattle.mc_parse.specs.Cursors.{IsFirst}
use Rattle.mc_parse.proofs.NoteLemmas.{SaysNoKeys, noted_whole, first_noted}
use Rattle.mc_parse.proofs.note.Note.cursor.Goals as goal

pub returns-in_default-clause-none : goal.returns-in_default-clause-none
returns-in_default-clause-none c = λ greatest taken unread is _ unit len h.
    noted_whole greatest c.args.self.now unread unit len taken is (subst SaysNoKeys (sym c.in_default.is) tt) h

pub returns-in_err-exptime-clause-none : goal.returns-in_err-exptime-clause-none
returns-in_err-exptime-clause-none c = λ greatest taken unread is _ unit len h.
    noted_whole greatest c.args.self.now unread unit len taken is (subst SaysNoKeys (sym c.in-Ok.is) (sym c.retrieval_in.ensures ∙ c.in_err-exptime.was)) h

pub returns-clause-some : goal.returns-clause-some
returns-clause-some c = λ greatest unread is.
    subst (λ cursor. IsFirst greatest cursor unread) (sym c.first.ensures)
    (first_noted greatest c.args.self.now unread c.in-Ok.noted
    (c.in_ok-exptime.exptime, c.in_ok-exptime.keys, c.in_ok-exptime.with_unique) c.in-Ok.is (sym c.retrieval_in.ensures ∙ c.in_ok-exptime.was) is)
