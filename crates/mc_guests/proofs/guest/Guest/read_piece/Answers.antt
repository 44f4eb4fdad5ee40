use Rattle.std.proofs.Common.{◌∙◌, subst, sym}
use Rattle.mc_guests.specs.Links.{GivesPiece}
use Rattle.mc_guests.proofs.VisitLemmas.{reads_nothing}
use Rattle.mc_guests.proofs.guest.Guest.read_piece.Goals as goal

pub returns-then-count-eq0-clause-reads : goal.returns-then-count-eq0-clause-reads
returns-then-count-eq0-clause-reads g c =
    let came = c.in-Ok-Bytes.ensures.ok in
    let link = g.L.Link.shown c.self.inside.link in
    let later = g.L.Link.shown c.feed_from.new.source.link.now in
    let gives = subst (λ answer. GivesPiece link came.piece answer later) c.in-Ok-Bytes.field-0-is came.gave.1 in
    reads_nothing c.self.inside.session c.feed_from.new.self link later c.self.inside.last c.args.self.now came.piece c.self.view_is c.requires came.becomes
    (sym c.if-count-eq0.true ∙ gives.0) gives.1 gives.2
