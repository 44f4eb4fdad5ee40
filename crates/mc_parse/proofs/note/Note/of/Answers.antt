use Rattle.mc_parse.proofs.NoteLemmas.{noted}
use Rattle.mc_parse.proofs.note.Note.of.Goals as goal

pub returns : goal.returns
returns c =
    noted c.args.greatest c.args.unread.now c.split_at.result.0.now c.without_carriage_return-text.result.now c.args.end c.line_of.result c.requires.inside
    c.requires.line c.split_at.ensures.front c.without_carriage_return-text.ensures
    c.line_of.ensures.said c.line_of.ensures.fits
