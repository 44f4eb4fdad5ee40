use Rattle.mc_parse.specs.Peeks.{unit_of}
use Rattle.mc_parse.proofs.UnitLemmas.{found_only}
use Rattle.mc_parse.proofs.peek.peek_at.Goals as goal

pub returns-clause-only : goal.returns-clause-only
returns-clause-only c =
    let greatest = c.args.greatest in
    found_only greatest c.args.unread.now (unit_of c.peek.result) (c.peek.ensures.found greatest c.after-ahead.ensures) (c.peek.ensures.none greatest c.after-ahead.ensures)
