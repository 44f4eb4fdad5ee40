use Rattle.mc_shared.specs.History.{start_of}
use Rattle.mc_shared_tests.proofs.LawUses.{reads_with_note}
use Rattle.mc_shared_tests.proofs.tests.law_tests.reads_with_note.Goals as goal

pub returns : goal.returns
returns g c =
    let first = c.in_ok-first.ensures.ok in
    let second = c.in_ok-second.ensures.ok in
    reads_with_note c.no_read_goes_back.ensures.known c.who_heeds_a_note_comes_after.ensures.knows (start_of g.K.KeyHash.hash_of c.args.shared.now.began) c.of.result
    c.from_seconds_at_most-now.result c.in_ok-first.first c.in_ok-second.second
    c.args.giver.now.past c.step.new.caller.past c.note-note.result.past c.args.taker.now.past c.heed.new.taker.past c.step-2.new.caller.past c.requires.drawn
    first.0 c.note-note.ensures.note.1 c.heed.ensures.1 second.0 second.1
