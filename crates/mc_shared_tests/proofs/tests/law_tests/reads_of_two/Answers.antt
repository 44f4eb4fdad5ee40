use Rattle.mc_shared.specs.History.{start_of}
use Rattle.mc_shared_tests.proofs.LawUses.{reads_of_two}
use Rattle.mc_shared_tests.proofs.tests.law_tests.reads_of_two.Goals as goal

pub returns : goal.returns
returns g c =
    let first = c.in_ok-first.ensures.ok in
    let second = c.in_ok-second.ensures.ok in
    reads_of_two c.no_read_goes_back.ensures.known (start_of g.K.KeyHash.hash_of c.args.shared.now.began) c.of.result c.from_seconds_at_most-now.result c.in_ok-first.first c.in_ok-second.second
    c.args.me.past c.step.new.caller.past c.args.other.now.past c.join.new.into.past c.step-2.new.caller.past c.requires.drawn
    first.0 c.join.ensures.past.1 second.0 second.1
