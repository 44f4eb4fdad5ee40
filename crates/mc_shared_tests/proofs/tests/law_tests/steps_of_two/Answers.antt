use Rattle.mc_shared.specs.History.{start_of}
use Rattle.mc_shared_tests.proofs.LawUses.{steps_of_two}
use Rattle.mc_shared_tests.proofs.tests.law_tests.steps_of_two.Goals as goal

pub returns : goal.returns
returns g c =
    let first = c.in_ok-first.ensures.ok in
    let second = c.in_ok-second.ensures.ok in
    steps_of_two c.callers_share_a_plain_store.ensures.two (start_of g.K.KeyHash.hash_of c.args.shared.now.began)
    (record { step = c.args.steps.0.now; now = c.args.now; reply = c.in_ok-first.first }) (record { step = c.args.steps.1.now; now = c.args.now; reply = c.in_ok-second.second })
    c.args.me.past c.caller-other.new.maker.past c.caller-other.result.past c.step.new.caller.past c.step-2.new.caller.past c.join.new.into.past
    c.requires.own.1 c.caller-other.ensures.kept.1 c.caller-other.ensures.new.1 first.0 second.0 c.join.ensures.past.1 c.join.ensures.kept
