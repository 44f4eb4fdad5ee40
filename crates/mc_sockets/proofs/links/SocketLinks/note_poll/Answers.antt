use Rattle.std.proofs.Common.{subst, rules, tests}
use Rattle.std.specs.Prelude.{⊤, None}
use Rattle.mio.specs.Events.{capacity}
use Rattle.mc_sockets.specs.LinkTables.{LooksAround}
use Rattle.mc_sockets.proofs.PollLemmas.{all_heard}
use Rattle.mc_sockets.proofs.links.SocketLinks.note_poll.Goals as goal

pub returns-then-heard-capacity-clause-looks : goal.returns-then-heard-capacity-clause-looks
returns-then-heard-capacity-clause-looks g c =
    let last = c.look_around.new.self in
    all_heard c.args.heard (capacity c.args.self.now.poller.events) c.args.self.now.polled c.in-Some.before _ _ (search rules) (search (tests, rules))
    (subst (λ stood. LooksAround (λ _. None) (λ _ _ _. ⊤) stood.quiet c.in-Some.before c.args.now stood.watch last.watch stood.unheard
    last.unheard stood.seats last.seats stood.common last.common)
    c.count_ticks.ensures.same c.look_around.ensures.looks)
