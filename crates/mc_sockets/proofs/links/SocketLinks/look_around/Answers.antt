use Rattle.std.proofs.Common.{ap}
use Rattle.std.specs.Prelude.{⊤, None}
use Rattle.mc_sockets.proofs.PollLemmas.{looked_around}
use Rattle.mc_sockets.proofs.links.SocketLinks.look_around.Goals as goal

pub returns-clause-looks : goal.returns-clause-looks
returns-clause-looks g c =
    let old = c.args.self.now in
    let mid = c.end_idle.new.self in
    let new = c.ask_unheard.new.self in
    looked_around (λ _. None) (λ _ _ _. ⊤) old.quiet c.args.before c.args.now old.watch mid.watch new.watch old.unheard mid.unheard new.unheard
    old.seats mid.seats new.seats old.common mid.common new.common c.end_idle.ensures.looks c.ask_unheard.ensures.looks
    (ap (λ links. links.watch) c.ask_unheard.ensures.same) (ap (λ links. links.unheard) c.end_idle.ensures.same)
