use Rattle.mc_parse.specs.Peeks.{unit_of}
use Rattle.mc_session.proofs.StateLemmas.{seen}
use Rattle.mc_session.proofs.TurnLemmas.{idle_found}
use Rattle.mc_session.proofs.session.SessionOf.is_idle.Goals as goal

pub returns-then-self : goal.returns-then-self
returns-then-self g c =
    rw (← c.self.view_is) (idle_found (seen c.self.inside.feed c.self.inside.taken (g.O.Outgoing.bytes c.self.inside.out) c.self.inside.is_open) (unit_of c.peek_after.result) c.is_more.result c.if-self.true c.peek_after.ensures.found c.peek_after.ensures.none c.is_more.ensures)
