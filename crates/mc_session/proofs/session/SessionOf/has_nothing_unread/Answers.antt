use Rattle.std.proofs.Common.{sym, ◌∙◌}
use Rattle.std.proofs.lemmas.Bool.{eqb-true}
use Rattle.mc_session.proofs.FeedLemmas.{none_spelled}
use Rattle.mc_session.proofs.session.SessionOf.has_nothing_unread.Goals as goal

pub returns-clause-due : goal.returns-clause-due
returns-clause-due g c = λ nothing.
    rw (← c.self.view_is) (none_spelled c.self.inside.feed (sym c.held.ensures.unread ∙ eqb-true _ _ nothing))
