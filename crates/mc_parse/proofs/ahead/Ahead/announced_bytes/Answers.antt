use Rattle.std.proofs.Common.{subst}
use Rattle.mc_parse.specs.Aheads.{Knows}
use Rattle.mc_parse.proofs.AnnouncingLemmas.{announces_none}
use Rattle.mc_parse.proofs.ahead.Ahead.announced_bytes.Goals as goal

pub returns-in-Searched-clause-exact : goal.returns-in-Searched-clause-exact
returns-in-Searched-clause-exact c =
    λ greatest unread knows. announces_none greatest unread (subst (λ a. Knows greatest a unread) c.in-Searched.is knows).0
