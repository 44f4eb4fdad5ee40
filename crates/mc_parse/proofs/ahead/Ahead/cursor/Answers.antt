use Rattle.std.proofs.Common.{subst}
use Rattle.mc_parse.specs.Aheads.{Knows}
use Rattle.mc_parse.proofs.AheadLemmas.{long_whole}
use Rattle.mc_parse.proofs.ahead.Ahead.cursor.Goals as goal

pub returns-in-Searched-clause-none : goal.returns-in-Searched-clause-none
returns-in-Searched-clause-none c =
    λ greatest taken unread knows _ unit len is. long_whole greatest unread unit len taken (subst (λ a. Knows greatest a unread) c.in-Searched.is knows).0 is
