use Rattle.std.proofs.Common.{sym, ◌∙◌}
use Rattle.mc_displace.proofs.MoveLemmas.{within_reach}
use Rattle.mc_displace.proofs.displace.shift.Goals as goal

pub put_within-requires-clause-within : goal.put_within-requires-clause-within
put_within-requires-clause-within g c =
    within_reach _ _ _ _ _ _ _ c.requires.movable c.remove-entry.ensures.here (c.requires.home c.remove-entry.result c.remove-entry.ensures.here) c.remove-entry.ensures.near.0

pub returns-clause-content : goal.returns-clause-content
returns-clause-content g c = c.put_within.ensures.content ∙ sym c.remove-entry.ensures.back
