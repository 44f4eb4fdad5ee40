use Rattle.std.proofs.Common.{refl}
use Rattle.mc_sockets.proofs.PlaceLemmas.{asks_or_closes}
use Rattle.mc_sockets.proofs.SeatLemmas.{match_true, match_false}
use Rattle.mc_sockets.proofs.link_record.LinkRecord.ask_or_close.Goals as goal

pub returns-then-lingers_too_long : goal.returns-then-lingers_too_long
returns-then-lingers_too_long g c =
    asks_or_closes _ _ _ _ _ _ _ _ _ c.lingers_too_long.new.self c.lingers_too_long.ensures.number refl _ c.lingers_too_long.ensures.finds
    (match_true _ _ _ c.if-lingers_too_long.true (refl, (refl, refl)))

pub returns : goal.returns
returns g c =
    asks_or_closes _ _ _ _ _ _ _ _ _ c.lingers_too_long.new.self c.lingers_too_long.ensures.number c.ask_if_unheard.ensures.number _ c.lingers_too_long.ensures.finds
    (match_false _ _ _ c.if-lingers_too_long.false c.ask_if_unheard.ensures)
