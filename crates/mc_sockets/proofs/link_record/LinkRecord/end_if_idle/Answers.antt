use Rattle.std.proofs.Common.{refl}
use Rattle.mc_sockets.proofs.PlaceLemmas.{ends_if_idle}
use Rattle.mc_sockets.proofs.SeatLemmas.{match_true, match_false}
use Rattle.mc_sockets.proofs.link_record.LinkRecord.end_if_idle.Goals as goal

pub returns-then-not-has_waited : goal.returns-then-not-has_waited
returns-then-not-has_waited g c =
    ends_if_idle _ _ _ _ _ _ _ _ _ c.has_waited.new.self c.has_waited.ensures.number refl _ c.has_waited.ensures.finds
    (match_false _ _ _ c.if-not-has_waited.true (refl, refl)) (match_false _ _ _ c.if-not-has_waited.true refl)

pub returns : goal.returns
returns g c =
    ends_if_idle _ _ _ _ _ _ _ _ _ c.has_waited.new.self c.has_waited.ensures.number c.end.ensures.happens.number _ c.has_waited.ensures.finds
    (match_true _ _ _ c.if-not-has_waited.false c.end.ensures.happens)
    (match_true _ _ _ c.if-not-has_waited.false c.end.ensures.left)
