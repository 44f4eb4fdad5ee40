use Rattle.std.proofs.Common.{refl}
use Rattle.mc_sockets.proofs.PlaceLemmas.{asks_if_unheard}
use Rattle.mc_sockets.proofs.SeatLemmas.{match_true, match_false}
use Rattle.mc_sockets.proofs.link_record.LinkRecord.ask_if_unheard.Goals as goal

pub returns-then-not-is_unheard : goal.returns-then-not-is_unheard
returns-then-not-is_unheard g c =
    asks_if_unheard _ _ _ _ _ _ _ _ _ c.is_unheard.new.self (λ i. (c.is_unheard.ensures.same i).number) refl c.is_unheard.ensures.finds
    (match_false _ _ _ c.if-not-is_unheard.true (refl, refl)) (match_false _ _ _ c.if-not-is_unheard.true refl)

pub returns : goal.returns
returns g c =
    asks_if_unheard _ _ _ _ _ _ _ _ _ c.is_unheard.new.self (λ i. (c.is_unheard.ensures.same i).number) c.ask_since.ensures.asks.number c.is_unheard.ensures.finds
    (match_true _ _ _ c.if-not-is_unheard.false c.ask_since.ensures.asks) (match_true _ _ _ c.if-not-is_unheard.false c.ask_since.ensures.left)
