use Rattle.std.proofs.Common.{refl}
use Rattle.mc_sockets.proofs.SeatLemmas.{done_at, none_at}
use Rattle.mc_sockets.proofs.link_table.LinkTable.end_if_idle.Goals as goal

pub returns-in-Some : goal.returns-in-Some
returns-in-Some g c =
    done_at _ _ _ _ _ c.end_if_idle.new.self _ _ c.args.self.now.places.ok.0 (c.in-Some.ensures.variant.0 refl) c.in-Some.ensures.value c.end_if_idle.ensures refl refl

pub returns-in-None : goal.returns-in-None
returns-in-None g c = none_at _ _ _ _ _ c.args.self.now.places.ok.0 c.in-None.ensures.variant.1 (refl, refl)
