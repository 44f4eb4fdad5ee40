use Rattle.std.proofs.Common.{refl}
use Rattle.mc_sockets.proofs.SeatLemmas.{done_at, none_at}
use Rattle.mc_sockets.proofs.link_table.LinkTable.end_whose.Goals as goal

pub returns-in-Some-clause-ends : goal.returns-in-Some-clause-ends
returns-in-Some-clause-ends g c =
    done_at _ _ _ _ _ c.end.new.self _ _ c.args.self.now.places.ok.0 (c.in-Some.ensures.variant.0 refl) c.in-Some.ensures.value c.end.ensures.happens refl refl

pub returns-in-None-clause-ends : goal.returns-in-None-clause-ends
returns-in-None-clause-ends g c = none_at _ _ _ _ _ c.args.self.now.places.ok.0 c.in-None.ensures.variant.1 refl
