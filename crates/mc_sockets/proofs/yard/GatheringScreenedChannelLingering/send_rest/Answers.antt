use Rattle.std.proofs.Common.{subst, sym}
use Rattle.mc_sockets.specs.Offers.{OffersAll}
use Rattle.mc_sockets.proofs.yard.GatheringScreenedChannelLingering.send_rest.Goals as goal

pub returns : goal.returns
returns c = subst (λ left. OffersAll c.args.self.now left) (sym c.is_done.ensures) c.offer_all.ensures
