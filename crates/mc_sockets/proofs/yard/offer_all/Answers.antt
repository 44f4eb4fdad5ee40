use Rattle.mc_sockets.proofs.yard.offer_all.Goals as goal

pub returns : goal.returns
returns g c = record {
  result = c.flush.result;
  flushes = c.flush.ensures.flushes;
  offered = record { takes = c.flush.ensures.asks; offers = c.flush.ensures.offers };
}
