use Rattle.std.proofs.Common.{arith}
use Rattle.mc_sockets.proofs.SeatLemmas.{hears_link}
use Rattle.mc_sockets.proofs.link_table.LinkTable.hear.Goals as goal

pub returns : goal.returns
returns g c =
    hears_link _ _ _ _ _ _ _ _ _ c.token-token.ensures (λ none. absurd (grind (arith, none, c.if-token-eq0.false))) c.of.ensures (record {
      answer = c.hear_at-was_dropped.result;
      answers = c.hear_at-was_dropped.ensures;
      rest = c.send_rest_if.ensures;
    })
