use Rattle.std.proofs.Common.{◌∙◌}
use Rattle.std.specs.declared.time.Duration.{Duration}
use Rattle.mc_sockets.specs.LinkTables.{Patrols}
use Rattle.mc_sockets.proofs.SeatLemmas.{looked_at}
use Rattle.mc_sockets.proofs.link_table.LinkTable.look_at_next.Goals as goal

pub returns-clause-looks : goal.returns-clause-looks
returns-clause-looks g c =
    looked_at g.R.Rests.sends (λ (limit : Duration). Patrols g.F.ReadinessCell.known c.args.patrol (record { limit = limit; before = c.args.before; now = c.args.now })) _ _ _ _ _ _
    c.args.self.now c.look_at-was_dropped.new.self _ _ _ c.limit-limit.ensures c.turn-at.ensures.turn (c.len.ensures ∙ c.args.self.now.places.ok.0)
    (λ i. (c.turn-at.ensures.next i).at) c.look_at-was_dropped.ensures c.send_rest_if.ensures
