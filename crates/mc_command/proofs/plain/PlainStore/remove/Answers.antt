use Rattle.std.proofs.Common.{ap}
use Rattle.mc_command.proofs.ItemLemmas.{items_of-removed}
use Rattle.mc_command.proofs.RoomLemmas.{shown}
use Rattle.mc_command.proofs.plain.PlainStore.remove.Goals as goal

pub returns : goal.returns
returns c =
    let i = c.self.inside in
    rw (← c.self.view_is)
    (ap (shown i.greatest i.limit i.cut i.next_unique i.pages) (items_of-removed _ _ c.args.key.now (λ k. c.remove.ensures.updates.0 k)))
