use Rattle.std.proofs.Common.{◌+◌, ap, refl}
use Rattle.mc_command.proofs.PlainLemmas.{items_of-put}
use Rattle.mc_command.proofs.RoomLemmas.{shown}
use Rattle.mc_command.proofs.plain.PlainStore.insert.Goals as goal

pub returns-clause-ok : goal.returns-clause-ok
returns-clause-ok c =
    let i = c.self.inside in
    rw (← c.self.view_is)
    (ap (shown i.greatest i.limit i.cut (i.next_unique + 1) i.pages)
    (items_of-put i.items.entries c.insert.new.self.entries c.args.key c.args.key.items c.of-item.result _ c.in_ok-insert.ensures.entries refl c.of-item.ensures))
