use Rattle.std.proofs.Common.{sym, refl}
use Rattle.mc_protocol.specs.Plain.{Plain}
use Rattle.mc_command.specs.Items.{items_of}
use Rattle.mc_command.proofs.ItemLemmas.{expiring-is, expiring-none}
use Rattle.mc_command.proofs.RoomLemmas.{shown}
use Rattle.mc_command.proofs.plain.PlainStore.set_expiry.Goals as goal
use Rattle.mc_command.proofs.plain.PlainStore.set_expiry.Goals.{in-Some, in_default}

pub returns : goal.returns
returns c =
    let i = c.self.inside in
    let old : Plain = shown i.greatest i.limit i.cut i.next_unique i.pages (items_of i.items.entries) in
    rw (← c.self.view_is)
    (elim c.match-get_mut.branch [
      | in-Some w ↦
          rw w.self-inside-is
          (expiring-is old i.items.entries (c.get_mut.follows.lender w.set_expiry.new.self).entries c.args.key.now w.in-Some.item.now w.set_expiry.new.self c.args.expiry refl
          (sym w.in-Some.ensures.value) (c.get_mut.follows.holds w.set_expiry.new.self).0 w.set_expiry.ensures)
      | in_default w ↦
          rw (w.self-inside-is, c.get_mut.follows.holds-at-none)
          (expiring-none old i.items.entries c.args.key.now c.args.expiry refl (sym w.in_default.ensures.value))
    ])
