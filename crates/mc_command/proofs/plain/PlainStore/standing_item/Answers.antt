use Rattle.std.proofs.Common.{ap, sym, ◌∙◌, arith}
use Rattle.mc_protocol.specs.Plain.{alive}
use Rattle.mc_command.proofs.ItemLemmas.{get-items_of, alive-is, alive-dead}
use Rattle.mc_command.proofs.plain.PlainStore.standing_item.Goals as goal
use Rattle.mc_command.proofs.plain.PlainStore.standing_item.Goals.{in_default-via-in-Some+else-not-is_dead, in_default-via-in_default}

pub returns-in-Some : goal.returns-in-Some
returns-in-Some c =
    rw (← c.self.view_is)
    (sym (alive-is c.self.inside.cut c.args.now _ c.in-Some.item.now (get-items_of c.self.inside.items.entries c.args.key.now ∙ sym c.in-Some.ensures.value)
    (grind (arith, c.is_dead.ensures, c.if-not-is_dead.true))))

pub returns-in_default : goal.returns-in_default
returns-in_default c =
    rw (← c.self.view_is)
    (elim c.in_default.branch [
      | in_default-via-in-Some+else-not-is_dead w ↦
          sym (alive-dead c.self.inside.cut c.args.now _ w.in-Some.item.now
          (get-items_of c.self.inside.items.entries c.args.key.now ∙ sym w.in-Some.ensures.value) (grind (arith, w.is_dead.ensures, w.if-not-is_dead.false)))
      | in_default-via-in_default w ↦
          sym (ap (alive c.self.inside.cut c.args.now) (get-items_of c.self.inside.items.entries c.args.key.now ∙ sym w.in_default.ensures.value))
    ])
