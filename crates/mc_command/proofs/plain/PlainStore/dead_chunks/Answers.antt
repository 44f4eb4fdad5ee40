use Rattle.std.proofs.Common.{◌≡◌, Option, Some, None, ap, sym, ◌∙◌}
use Rattle.std.specs.FinMap.{get}
use Rattle.mc_protocol.specs.Plain.{Entry}
use Rattle.mc_protocol.specs.Laws.{of_class}
use Rattle.mc_command.proofs.ItemLemmas.{get-items_of}
use Rattle.mc_command.proofs.PlainLemmas.{dead-is, dead-none}
use Rattle.mc_command.proofs.plain.PlainStore.dead_chunks.Goals as goal

pub returns-then-is_some-clause-value : goal.returns-then-is_some-clause-value
returns-then-is_some-clause-value c =
    sym (ap (λ (o : Option Entry). of_class c.args.key.now o c.args.class)
    (dead-none c.standing_item.result _ c.args.key.now c.args.self.now c.standing_item.ensures (sym c.is_some.ensures ∙ c.if-is_some.true)))

pub returns-in-Some-clause-value : goal.returns-in-Some-clause-value
returns-in-Some-clause-value c =
    let there : get c.args.self.now.items c.args.key.now ≡ Some c.in-Some.item.now = rw (← c.self.view_is) (get-items_of c.self.inside.items.entries c.args.key.now ∙ sym c.in-Some.ensures.value) in
    c.chunks_in.ensures.value
    ∙ sym (ap (λ (o : Option Entry). of_class c.args.key.now o c.args.class)
    (dead-is c.standing_item.result _ c.args.key.now c.args.self.now c.standing_item.ensures (sym c.is_some.ensures ∙ c.if-is_some.false) ∙ there))

pub returns-in-None-clause-value : goal.returns-in-None-clause-value
returns-in-None-clause-value c =
    let none : get c.args.self.now.items c.args.key.now ≡ None = rw (← c.self.view_is) (get-items_of c.self.inside.items.entries c.args.key.now ∙ sym c.in-None.ensures.value) in
    sym (ap (λ (o : Option Entry). of_class c.args.key.now o c.args.class)
    (dead-is c.standing_item.result _ c.args.key.now c.args.self.now c.standing_item.ensures (sym c.is_some.ensures ∙ c.if-is_some.false) ∙ none))
