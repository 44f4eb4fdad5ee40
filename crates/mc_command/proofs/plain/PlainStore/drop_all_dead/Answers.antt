use Rattle.std.proofs.Common.{ap, ◌∙◌, rules}
use Rattle.std.proofs.lemmas.Map.Made.{filter_same_pairs}
use Rattle.mc_command.specs.Items.{items_of}
use Rattle.mc_command.proofs.ItemLemmas.{items_of-filter, lives}
use Rattle.mc_command.proofs.RoomLemmas.{shown}
use Rattle.mc_command.proofs.plain.PlainStore.drop_all_dead.Goals as goal

pub returns : goal.returns
returns c =
    let i = c.self.inside in
    rw (← c.self.view_is)
    (ap (shown i.greatest i.limit i.cut i.next_unique i.pages)
    (ap items_of (filter_same_pairs _ (λ e. lives i.cut c.args.now e.1) _ (λ k v b w f' t. search rules) _ _ c.retain.ensures.filtered)
    ∙ items_of-filter i.items.entries i.cut c.args.now c.retain.ensures.was_ordered))
