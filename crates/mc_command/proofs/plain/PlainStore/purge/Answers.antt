use Rattle.std.proofs.Common.{ap, ◌∙◌, rules}
use Rattle.std.proofs.lemmas.Map.Made.{filter_same_pairs}
use Rattle.mc_command.specs.Items.{items_of}
use Rattle.mc_command.proofs.ItemLemmas.{items_of-purged, stays}
use Rattle.mc_command.proofs.RoomLemmas.{shown}
use Rattle.mc_command.proofs.plain.PlainStore.purge.Goals as goal

pub returns : goal.returns
returns g c =
    let i = c.self.inside in
    let means = g.T.KeyTest.means c.args.test.now in
    rw (← c.self.view_is)
    (ap (shown i.greatest i.limit i.cut i.next_unique i.pages)
    (ap items_of (filter_same_pairs _ (stays means i.cut c.args.now) _ (λ k v b w f' t. search rules) _ _ c.retain.ensures.filtered)
    ∙ items_of-purged means i.cut c.args.now i.items.entries c.retain.ensures.was_ordered))
