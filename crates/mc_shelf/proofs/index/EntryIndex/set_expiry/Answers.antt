use Rattle.mc_shelf.proofs.Common.{◌≡◌, entry_at, EntryState, IndexState, IsKeyAt, refl, rules, Some, subst, sym}
use Rattle.mc_shelf.proofs.DeathLemmas.{sooner_changed}
use Rattle.mc_shelf.proofs.IndexLemmas.{updated}
use Rattle.mc_shelf.proofs.index.EntryIndex.set_expiry.Goals as goal

pub invariant_of-self : goal.invariant_of-self
invariant_of-self c =
    let inside = c.self.inside in
    let lowered = c.with_expiry-self-inside in
    let at = subst (λ (s : IndexState EntryState). IsKeyAt s c.requires.0 c.args.place) (sym c.self.view_is) c.requires.1 in
    let is = c.update.ensures at.entry at.there in
    let becomes : is.given ≡ record at.entry { item = record at.entry.item { expiry = c.args.expiry } } = let met = is.called in search rules in
    let up = updated refl c.self.invariant.0 at is becomes refl refl in
    (up.0, sooner_changed inside.soonest lowered.result up.1 c.self.invariant.1 lowered.ensures.others (lowered.ensures.one at.entry.item (c.self.invariant.1 c.requires.0 at.entry.item at.item)))

pub returns : goal.returns
returns c key found =
    let there = subst (λ (s : IndexState EntryState). entry_at s c.args.place ≡ Some found.entry) (sym c.self.view_is) found.there in
    let is = c.update.ensures found.entry there in
    let becomes : is.given ≡ record found.entry { item = record found.entry.item { expiry = c.args.expiry } } = let met = is.called in search rules in
    (updated c.self.view_is c.self.invariant.0 found is becomes refl refl).1
