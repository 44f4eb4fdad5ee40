use Rattle.mc_shelf.proofs.Common.{◌∙◌, ◌≡◌, ap, entry_at, EntryState, IndexState, IsKeyAt, refl, rules, Some, subst, sym}
use Rattle.mc_shelf.proofs.DeathLemmas.{sooner_changed}
use Rattle.mc_shelf.proofs.IndexLemmas.{updated}
use Rattle.mc_shelf.proofs.index.EntryIndex.replace.Goals as goal

pub invariant_of-self : goal.invariant_of-self
invariant_of-self c =
    let inside = c.self.inside in
    let lowered = c.note in
    let at = subst (λ (s : IndexState EntryState). IsKeyAt s c.args.entry.key c.args.place) (sym c.self.view_is) c.requires.key in
    let is = c.update.ensures at.entry at.there in
    let becomes : is.given ≡ c.args.entry = let met = is.called in search rules in
    let up = updated refl c.self.invariant.0 at is becomes (sym (c.requires.hash at.entry.hash c.requires.key.hash)) (sym at.same_key) in
    (up.0, sooner_changed inside.soonest lowered.new.self up.1 c.self.invariant.1 lowered.ensures.others (lowered.ensures.one c.args.entry.item (sym c.expiry.ensures) (sym c.updated_at.ensures)))

pub returns-clause-before : goal.returns-clause-before
returns-clause-before c =
    let found = c.requires.key in
    let there = subst (λ (s : IndexState EntryState). entry_at s c.args.place ≡ Some found.entry) (sym c.self.view_is) found.there in
    let is = c.update.ensures found.entry there in
    let was : c.update.result ≡ found.entry = let met = is.called in search rules in
    found.there ∙ ap Some (sym was)

pub returns-clause-changed : goal.returns-clause-changed
returns-clause-changed c =
    let found = c.requires.key in
    let there = subst (λ (s : IndexState EntryState). entry_at s c.args.place ≡ Some found.entry) (sym c.self.view_is) found.there in
    let is = c.update.ensures found.entry there in
    let becomes : is.given ≡ c.args.entry = let met = is.called in search rules in
    (updated c.self.view_is c.self.invariant.0 found is becomes (sym (c.requires.hash found.entry.hash found.hash)) (sym found.same_key)).1
