use Rattle.mc_shelf.proofs.Common.{◌≡◌, Entry, List, made_block, refl, rules, subst, ℕ}
use Rattle.mc_shelf.specs.States.{entry_with}
use Rattle.mc_shelf.proofs.IndexLemmas.{rewritten}
use Rattle.mc_shelf.proofs.index.EntryIndex.write_over.Goals as goal

pub invariant_of-self : goal.invariant_of-self
invariant_of-self c =
    let item = (entry_with c.args.parts.now (made_block c.args.body c.in-Some.lent.now c.requires.key.entry.item.block)).item in
    (rewritten c.self.inside.soonest c.note.new.self item c.self.view_is c.self.invariant c.requires.key c.update.ensures (λ given met. search rules)
    c.note.ensures.others (c.note.ensures.one item refl refl)).0

pub returns-in-Some : goal.returns-in-Some
returns-in-Some c at =
    let made : List ℕ → Entry = λ block. (entry_with c.args.parts.now (made_block c.args.body block at.entry.item.block)).item in
    let item = made c.args.block.now in
    (rewritten c.self.inside.soonest c.note.new.self item c.self.view_is c.self.invariant at c.update.ensures
    (λ given met. subst (λ (l : List ℕ). given ≡ record at.entry { item = made l }) c.in-Some.ensures (search rules))
    c.note.ensures.others (c.note.ensures.one item refl refl)).1

pub invariant_of-self-in-None : goal.invariant_of-self-in-None
invariant_of-self-in-None c =
    let item = (entry_with c.args.parts.now (made_block c.args.body c.as_slice-bytes.result.now c.requires.key.entry.item.block)).item in
    (rewritten c.self.inside.soonest c.note.new.self item c.self.view_is c.self.invariant c.requires.key c.update-in-None.ensures (λ given met. search rules)
    c.note.ensures.others (c.note.ensures.one item refl refl)).0

pub returns-in-None : goal.returns-in-None
returns-in-None c at =
    let made : List ℕ → Entry = λ block. (entry_with c.args.parts.now (made_block c.args.body block at.entry.item.block)).item in
    let item = made c.args.block.now in
    (rewritten c.self.inside.soonest c.note.new.self item c.self.view_is c.self.invariant at c.update-in-None.ensures
    (λ given met. subst (λ (l : List ℕ). given ≡ record at.entry { item = made l }) c.as_slice-bytes.ensures (search rules))
    c.note.ensures.others (c.note.ensures.one item refl refl)).1
