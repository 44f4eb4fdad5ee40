use Rattle.mc_grow.proofs.Words.{ℕ, ◌+◌, ◌-◌, refl, ap, length, ◌∙◌, arith, filled, HopState, drained_items}
use Rattle.mc_grow.proofs.CellLemmas.{filled-changed, in_drained, in_table, in_strays, read_part, read_back}
use Rattle.mc_grow.proofs.ChangeLemmas.{changed_apart, table_changed, updated}
use Rattle.mc_grow.proofs.index.Index.update.Goals as goal

pub update_drained-requires-clause-keeps : goal.update_drained-requires-clause-keeps
update_drained-requires-clause-keeps g c entry there = c.requires.keeps entry (read_back c.self.view_is (in_drained c.self.view_is c.in-Drained.ensures) there)

pub update-requires-clause-keeps : goal.update-requires-clause-keeps
update-requires-clause-keeps g c entry there = c.requires.keeps entry (read_back c.self.view_is (in_table c.self.view_is c.in-Table.ensures) there)

pub update-requires-in-Stray-clause-keeps : goal.update-requires-in-Stray-clause-keeps
update-requires-in-Stray-clause-keeps g c entry there = c.requires.keeps entry (read_back c.self.view_is (in_strays c.self.view_is c.in-Stray.ensures) there)

pub invariant_of-self : goal.invariant_of-self
invariant_of-self g c =
    let its = in_drained c.self.view_is c.in-Drained.ensures in
    let here = read_part c.self.view_is its c.requires.filled.1 in
    let is = c.update_drained.ensures.changed c.requires.filled.0 here in
    record {
      apart = changed_apart its c.self.invariant.apart here (c.requires.keeps c.requires.filled.0 c.requires.filled.1) is;
      has_room = omega (arith, c.self.invariant.has_room, ap filled is.changed ∙ filled-changed _ c.in-Drained.at c.requires.filled.0 is.given here);
    }

pub invariant_of-self-in-Table : goal.invariant_of-self-in-Table
invariant_of-self-in-Table g c =
    let its = in_table c.self.view_is c.in-Table.ensures in
    let here = read_part c.self.view_is its c.requires.filled.1 in
    record {
      apart = changed_apart its c.self.invariant.apart here (c.requires.keeps c.requires.filled.0 c.requires.filled.1) (table_changed (c.update.ensures c.requires.filled.0 here));
      has_room = c.self.invariant.has_room;
    }

pub invariant_of-self-in-Stray : goal.invariant_of-self-in-Stray
invariant_of-self-in-Stray g c =
    let its = in_strays c.self.view_is c.in-Stray.ensures in
    let here = read_part c.self.view_is its c.requires.filled.1 in
    record {
      apart = changed_apart its c.self.invariant.apart here (c.requires.keeps c.requires.filled.0 c.requires.filled.1) (c.update-in-Stray.ensures.changed c.requires.filled.0 here);
      has_room = omega (arith, c.self.invariant.has_room, c.update-in-Stray.ensures.room, c.update-in-Stray.ensures.len);
    }

pub returns-in-Drained : goal.returns-in-Drained
returns-in-Drained g c entry there =
    let i = c.self.inside in
    let its = in_drained c.self.view_is c.in-Drained.ensures in
    let here = read_part c.self.view_is its there in
    let is = c.update_drained.ensures.changed entry here in
    let many = ap filled is.changed ∙ filled-changed _ c.in-Drained.at entry is.given here in
    updated c.self.view_is its c.self.invariant.apart there (c.requires.keeps entry there) is refl refl c.update_drained.ensures.stays many
    (ap (λ (n : ℕ). i.strays.room - (length i.strays.items + n)) many)

pub returns-in-Table : goal.returns-in-Table
returns-in-Table g c entry there =
    let its = in_table c.self.view_is c.in-Table.ensures in
    let is = c.update.ensures entry (read_part c.self.view_is its there) in
    updated c.self.view_is its c.self.invariant.apart there (c.requires.keeps entry there) (table_changed is) refl (ap (λ (t : HopState g.row.T.Denot). t.k) is.3) refl refl refl

pub returns-in-Stray : goal.returns-in-Stray
returns-in-Stray g c entry there =
    let its = in_strays c.self.view_is c.in-Stray.ensures in
    let is = c.update-in-Stray.ensures.changed entry (read_part c.self.view_is its there) in
    updated c.self.view_is its c.self.invariant.apart there (c.requires.keeps entry there) is refl refl refl refl
    (λ j. c.update-in-Stray.ensures.room j - (c.update-in-Stray.ensures.len j + filled (drained_items c.self.inside.draining)))
