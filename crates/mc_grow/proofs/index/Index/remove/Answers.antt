use Rattle.mc_grow.proofs.Words.{◌+◌, ◌≤◌, List, Option, inl, inr, le_refl, length, refl, sym, ap, ◌∙◌, arith, filled, HopState, drained_items}
use Rattle.mc_grow.proofs.PartLemmas.{stray_inside}
use Rattle.mc_grow.proofs.CellLemmas.{filled-taken, in_drained, in_table, in_strays, read_part}
use Rattle.mc_grow.proofs.ChangeLemmas.{more_room, one_stray_less, removed, removed_stray, stray_gone, taken_apart}
use Rattle.mc_grow.proofs.index.Index.remove.Goals as goal

pub invariant_of-self : goal.invariant_of-self
invariant_of-self g c =
    let gone = c.remove_drained.ensures.removed in
    let less = filled-taken _ c.in-Drained.at _ c.remove_drained.ensures.here ∙ ap (λ (items : List (Option g.row.T.Denot)). filled items + 1) (sym gone) in
    record {
      apart = taken_apart g.T.Keyed.hash_of g.T.Keyed.key_of (in_drained c.self.view_is c.in-Drained.ensures) c.self.invariant.apart gone;
      has_room = omega (arith, c.self.invariant.has_room, less);
    }

pub invariant_of-self-in-Table : goal.invariant_of-self-in-Table
invariant_of-self-in-Table g c = record {
  apart = taken_apart g.T.Keyed.hash_of g.T.Keyed.key_of (in_table c.self.view_is c.in-Table.ensures) c.self.invariant.apart (ap (λ (t : HopState g.row.T.Denot). t.items) c.remove.ensures.removed);
  has_room = c.self.invariant.has_room;
}

pub invariant_of-self-in-Stray : goal.invariant_of-self-in-Stray
invariant_of-self-in-Stray g c =
    let i = c.self.inside in
    let swap = c.swap_remove.ensures.swapped in
    let inside = stray_inside c.self.inside.strays.items _ _ (read_part c.self.view_is (in_strays c.self.view_is c.in-Stray.ensures) c.requires.1) in
    record {
      apart = (stray_gone g.T.Keyed.hash_of g.T.Keyed.key_of (drained_items i.draining) i.table.items _ _ _ _ swap inside c.swap_remove.ensures.value c.self.invariant.apart).apart;
      has_room = omega (arith, c.self.invariant.has_room, swap.shorter, c.swap_remove.ensures.room);
    }

pub returns-in-Drained : goal.returns-in-Drained
returns-in-Drained g c =
    let here = c.remove_drained.ensures.here in
    let gone = c.remove_drained.ensures.removed in
    let less = filled-taken _ c.in-Drained.at _ here ∙ ap (λ (items : List (Option g.row.T.Denot)). filled items + 1) (sym gone) in
    removed c.self.view_is (in_drained c.self.view_is c.in-Drained.ensures) c.self.invariant.apart here gone refl (omega (arith, c.in-Drained.ensures))
    refl refl c.remove_drained.ensures.stays (inr less) (more_room _ _ _ _ less)

pub returns-in-Table : goal.returns-in-Table
returns-in-Table g c =
    let gone = c.remove.ensures.removed in
    removed c.self.view_is (in_table c.self.view_is c.in-Table.ensures) c.self.invariant.apart c.remove.ensures.here (ap (λ (t : HopState g.row.T.Denot). t.items) gone) refl
    (omega (arith, c.in-Table.ensures)) refl (ap (λ (t : HopState g.row.T.Denot). t.k) gone) refl (inl refl) (le_refl _)

pub returns-in-Stray : goal.returns-in-Stray
returns-in-Stray g c =
    let swap = c.swap_remove.ensures.swapped in
    let shorter : length c.swap_remove.new.self.items ≤ length c.self.inside.strays.items = omega (arith, swap.shorter) in
    let inside = stray_inside c.self.inside.strays.items _ _ (read_part c.self.view_is (in_strays c.self.view_is c.in-Stray.ensures) c.requires.1) in
    removed_stray c.self.view_is swap inside c.swap_remove.ensures.value c.self.invariant.apart refl c.in-Stray.ensures refl refl c.swap_remove.ensures.items refl refl
    (one_stray_less _ _ _ _ _ c.swap_remove.ensures.room shorter)
