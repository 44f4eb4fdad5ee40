use Rattle.mc_grow.proofs.Words.{◌≡◌, ◌+◌, ◌-◌, ◌++◌, Option, length, true, ap, sym, is_some, ◌∙◌, arith, filled, HopState, apart_parts, beside, cells_of, IndexState, count, rules}
use Rattle.mc_grow.proofs.Words.{drained_items}
use Rattle.mc_grow.proofs.IndexLemmas.{Parts, held_at_the_end, held_left, moved_some, moved_to_the_end, nothing_moved, parts_of}
use Rattle.mc_grow.proofs.index.Index.move_some.Goals as goal
use Rattle.mc_grow.proofs.index.Index.move_some.Goals.{in-Some-1, in-None-1}

pub returns-in_default-clause-moves : goal.returns-in_default-clause-moves
returns-in_default-clause-moves g c =
    let i = c.self.inside in
    let seen : Option (HopState g.row.T.Denot) → IndexState g.row.T.Denot =
    λ d. record {
      k = i.table.k;
      draining = drained_items d;
      table = i.table.items;
      strays = i.strays.items;
      growing = is_some d;
      spare = i.strays.room - (length i.strays.items + filled (drained_items d));
    } in
    nothing_moved g.T.Keyed.hash_of g.T.Keyed.key_of c.self.view_is (sym (ap drained_items c.in_default.ensures.value)) (sym (ap is_some c.in_default.ensures.value))
    (ap seen (c.take.ensures.after ∙ c.in_default.ensures.value))

pub try_strays-requires : goal.try_strays-requires
try_strays-requires g c = record {
  apart = (apart_parts g.T.Keyed.hash_of g.T.Keyed.key_of c.move_entries-moved.new.draining.items (cells_of (beside c.move_entries-moved.new.table c.move_entries-moved.new.strays.items))
      c.move_entries-moved.ensures.content.apart).1;
}

pub returns-in_default-clause-count : goal.returns-in_default-clause-count
returns-in_default-clause-count g c =
    let side = beside c.self.inside.table c.self.inside.strays.items in
    ap (λ (d : Option (HopState g.row.T.Denot)). filled (drained_items d ++ cells_of side)) (c.take.ensures.after ∙ c.in_default.ensures.value) ∙ ap count c.self.view_is

pub returns-then-len-eq0 : goal.returns-then-len-eq0
returns-then-len-eq0 g c =
    let moved = c.move_entries-moved in
    let last = beside c.try_strays.new.table c.try_strays.new.strays.items in
    let held =
    held_at_the_end g.T.Keyed.hash_of g.T.Keyed.key_of moved.new.draining.items (beside moved.new.table moved.new.strays.items) c.self.view_is c.self.invariant.apart
    (ap drained_items c.in-Some.ensures.value) moved.ensures.content last (omega (arith, c.len.ensures, c.if-len-eq0.true)) c.try_strays.ensures.content
    (ap (λ (d : Option (HopState g.row.T.Denot)). drained_items d ++ cells_of last) c.take.ensures.after) in
    record {
      moved = search rules;
      left = search rules;
      content = held.0;
      count = held.1;
      moves = moved_to_the_end g.T.Keyed.hash_of g.T.Keyed.key_of c.self.view_is (sym (ap is_some c.in-Some.ensures.value)) (ap drained_items c.in-Some.ensures.value) moved.ensures.taken
          (omega (arith, c.len.ensures, c.if-len-eq0.true)) c.try_strays.ensures.tried moved.ensures.k c.try_strays.ensures.k
          (ap (λ (d : Option (HopState g.row.T.Denot)). (c.try_strays.new.table.k, drained_items d, last, is_some d)) c.take.ensures.after);
      room = search rules;
    }

pub returns-else-len-eq0 : goal.returns-else-len-eq0
returns-else-len-eq0 g c =
    let m = c.move_entries-moved.new in
    let is : parts_of c.match-self.self ≡ (m.table.k, m.draining.items, beside m.table m.strays.items, true) =
    elim c.match-self.branch [ in-Some-1 w ↦ ap parts_of w.self-is | in-None-1 w ↦ ap parts_of w.self-is ] in
    let held =
    held_left g.T.Keyed.hash_of g.T.Keyed.key_of m.draining.items (beside m.table m.strays.items) c.self.view_is c.self.invariant.apart
    (ap drained_items c.in-Some.ensures.value) c.move_entries-moved.ensures.content (ap (λ (p : Parts g.row.T.Denot). p.1 ++ cells_of p.2) is) in
    record {
      moved = search rules;
      left = search rules;
      content = held.0;
      count = held.1;
      moves = moved_some g.T.Keyed.hash_of g.T.Keyed.key_of c.self.view_is (sym (ap is_some c.in-Some.ensures.value)) (ap drained_items c.in-Some.ensures.value)
          c.move_entries-moved.ensures.taken (λ e. omega (arith, c.len.ensures, c.if-len-eq0.false, e)) c.move_entries-moved.ensures.k is;
      room = search rules;
    }
