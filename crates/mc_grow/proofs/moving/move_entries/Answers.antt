use Rattle.mc_grow.proofs.Words.{refl, arith, ◌∙◌, []}
use Rattle.mc_grow.proofs.CellLemmas.{some_filled}
use Rattle.mc_grow.proofs.MoveLemmas.{moved_more}
use Rattle.mc_grow.proofs.moving.move_entries.Goals as goal

pub loop-moved-init : goal.loop-moved-init
loop-moved-init g c = record {
  moves = record {
    taken = record { entries = []; many = refl; taken = refl; added = refl };
    held = record { same = refl; apart = c.requires.apart };
    left = omega arith;
  };
  same_k = refl;
  room = omega arith;
  capacity = refl;
}

pub move_one-requires-clause-room : goal.move_one-requires-clause-room
move_one-requires-clause-room g c = omega (arith, some_filled c.loop-moved.draining.items c.in-Some.at c.in-Some.ensures.found)

pub loop-moved-preserved : goal.loop-moved-preserved
loop-moved-preserved g c = record {
  moves = moved_more g.T.Keyed.hash_of g.T.Keyed.key_of c.loop-moved.invariant.moves c.move_one.ensures.taken c.loop-moved.invariant.same_k c.move_one.ensures.left c.move_one.ensures.content;
  same_k = c.move_one.ensures.k ∙ c.loop-moved.invariant.same_k;
  room = omega arith;
  capacity = c.move_one.ensures.capacity ∙ c.loop-moved.invariant.capacity;
}
