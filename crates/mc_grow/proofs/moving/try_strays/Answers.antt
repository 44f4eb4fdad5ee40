use Rattle.mc_grow.proofs.Words.{rules, ◌≡◌, ℕ, ◌+◌, if◌then◌else◌, is_some, not, subst, refl, arith, ◌∙◌, IsTried, beside, []}
use Rattle.std.proofs.lemmas.List.Sorted.{IsPermutation-refl}
use Rattle.mc_grow.proofs.StrayLemmas.{tried_more, all_tried}
use Rattle.mc_grow.proofs.moving.try_strays.Goals as goal
use Rattle.mc_grow.proofs.moving.try_strays.Goals.{then-is_some, else-is_some}

pub loop-turn-init : goal.loop-turn-init
loop-turn-init g c = record {
  turns = record {
    tried = [];
    each = IsPermutation-refl c.args.strays.now.items;
    many = omega arith;
    inside = omega arith;
    added = refl;
    held = record { same = refl; apart = c.requires.apart };
  };
  same_k = refl;
  crowded = search rules;
  room = omega arith;
  capacity = refl;
}

pub loop-turn-preserved : goal.loop-turn-preserved
loop-turn-preserved g c =
    let next : c.if-is_some.kept ≡ (if not (is_some c.try_unless-crowded.result) then c.loop-turn.kept else c.loop-turn.kept + 1) =
    elim c.if-is_some.branch [ then-is_some w ↦ grind (arith, w.kept-is, w.if-is_some.true) | else-is_some w ↦ grind (arith, w.kept-is, w.if-is_some.false) ] in
    let side = beside c.loop-turn.table c.loop-turn.strays.items in
    record {
      turns = tried_more g.T.Keyed.hash_of g.T.Keyed.key_of c.args.table.now.k _ _ _ (not (is_some c.try_unless-crowded.result)) (beside c.args.table.now c.args.strays.now.items) side _ c.loop-turn.invariant.turns
          (subst (λ (k : ℕ). IsTried g.T.Keyed.hash_of g.T.Keyed.key_of k c.loop-turn.kept (not (is_some c.try_unless-crowded.result)) side (beside c.try_unless-crowded.new.table c.try_unless-crowded.new.self.items))
          c.loop-turn.invariant.same_k c.try_unless-crowded.ensures.tried) c.try_unless-crowded.ensures.content next;
      same_k = c.try_unless-crowded.ensures.k ∙ c.loop-turn.invariant.same_k;
      crowded = c.try_unless-crowded.ensures.crowded;
      room = omega (arith, c.try_unless-crowded.ensures.len, c.loop-turn.invariant.room);
      capacity = c.try_unless-crowded.ensures.room ∙ c.loop-turn.invariant.capacity;
    }

pub returns-clause-tried : goal.returns-clause-tried
returns-clause-tried g c =
    all_tried g.T.Keyed.hash_of g.T.Keyed.key_of _ c.loop-turn._turn c.loop-turn.kept (beside c.args.table.now c.args.strays.now.items)
    (beside c.loop-turn.table c.loop-turn.strays.items) c.loop-turn.invariant.turns (omega (arith, c.len-turn-end.ensures.value, c.loop-turn-test.false))
