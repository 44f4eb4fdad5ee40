use Rattle.mc_grow.proofs.Words.{◌+◌, ◌≤◌, ℕ, ◌∷◌, refl, ap, sym, subst, ◌∙◌, length, arith, get, insert, filled, apart_parts, beside, cells_of, IndexState, holds, drained_items}
use Rattle.mc_grow.proofs.IndexLemmas.{come_in, its_place, one_more}
use Rattle.mc_grow.proofs.MoveLemmas.{new_to_each}
use Rattle.mc_grow.proofs.index.Index.insert_reserved.Goals as goal

pub place-at-requires-clause-apart : goal.place-at-requires-clause-apart
place-at-requires-clause-apart g c =
    (apart_parts g.T.Keyed.hash_of g.T.Keyed.key_of (drained_items c.self.inside.draining) (cells_of (beside c.self.inside.table c.self.inside.strays.items)) c.self.invariant.apart).1

pub place-at-requires-clause-new : goal.place-at-requires-clause-new
place-at-requires-clause-new g c =
    (new_to_each g.T.Keyed.hash_of g.T.Keyed.key_of (drained_items c.self.inside.draining) (cells_of (beside c.self.inside.table c.self.inside.strays.items)) _
    (ap (λ (s : IndexState g.row.T.Denot). get (holds g.T.Keyed.hash_of g.T.Keyed.key_of s) (g.T.Keyed.hash_of c.args.entry ∷ g.T.Keyed.key_of c.args.entry)) c.self.view_is ∙ c.requires.new)).1

pub invariant_of-self : goal.invariant_of-self
invariant_of-self g c = record {
  apart = (come_in g.T.Keyed.hash_of g.T.Keyed.key_of c.self.view_is c.self.invariant.apart c.requires.new c.place-at.ensures.content).apart;
  has_room = subst (λ (n : ℕ). length c.place-at.new.strays.items + filled (drained_items c.self.inside.draining) ≤ n) (sym c.place-at.ensures.capacity)
      (omega (arith, ap (λ (s : IndexState g.row.T.Denot). s.spare) c.self.view_is, c.requires.room, c.place-at.ensures.room));
}

pub returns-clause-content : goal.returns-clause-content
returns-clause-content g c =
    (come_in g.T.Keyed.hash_of g.T.Keyed.key_of c.self.view_is c.self.invariant.apart c.requires.new c.place-at.ensures.content).come
    ∙ ap (λ (s : IndexState g.row.T.Denot). insert (holds g.T.Keyed.hash_of g.T.Keyed.key_of s) (g.T.Keyed.hash_of c.args.entry ∷ g.T.Keyed.key_of c.args.entry) c.args.entry) c.self.view_is

pub returns-clause-place : goal.returns-clause-place
returns-clause-place g c =
    its_place g.T.Keyed.hash_of g.T.Keyed.key_of c.self.view_is c.self.invariant.apart c.requires.new c.place-at.ensures.content
    _ _ c.place-at.result refl (ap (λ (n : ℕ). n + c.place-at.result) c.drained_buckets-buckets.ensures.value) c.place-at.ensures.there

pub returns-clause-count : goal.returns-clause-count
returns-clause-count g c = one_more g.T.Keyed.hash_of g.T.Keyed.key_of c.self.view_is c.self.invariant.apart c.requires.new c.place-at.ensures.content
