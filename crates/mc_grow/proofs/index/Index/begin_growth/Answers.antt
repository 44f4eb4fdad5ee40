use Rattle.mc_grow.proofs.Words.{◌≡◌, is_some, false, ap, ◌∙◌, arith, filled, HopState, IndexState, holds}
use Rattle.mc_grow.proofs.IndexLemmas.{begun, due_rests}
use Rattle.mc_grow.proofs.index.Index.begin_growth.Goals as goal

pub invariant_of-self-2 : goal.invariant_of-self-2
invariant_of-self-2 g c =
    let rests : is_some c.self.inside.draining ≡ false = ap (λ (s : IndexState g.row.T.Denot). s.growing) c.self.view_is ∙ due_rests _ _ c.requires in
    record {
      apart = (begun g.T.Keyed.hash_of g.T.Keyed.key_of c.self.inside.draining c.self.inside.table c.in_ok-table.table c.replace.result
          c.replace.new.dest c.self.inside.strays.items c.reserve.new.self.items _ _ rests
          c.replace.ensures.value c.replace.ensures.after c.in_ok-table.ensures c.entries_are_apart.ensures c.reserve.ensures.items c.self.invariant.apart).apart;
      has_room = omega (arith, c.in_ok-reserve.ensures.ok, c.len.ensures, ap (λ (t : HopState g.row.T.Denot). filled t.items) c.replace.ensures.value);
    }

pub returns-clause-content : goal.returns-clause-content
returns-clause-content g c =
    let rests : is_some c.self.inside.draining ≡ false = ap (λ (s : IndexState g.row.T.Denot). s.growing) c.self.view_is ∙ due_rests _ _ c.requires in
    (begun g.T.Keyed.hash_of g.T.Keyed.key_of c.self.inside.draining c.self.inside.table c.in_ok-table.table c.replace.result
    c.replace.new.dest c.self.inside.strays.items c.reserve.new.self.items _ _ rests
    c.replace.ensures.value c.replace.ensures.after c.in_ok-table.ensures c.entries_are_apart.ensures c.reserve.ensures.items c.self.invariant.apart).same
    ∙ ap (holds g.T.Keyed.hash_of g.T.Keyed.key_of) c.self.view_is
