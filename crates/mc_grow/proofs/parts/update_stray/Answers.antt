use Rattle.mc_grow.proofs.Words.{◌-◌, Some, map, ap, subst, ◌∙◌, arith, map-set, keys_in, swapped, rules, ◌<◌, length}
use Rattle.mc_grow.proofs.OrderLemmas.{keys_kept}
use Rattle.mc_grow.proofs.PartLemmas.{put_back, stray_is, stray_there}
use Rattle.mc_grow.proofs.parts.update_stray.Goals as goal

pub returns : goal.returns
returns g c =
    let old = c.args.strays.now in
    let entry = c.swap_remove-entry.result in
    let inside : c.args.at < length old.items = omega (arith, c.requires.inside, old.ok.0) in
    let there = stray_there old.items c.args.at entry inside c.swap_remove-entry.ensures.value in
    let keeps = c.requires.keeps entry there in
    let less = swapped old.ok.0 c.swap_remove-entry.new.self.ok.0 c.swap_remove-entry.ensures.len c.swap_remove-entry.ensures.by_index in
    let whole =
    put_back old.items _ _ _ c.args.at (c.len-last.result - 1) c.change-entry.result.0 inside (omega (arith, c.requires.inside, c.len-last.ensures, old.ok.0)) less
    c.push_reserved.ensures.items c.swap.ensures.by_index (omega (arith, c.swap.ensures.len, c.swap.new.self.ok.0, c.push_reserved.new.self.ok.0)) in
    record {
      changed = λ x found. record {
        given = c.change-entry.result.0;
        called = subst (λ (e : g.row.T.Denot). g.F.FnOnce.post c.args.change (e, tt) c.change-entry.result)
            (c.swap_remove-entry.ensures.value ∙ stray_is old.items c.args.at x entry found) c.change-entry.ensures;
        changed = ap (map Some) whole ∙ map-set Some old.items c.args.at c.change-entry.result.0;
      };
      keys = ap (keys_in g.T.Keyed.hash_of g.T.Keyed.key_of) whole
          ∙ keys_kept g.T.Keyed.hash_of g.T.Keyed.key_of old.items c.args.at entry c.change-entry.result.0 there
          (keeps.same_hash c.change-entry.result c.change-entry.ensures) (keeps.same_key c.change-entry.result c.change-entry.ensures);
      capacity = search rules;
      len = search rules;
    }
