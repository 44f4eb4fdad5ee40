use Rattle.mc_grow.proofs.Words.{true≢false, ◌<◌, ◌++◌, length, map, Some, ℕ, List, subst, sym, arith, home_in, absent_of, swapped, IsCrowded, HoldsAll, rules, ap, get_or, ◌∙◌}
use Rattle.mc_grow.proofs.MoveLemmas.{instead}
use Rattle.mc_grow.proofs.StrayLemmas.{stray_is_new, stray_put}
use Rattle.mc_grow.proofs.trying.try_item.Goals as goal

pub add-requires : goal.add-requires
add-requires g c =
    absent_of g.T.Keyed.hash_of g.T.Keyed.key_of _ _ _ (stray_is_new g.T.Keyed.hash_of g.T.Keyed.key_of c.args.strays.now.items c.swap_remove-entry.new.self.items c.args.at c.swap_remove-entry.result
    (swapped c.args.strays.now.ok.0 c.swap_remove-entry.new.self.ok.0 c.swap_remove-entry.ensures.len c.swap_remove-entry.ensures.by_index)
    (omega (arith, c.requires.inside, c.args.strays.now.ok.0)) c.swap_remove-entry.ensures.value c.args.table.now.items c.requires.apart)

pub returns-in-Ok-clause-tried : goal.returns-in-Ok-clause-tried
returns-in-Ok-clause-tried g c = record {
  entry = c.swap_remove-entry.result;
  inside = omega (arith, c.requires.inside, c.args.strays.now.ok.0);
  there = c.swap_remove-entry.ensures.value;
  outcome = (c.in-Ok.ensures.put, (λ full. true≢false (sym (c.in-Ok.ensures.had full))), c.swap_remove-entry.ensures.items);
}

pub returns-in-Ok-clause-content : goal.returns-in-Ok-clause-content
returns-in-Ok-clause-content g c =
    stray_put g.T.Keyed.hash_of g.T.Keyed.key_of c.args.strays.now.items c.swap_remove-entry.new.self.items c.args.at c.swap_remove-entry.result
    (swapped c.args.strays.now.ok.0 c.swap_remove-entry.new.self.ok.0 c.swap_remove-entry.ensures.len c.swap_remove-entry.ensures.by_index)
    (omega (arith, c.requires.inside, c.args.strays.now.ok.0)) c.swap_remove-entry.ensures.value c.args.table.now.items c.add.new.table.items c.requires.apart
    c.entries_are_apart.ensures c.in-Ok.ensures.put

pub returns-in-Ok-clause-went : goal.returns-in-Ok-clause-went
returns-in-Ok-clause-went g c _ = swapped c.args.strays.now.ok.0 c.swap_remove-entry.new.self.ok.0 c.swap_remove-entry.ensures.len c.swap_remove-entry.ensures.by_index

pub returns : goal.returns
returns g c =
    let old = c.args.strays.now in
    let inside : c.args.at < length old.items = omega (arith, c.requires.inside, old.ok.0) in
    let back =
    c.put_back.ensures.items old.items inside (c.in-Err.ensures.full.0 ∙ c.swap_remove-entry.ensures.value ∙ ap (get_or old.items c.args.at) (sym c.in-Err.ensures.full.0))
    (swapped old.ok.0 c.swap_remove-entry.new.self.ok.0 c.swap_remove-entry.ensures.len c.swap_remove-entry.ensures.by_index) in
    record {
      tried = record {
        entry = c.swap_remove-entry.result;
        inside = inside;
        there = c.swap_remove-entry.ensures.value;
        outcome = (
          c.in-Err.ensures.full.1,
          c.in-Err.ensures.near,
          subst (λ (k : ℕ). IsCrowded g.T.Keyed.hash_of k c.add.new.table.items (home_in k (g.T.Keyed.hash_of c.swap_remove-entry.result))) c.add.ensures.size.0 c.in-Err.ensures.full.2,
          back,
        );
      };
      content = subst (λ (l : List g.row.T.Denot). HoldsAll g.T.Keyed.hash_of g.T.Keyed.key_of (c.args.table.now.items ++ map Some old.items) (c.add.new.table.items ++ map Some l)) (sym back)
          (instead g.T.Keyed.hash_of g.T.Keyed.key_of c.args.table.now.items (map Some old.items) c.add.new.table.items c.requires.apart c.entries_are_apart-2.ensures c.in-Err.ensures.full.1);
      went = λ e. absurd (true≢false (sym e));
      stays = λ _. back;
      k = search rules;
      room = search rules;
      capacity = search rules;
    }
