use Rattle.mc_grow.proofs.Words.{ℕ, ◌+◌, ◌++◌, ◌∷◌, Some, None, map, is_some, length, ap, refl, sym, ◌∙◌, arith, get_or_append_left, get, entry_absent, IndexState, holds, drained_items}
use Rattle.mc_grow.proofs.CellLemmas.{absent_both, get_second, placed}
use Rattle.mc_grow.proofs.OrderLemmas.{reads_in_all}
use Rattle.mc_grow.proofs.index.Index.find_counted.Goals as goal

pub returns-in-Some-find-clause-reads : goal.returns-in-Some-find-clause-reads
returns-in-Some-find-clause-reads g c = reads_in_all _ _ _ _ c.self.view_is c.find_drained.ensures.reads c.find_counted.ensures.reads c.find.ensures.reads

pub returns-in-None-clause-reads : goal.returns-in-None-clause-reads
returns-in-None-clause-reads g c = reads_in_all _ _ _ _ c.self.view_is c.find_drained.ensures.reads c.find_counted.ensures.reads c.find.ensures.reads

pub returns-in-Some-clause-found : goal.returns-in-Some-clause-found
returns-in-Some-clause-found g c =
    let found = c.in-Some.ensures.found in
    placed _ c.self.view_is c.self.invariant.apart (get_or_append_left (drained_items c.self.inside.draining) _ None _ found.0) found.1

pub returns-in-Some-find_counted-clause-found : goal.returns-in-Some-find_counted-clause-found
returns-in-Some-find_counted-clause-found g c =
    let found = c.in-Some-find_counted.ensures.found in
    let its = ap (λ (n : ℕ). n + c.in-Some-find_counted.at) c.drained_buckets-first.ensures.value in
    placed _ c.self.view_is c.self.invariant.apart (get_second (drained_items c.self.inside.draining) _ _ _ its ∙ get_or_append_left c.self.inside.table.items _ None _ found.0) found.1

pub returns-in-Some-find-clause-found : goal.returns-in-Some-find-clause-found
returns-in-Some-find-clause-found g c =
    let table = c.self.inside.table.items in
    placed _ c.self.view_is c.self.invariant.apart
    (get_second (drained_items c.self.inside.draining) _ (length table + c.in-Some-find.at) _ (omega (arith, c.drained_buckets-first.ensures.value, c.buckets.ensures.value))
    ∙ get_second table _ _ _ refl) c.in-Some-find.ensures.found.1

pub returns-in-None-clause-found : goal.returns-in-None-clause-found
returns-in-None-clause-found g c =
    let i = c.self.inside in
    let none = absent_both g.T.Keyed.hash_of g.T.Keyed.key_of i.table.items (map Some i.strays.items) _ _
    (c.find_counted.ensures.none (ap is_some c.in_default-find_counted.is)) (c.find.ensures.none (ap is_some c.in-None.is)) in
    let all = absent_both g.T.Keyed.hash_of g.T.Keyed.key_of (drained_items i.draining) _ _ _ (c.find_drained.ensures.none (ap is_some c.in_default.is)) none in
    sym (ap (λ (s : IndexState g.row.T.Denot). get (holds g.T.Keyed.hash_of g.T.Keyed.key_of s) (c.args.hash ∷ c.args.key.now)) c.self.view_is)
    ∙ (entry_absent g.T.Keyed.hash_of g.T.Keyed.key_of (drained_items i.draining ++ (i.table.items ++ map Some i.strays.items)) c.args.hash c.args.key.now).0 all
