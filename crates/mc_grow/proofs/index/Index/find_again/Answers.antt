use Rattle.mc_grow.proofs.Words.{ap, sym, ◌∙◌, rules, IndexState, cells, entry_at}
use Rattle.mc_grow.proofs.CellLemmas.{placed}
use Rattle.mc_grow.proofs.index.Index.find_again.Goals as goal

pub returns-in-Some : goal.returns-in-Some
returns-in-Some g c =
    placed {part = cells c.args.self.now} {at = c.args.place.number} c.args.place c.self.view_is c.self.invariant.apart (ap (λ (s : IndexState g.row.T.Denot). entry_at s c.args.place) c.self.view_is)
    (record { entry = c.in-Some.entry.now; there = sym c.in-Some.ensures; same_hash = sym c.hash.ensures ∙ c.if-hash.true; same_key = search rules })
