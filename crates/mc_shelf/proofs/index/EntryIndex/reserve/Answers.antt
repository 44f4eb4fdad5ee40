use Rattle.mc_shelf.proofs.Common.{◌≡◌, CaughtUp, count, counts_in, EntryState, IndexState, items_of, len, subst, sym}
use Rattle.mc_shelf.proofs.CountLemmas.{catches, reserved}
use Rattle.mc_shelf.proofs.index.EntryIndex.reserve.Goals.{After-reserve}
use Rattle.mc_shelf.proofs.index.EntryIndex.reserve.Goals as goal

caught : (c : After-reserve) → CaughtUp (counts_in c.args.self.now) (counts_in c.self.inside.entries)
caught c = subst (λ (s : IndexState EntryState). CaughtUp (counts_in c.args.self.now) (counts_in s)) (sym c.self.view_is) c.catch_up.ensures.moves

once : (c : After-reserve) → len (items_of c.self.inside.entries) ≡ count c.self.inside.entries
once c = subst (λ (s : IndexState EntryState). len (items_of s) ≡ count s) (sym c.self.view_is) c.catch_up.ensures.count

pub returns-clause-moves : goal.returns-clause-moves
returns-clause-moves c =
    reserved (counts_in c.args.self.now) c.self.inside.entries c.reserve.new.self (caught c) (once c) c.reserve.result c.reserve.ensures.begins c.reserve.ensures.stays c.reserve.ensures.refused

pub returns-clause-lags : goal.returns-clause-lags
returns-clause-lags c =
    catches (counts_in c.args.self.now) c.self.inside.entries c.reserve.new.self (caught c) (once c) c.reserve.result c.reserve.ensures.begins c.reserve.ensures.stays c.reserve.ensures.refused
