use Rattle.mc_shelf.proofs.Common.{◌∙◌, ◌≡◌, ap, CaughtUp, count, counts_in, entries_of, EntryMap, EntryState, IndexState, items_in, items_of, len, subst, sym}
use Rattle.mc_shelf.proofs.LenLemmas.{len_items}
use Rattle.mc_shelf.proofs.CountLemmas.{caught_none, caught_up}
use Rattle.mc_shelf.proofs.index.EntryIndex.catch_up.Goals as goal

pub returns-then-lags-clause-count : goal.returns-then-lags-clause-count
returns-then-lags-clause-count c =
    let i = c.self.inside.entries in
    ap (λ (m : EntryMap). len (items_in m)) c.move_some.ensures.content
    ∙ len_items (count i) (entries_of i) c.self.invariant.0 c.each_entry_counts_once.ensures
    ∙ sym c.move_some.ensures.count

pub returns-then-lags-clause-moves : goal.returns-then-lags-clause-moves
returns-then-lags-clause-moves c =
    let i = c.self.inside.entries in
    let did = c.move_some.ensures in
    subst (λ (s : IndexState EntryState). CaughtUp (counts_in s) (counts_in c.move_some.new.self)) c.self.view_is
    (caught_up i c.move_some.new.self (len_items (count i) (entries_of i) c.self.invariant.0 c.each_entry_counts_once.ensures) c.move_some.result
    (sym c.lags.ensures ∙ c.if-lags.true) did.moves did.moved did.left did.content)

pub returns-else-lags-clause-count : goal.returns-else-lags-clause-count
returns-else-lags-clause-count c =
    let i = c.self.inside.entries in
    subst (λ (s : IndexState EntryState). len (items_of s) ≡ count s) c.self.view_is
    (len_items (count i) (entries_of i) c.self.invariant.0 c.each_entry_counts_once.ensures)

pub returns-else-lags-clause-moves : goal.returns-else-lags-clause-moves
returns-else-lags-clause-moves c =
    let i = c.self.inside.entries in
    subst (λ (s : IndexState EntryState). CaughtUp (counts_in s) (counts_in s)) c.self.view_is
    (caught_none i c.entries_to_move-left.result (len_items (count i) (entries_of i) c.self.invariant.0 c.each_entry_counts_once.ensures) (sym c.lags.ensures ∙ c.if-lags.false)
    c.entries_to_move-left.ensures.value c.entries_to_move-left.ensures.rests)
