use Rattle.mc_shared.proofs.Words.{arith, ◌≡◌, ℕ, ◌-◌, List, [], ◌∷◌, slice_index, refl, sym, ap, ◌∙◌, subst, Plain, keys_with, ShelfState, DeskState, Content, OfShelf, OfDesk, AreCountsBy}
use Rattle.mc_shared.proofs.Words.{start_of, after, Purged, AllFit, MayDecide, SharedState, spread, HoldsBoth, HoldsShelf, Past, call, Mine, entry_of, loaded, AreHashes, AreCountsOf}
use Rattle.mc_shelf.specs.Sweeps.{BeginsPurge}
use Rattle.mc_shared.proofs.Decisions.{applies, part_held}
use Rattle.mc_shared.proofs.Held.{at_both, left_held}
use Rattle.mc_shared.proofs.WordLemmas.{words_apart}
use Rattle.mc_shared.proofs.SpreadLemmas.{spread_alike}
use Rattle.mc_shared.proofs.NumberSweeps.{counts_swept}
use Rattle.mc_shared.proofs.store.Shared.purge.Goals as goal
use Rattle.mc_shared.proofs.store.Shared.purge.Goals.{After-deref_mut-3, After-lower_words}

-- the shelf was held as it stood before
pub wait_for_desk-desk-requires : goal.wait_for_desk-desk-requires
wait_for_desk-desk-requires g c = (c.args.at, c.args.shelf.value.content, (c.counts-before.ensures.counts c.args.shelf.value.content c.requires).0)

begins : (g : _) → (c : After-deref_mut-3 g) → BeginsPurge c.args.now c.args.shelf.value.content c.begin_purge-purging.result c.deref_mut-2.result.now.content
begins g c = subst (λ (t : ShelfState × ShelfState). BeginsPurge c.args.now t.0.content c.begin_purge-purging.result t.1.content)
    (λ i. (c.deref_mut.ensures.value i, sym c.deref_mut-2.ensures.value i)) c.begin_purge-purging.ensures.begins

here : (g : _) → (c : After-deref_mut-3 g)
    → HoldsBoth g.K.KeyHash.hash_of c.args.self.now c.wait_for_desk-desk.new.seat c.args.at c.args.shelf.value.content c.wait_for_desk-desk.result.value
here g c = c.wait_for_desk-desk.ensures.holds c.args.at c.args.shelf.value.content (c.counts-before.ensures.counts c.args.shelf.value.content c.requires).0

holds : (g : _) → (c : After-deref_mut-3 g)
    → HoldsBoth g.K.KeyHash.hash_of c.args.self.now c.wait_for_desk-desk.new.seat c.args.at c.args.shelf.value.content c.deref_mut-3.result.now
holds g c = subst (λ (d : DeskState). HoldsBoth g.K.KeyHash.hash_of c.args.self.now c.wait_for_desk-desk.new.seat c.args.at c.args.shelf.value.content d)
    (sym c.deref_mut-3.ensures.value) (here g c)

pub end_purge-requires : goal.end_purge-requires
end_purge-requires g c =
    let lent = (goal.at.end_purge-requires g c).After-deref_mut-3 in
    let h = holds g lent in
    let part = part_held (start_of g.K.KeyHash.hash_of c.args.self.now.began) c.args.at c.args.shelf.value.content c.deref_mut-3.result.now c.wait_for_desk-desk.new.seat.me.0
    (ap (λ (m : Mine). m.0.bays) h.held) h.fits in
    (c.args.shelf.value.content, begins g lent, part.0, part.1, part.2, part.3, part.4, part.5)

pub decide-requires : goal.decide-requires
decide-requires g c =
    let hash_of = g.K.KeyHash.hash_of in
    let board = c.self.inside.board.shared in
    let began = start_of hash_of board.key.value in
    let seat = c.wait_for_desk-desk.new.seat in
    let at = c.args.at in
    let old = c.args.shelf.value.content in
    let from = c.deref_mut-3.result.now in
    let new = c.end_purge.new.self.content in
    let to = c.end_purge.new.desk in
    let what = Purged at c.args.now in
    let inv = c.self.invariant in
    let lent = (goal.at.decide-requires g c).After-deref_mut-3 in
    let h = holds g lent in
    let here = subst (λ (s : SharedState g.row.K.Denot). HoldsBoth hash_of s seat at old from) (sym c.self.view_is) h in
    let some : Plain = after began began.plain here.fits.log in
    let bays : List (ℕ × Content) = (began.shelves, OfDesk from) ∷ (at, OfShelf old) ∷ [] in
    let fit : AllFit began some bays = subst (AllFit began some) (ap (λ (m : Mine). m.0.bays) here.held) here.fits.fits in
    let counted = subst (λ (s : SharedState g.row.K.Denot). AreCountsBy (hash_of s.began.hasher) old c.counts-before.result) (sym c.self.view_is)
    (c.counts-before.ensures.counts old c.requires).1 in
    subst (λ (t : DeskState × ShelfState). MayDecide board.table_id board.key.value seat c.self.inside.settings.shelves began (OfDesk t.0) what ((at, OfShelf t.1.content) ∷ [])
    (spread began.shelves (λ n. slice_index c.counts-before.result n - keys_with began.hash_of n t.1.content.items) 0 4096)) (λ i. (sym c.of.ensures i, sym c.deref.ensures i))
    (at_both hash_of board.table_id board.key.value c.args.self.now c.self.view_is inv.0 seat seat at c.self.inside.settings.shelves old from (OfDesk to) what
    ((at, OfShelf new) ∷ []) [] (spread began.shelves (λ n. slice_index c.counts-before.result n - keys_with began.hash_of n new.items) 0 4096)
    (ap (λ s. s.shelves) inv.1) h (refl, refl) (h.held ∙ sym (ap (λ (m : Mine). loaded m []) h.held))
    (applies began at old new from to what (λ m part desk. tt)
    (λ m part desk. c.end_purge.ensures.goes old began.hash_of began.shelves at m (begins g lent) part desk))
    (counts_swept began at inv.0.divides c.args.now old new (λ n k low high. words_apart began.shelves n k inv.0.divides low high)
    (λ n. slice_index c.counts-before.result n) counted.counted _ _ [] refl refl refl some fit
    (λ m fits. (fits.1.0.1, (to, c.end_purge.ensures.goes old began.hash_of began.shelves at m (begins g lent) fits.1.0.1 fits.0.1)))))

pub lower_words-requires-clause-named : goal.lower_words-requires-clause-named
lower_words-requires-clause-named g c =
    let hash_of = g.K.KeyHash.hash_of in
    let began = start_of hash_of c.self.inside.board.shared.key.value in
    let at = c.args.at in
    let old = c.args.shelf.value.content in
    let from = c.deref_mut-3.result.now in
    let new = c.end_purge.new.self.content in
    let lent = (goal.at.lower_words-requires-clause-named g c).After-deref_mut-3 in
    let here = subst (λ (s : SharedState g.row.K.Denot). HoldsBoth hash_of s c.wait_for_desk-desk.new.seat at old from) (sym c.self.view_is) (holds g lent) in
    let some : Plain = after began began.plain here.fits.log in
    let fit : AllFit began some ((began.shelves, OfDesk from) ∷ (at, OfShelf old) ∷ []) = subst (AllFit began some) (ap (λ (m : Mine). m.0.bays) here.held) here.fits.fits in
    let hashes : AreHashes new began.hash_of = (c.end_purge.ensures.goes old began.hash_of began.shelves at some (begins g lent) fit.1.0.1 fit.0.1).own.hashes in
    let counted = subst (λ (s : ShelfState). AreCountsOf s.content c.count_shelf-after.result) c.deref-2.ensures c.count_shelf-after.ensures in
    let before : ℕ → ℕ = λ n. slice_index c.counts-before.result n in
    let after_it : ℕ → ℕ = λ n. slice_index c.count_shelf-after.result n in
    let seen : (n : ℕ) → before n - keys_with began.hash_of n c.deref.result.now.content.items ≡ before n - keys_with began.hash_of n new.items =
    λ n. ap (λ (s : ShelfState). before n - keys_with began.hash_of n s.content.items) c.deref.ensures in
    ap (λ (m : Mine). m.0.surplus) c.decide.ensures.view.0
    ∙ (spread_alike began.shelves (λ n. before n - keys_with began.hash_of n c.deref.result.now.content.items) (λ n. before n - after_it n) 0 4096
    (λ n low high. seen n ∙ ap (λ (k : ℕ). before n - k) (sym (counted.counted began.hash_of hashes n (omega (arith, high)))))
    ∙ ap (λ (k : ℕ). spread k (λ n. before n - after_it n) 0 4096) (ap (λ s. s.shelves) c.self.invariant.1))

pub lower_words-requires-clause-seat : goal.lower_words-requires-clause-seat
lower_words-requires-clause-seat g c =
    let own = (here g (goal.at.lower_words-requires-clause-seat g c).After-deref_mut-3).own in
    record { own = c.decide.ensures.seat.0 ∙ (own ∙ sym (ap (λ (s : SharedState g.row.K.Denot). s.table) c.self.view_is)); fit = c.self.invariant.0 }

-- what is held then
alone : (g : _) → (c : After-lower_words g)
    → HoldsBoth g.K.KeyHash.hash_of c.args.self.now c.wait_for_desk-desk.new.seat c.args.at c.args.shelf.value.content c.wait_for_desk-desk.result.value
    → HoldsShelf g.K.KeyHash.hash_of c.args.self.now c.lower_words.new.seat c.args.at c.deref.result.now.content × (c.lower_words.new.seat.me.0.past
    ≡ call c.wait_for_desk-desk.new.seat.me.0.past (entry_of c.wait_for_desk-desk.new.seat.me.0.past (Purged c.args.at c.args.now)))
alone g c here =
    let board = c.self.inside.board.shared in
    let seat = c.wait_for_desk-desk.new.seat in
    left_held g.K.KeyHash.hash_of board.table_id board.key.value c.args.self.now c.self.view_is c.self.invariant.0 seat seat c.decide.new.seat c.lower_words.new.seat c.args.at
    c.args.shelf.value.content c.deref.result.now.content c.wait_for_desk-desk.result.value (Purged c.args.at c.args.now) [] _ here
    (refl, refl) (here.held ∙ sym (ap (λ (m : Mine). loaded m []) here.held)) c.decide.ensures.seat c.decide.ensures.view c.lower_words.ensures.seat c.lower_words.ensures.view

pub give_shelf-requires : goal.give_shelf-requires
give_shelf-requires g c =
    let at = goal.at.give_shelf-requires g c in
    subst (λ (s : ShelfState). HoldsShelf g.K.KeyHash.hash_of c.args.self.now c.lower_words.new.seat c.args.at s.content) c.deref.ensures
    (alone g at.After-lower_words (here g at.After-deref_mut-3)).0

pub returns-clause-purged : goal.returns-clause-purged
returns-clause-purged g c =
    let at = goal.at.returns-clause-purged g c in
    let was = c.wait_for_desk-desk.ensures.past ∙ c.counts-before.ensures.past in
    let past = c.give_shelf.ensures.past ∙ (alone g at.After-lower_words (here g at.After-deref_mut-3)).1 in
    record { past = past ∙ ap (λ (p : Past). call p (entry_of p (Purged c.args.at c.args.now))) was; agrees = c.give_shelf.ensures.agrees }
