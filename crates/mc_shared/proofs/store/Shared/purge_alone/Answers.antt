use Rattle.mc_shared.proofs.Words.{rules, ◌≡◌, [], refl, sym, subst, Plain, next, ShelfState, IsShelfOf, OfShelf, start_of, Purged, MayDecide}
use Rattle.mc_shared.proofs.Decisions.{changes_nothing}
use Rattle.mc_shared.proofs.Held.{at_shelf}
use Rattle.mc_shared.proofs.NumberSteps.{counts_same}
use Rattle.mc_shared.proofs.store.Shared.purge_alone.Goals as goal

pub decide-requires : goal.decide-requires
decide-requires g c =
    let board = c.self.inside.board.shared in
    let began = start_of g.K.KeyHash.hash_of board.key.value in
    let at = c.args.at in
    let shelf = c.args.shelf.value in
    let what = Purged at c.args.now in
    let stays : (m : Plain) → IsShelfOf began.hash_of began.shelves m at shelf.content → next began m what ≡ m = λ m part. c.may_have_dead.ensures.part (search rules) began.hash_of
    began.shelves at m (subst (λ (s : ShelfState). IsShelfOf began.hash_of began.shelves m at s.content) (sym c.deref.ensures) part) in
    subst (λ (s : ShelfState). MayDecide board.table_id board.key.value c.args.seat.now at began (OfShelf s.content) what [] []) (sym c.of.ensures)
    (at_shelf g.K.KeyHash.hash_of board.table_id board.key.value c.args.self.now c.self.view_is c.self.invariant.0 c.args.seat.now at shelf.content (OfShelf shelf.content) what [] []
    c.requires (changes_nothing began at shelf.content what (λ m part. (tt, stays m part))) (counts_same began _ _ what refl refl (λ m fits. stays m fits.0.1)))
