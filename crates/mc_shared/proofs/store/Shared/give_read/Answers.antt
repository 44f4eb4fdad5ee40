use Rattle.mc_shared.proofs.Words.{[], sym, ◌∙◌, subst, hit_of, ShelfState, OfShelf, start_of, Stepped, MayDecide, HoldsShelf, stood}
use Rattle.mc_shared.proofs.Held.{at_settled}
use Rattle.mc_shared.proofs.HitLemmas.{read_on_key}
use Rattle.mc_shared.proofs.store.Shared.give_read.Goals as goal

pub decide-requires : goal.decide-requires
decide-requires g c =
    let board = c.self.inside.board.shared in
    let ask = c.args.ask.now in
    let step = ask.step.now in
    let old = c.deref_mut.result.now.content in
    let holds = subst (λ (s : ShelfState). HoldsShelf g.K.KeyHash.hash_of c.args.self.now c.args.seat.now ask.at s.content) (sym c.deref_mut.ensures.value) c.requires.holds in
    let told = c.deref_mut.ensures.value ∙ sym (c.of-before.ensures ∙ c.deref.ensures) in
    subst (λ (t : ShelfState × ShelfState). MayDecide board.table_id board.key.value c.args.seat.now ask.at (start_of g.K.KeyHash.hash_of board.key.value) (OfShelf t.0.content)
    (Stepped step ask.moment (hit_of (stood t.1.content step ask.moment))) [] []) (λ i. (sym c.of.ensures i, told i))
    (at_settled g.K.KeyHash.hash_of board.table_id board.key.value c.args.self.now c.self.view_is c.self.invariant.0 c.args.seat.now ask old c.settle_read.new.self.content
    (hit_of (stood old step ask.moment)) holds c.requires.asked (read_on_key step c.requires.read) c.settle_read.ensures)
