use Rattle.mc_shared.proofs.Words.{rules, arith, ◌≡◌, ◌%◌, ◌<◌, ℕ, eqb, mod-lt, refl, sym, subst, Allows, step, none, StoreState, start_of, Past, IsShown, Kept, number_of, sought, word_of}
use Rattle.mc_shared.proofs.Showing.{shown}
use Rattle.mc_shared.proofs.StepsKept.{seeks}
use Rattle.mc_shared.proofs.WordLemmas.{word_inside}
use Rattle.mc_shared.proofs.store.Shared.absent_hashed.Goals as goal

pub load_as-requires : goal.load_as-requires
load_as-requires g c = let board = c.self.inside.board.shared in
    let began = start_of g.K.KeyHash.hash_of board.key.value in
    let key = c.args.key.now in
    let n : ℕ = number_of began.hash_of key in
    let below : began.hash_of key % 4096 < 4096 = mod-lt (began.hash_of key) (omega arith) in
    let is : c.word_in-word.result ≡ word_of began.shelves n = search rules in (
      search rules,
      (let wide = c.self.invariant.0.wide in let low = word_inside began.shelves n c.self.invariant.0.divides below in omega (arith, wide, is, low)),
      subst (λ (x : ℕ). Allows (Kept began) board.table_id.slots c.caller.inside.seat.id c.caller.inside.seat.me x (λ k. k)
          (sought began key c.args.now n (step board.table_id.slots x 0 0 none) c.caller.inside.seat.me))
          (sym is) (seeks began _ _ key c.args.now n c.caller.inside.seat.me below refl c.caller.invariant.2),
    )

pub returns-clause-shows : goal.returns-clause-shows
returns-clause-shows g c =
    let began = start_of g.K.KeyHash.hash_of c.self.inside.board.shared.key.value in
    subst (λ (t : StoreState g.row.K.Denot × Past). IsShown (start_of g.K.KeyHash.hash_of t.0) t.1 c.args.key.now (eqb c.load_as.result 0)) (λ i. ((c.self.view_is i).began, (c.caller.view_is i).past))
    (shown began c.caller.inside.seat.me.0 c.args.key.now c.load_as.result c.load_as.ensures.then.2 c.caller.invariant.1)
