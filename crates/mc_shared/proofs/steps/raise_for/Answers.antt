use Rattle.mc_shared.proofs.Words.{sym, ap, ◌∙◌, ◌+◌, ◌%◌, ◌<◌, ◌^◌, subst, ℕ, Allows, step, none, start_of, Kept, added, word_of, words_with}
use Rattle.mc_shared.proofs.StepsKept.{adds_one}
use Rattle.mc_shared.proofs.steps.raise_for.Goals as goal

pub fetch_add-requires : goal.fetch_add-requires
fetch_add-requires g c =
    let board = c.args.board.now.shared in
    let began = start_of g.K.KeyHash.hash_of board.key.value in (
      c.requires.seat.own,
      subst (λ (k : ℕ). c.word_in-word.result < k) (ap words_with c.requires.shelves ∙ sym c.requires.seat.fit.wide) c.word_in-word.ensures.inside,
      subst (λ (x : ℕ). Allows (Kept began) board.table_id.slots c.args.seat.now.id c.args.seat.now.me x (λ k. (k + 1) % 2 ^ 64)
          (added (step board.table_id.slots x 1 0 none) c.args.seat.now.me))
          (sym (c.word_in-word.ensures.word ∙ ap (λ (s : ℕ). word_of s c.args.number) c.requires.shelves)) (adds_one began _ _ c.args.number c.args.seat.now.me c.requires.may),
    )
