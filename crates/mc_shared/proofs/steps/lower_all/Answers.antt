use Rattle.mc_shared.proofs.Words.{rules, ◌<◌, ◌++◌, ℕ, replicate, sym, ap, ◌∙◌, subst, start_of, words_with}
use Rattle.mc_shared.proofs.StepsKept.{takes_many}
use Rattle.mc_shared.proofs.steps.lower_all.Goals as goal

pub fetch_sub-requires : goal.fetch_sub-requires
fetch_sub-requires g c =
    let more = c.requires.named.0 in (
      c.requires.seat.own,
      subst (λ (k : ℕ). c.word_in-word.result < k) (ap words_with c.requires.shelves ∙ sym c.requires.seat.fit.wide) c.word_in-word.ensures.inside,
      takes_many (start_of g.K.KeyHash.hash_of c.args.board.now.shared.key.value) _ _ c.word_in-word.result c.args.count more c.args.seat.now.me (search rules)
          (c.requires.named.1 ∙ ap (λ (w : ℕ). replicate c.args.count w ++ more) (sym c.word_in-word.ensures.word)),
    )
