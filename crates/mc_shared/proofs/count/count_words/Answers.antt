use Rattle.mc_shared.proofs.Words.{rules, arith, ◌/◌, ◌*◌, ◌+◌, ◌<◌, ℕ, refl, sym, ◌∙◌, subst, start_of, Mine, MayCount, AreKeys, ap, word_of, words_with}
use Rattle.mc_shared.proofs.StepsKept.{counts_keys}
use Rattle.mc_shared.proofs.CountLemmas.{row_number, row_below, rows_start, rows_next, rows_all}
use Rattle.mc_shared.proofs.count.count_words.Goals as goal

pub loop-row-init : goal.loop-row-init
loop-row-init g c = (
  refl,
  refl,
  refl,
  omega arith,
  rows_start (start_of g.K.KeyHash.hash_of c.args.board.now.shared.key.value) c.args.seat.now.me.0 c.args.step c.args.at _ c.no_counts-counts.ensures,
)

pub word_in-word-requires-clause-number : goal.word_in-word-requires-clause-number
word_in-word-requires-clause-number g c = row_below c.args.step c.args.at c.loop-row.row c.requires.step c.requires.inside (search rules)

pub load-requires : goal.load-requires
load-requires g c = (
  c.loop-row.invariant.0 ∙ c.requires.seat.own,
  subst (λ (n : ℕ). c.word_in-word.result < n) (ap words_with c.requires.shelves ∙ sym c.requires.seat.fit.wide) c.word_in-word.ensures.inside,
  counts_keys (start_of g.K.KeyHash.hash_of c.args.board.now.shared.key.value) _ _ c.word_in-word.result c.loop-row.seat.me,
)

pub loop-row-preserved : goal.loop-row-preserved
loop-row-preserved g c =
    let inv = c.loop-row.invariant in
    let began = start_of g.K.KeyHash.hash_of c.args.board.now.shared.key.value in
    let row = c.loop-row.row in
    let low : row < 4096 / c.args.step = search rules in
    let below = row_below c.args.step c.args.at row c.requires.step c.requires.inside low in
    let number : ℕ = row * c.args.step + c.args.at in
    let may = subst (λ (m : Mine). MayCount began m.0 number) (sym inv.2) (c.requires.may number below (row_number c.args.step c.args.at row c.requires.inside)) in
    let is = c.word_in-word.ensures.word ∙ ap (λ (s : ℕ). word_of s number) c.requires.shelves in (
      c.load.ensures.0 ∙ inv.0,
      c.load.ensures.1 ∙ inv.1,
      c.load.ensures.2.0 ∙ inv.2,
      omega (arith, low),
      rows_next began c.args.seat.now.me.0 c.args.step c.args.at row c.loop-row.counts c.load.result c.requires.inside below inv.4
          (subst (λ (m : Mine). AreKeys began m.0 number c.load.result) inv.2 (c.load.ensures.2.1 number is may)),
    )

pub returns-clause-keys : goal.returns-clause-keys
returns-clause-keys g c =
    rows_all (start_of g.K.KeyHash.hash_of c.args.board.now.shared.key.value) c.args.seat.now.me.0 c.args.step c.args.at c.loop-row.row c.loop-row.counts
    c.requires.step c.requires.inside (search rules) c.loop-row.invariant.4
