use Rattle.mc_shared.proofs.Words.{rules, arith, ◌≡◌, ◌+◌, ◌-◌, ◌≤◌, ◌<◌, ◌++◌, ℕ, replicate, slice_index, sym, ap, ◌∙◌, word_of, spread, loaded}
use Rattle.mc_shared.proofs.SpreadLemmas.{spread_next, spread_end}
use Rattle.mc_shared.proofs.count.lower_words.Goals as goal

pub lower_all-requires-clause-named : goal.lower_all-requires-clause-named
lower_all-requires-clause-named g c =
    let shelves = c.args.shelves in
    let number = c.loop-number.number in
    let gone : ℕ → ℕ = λ n. slice_index c.args.before.now n - slice_index c.args.after.now n in
    let low : number < 4096 = search rules in
    let is : c.saturating_sub-gone.result ≡ gone number = search rules in
    let more = spread shelves gone (number + 1) (4096 - (number + 1)) in
    (more, ap (λ m. m.0.surplus) c.loop-number.invariant.3 ∙ (spread_next shelves gone number low ∙ ap (λ (k : ℕ). replicate k (word_of shelves number) ++ more) (sym is)))

pub loop-number-preserved : goal.loop-number-preserved
loop-number-preserved g c =
    let inv = c.loop-number.invariant in
    let shelves = c.args.shelves in
    let number = c.loop-number.number in
    let gone : ℕ → ℕ = λ n. slice_index c.args.before.now n - slice_index c.args.after.now n in
    let low : number < 4096 = search rules in
    let is : c.saturating_sub-gone.result ≡ gone number = search rules in
    let more = spread shelves gone (number + 1) (4096 - (number + 1)) in (
      c.lower_all.ensures.seat.0 ∙ inv.0,
      c.lower_all.ensures.seat.1 ∙ inv.1,
      omega (arith, low),
      c.lower_all.ensures.view more (ap (λ m. m.0.surplus) inv.3 ∙ (spread_next shelves gone number low ∙ ap (λ (k : ℕ). replicate k (word_of shelves number) ++ more) (sym is)))
          ∙ ap (λ m. loaded m more) inv.3,
    )

pub returns-clause-view : goal.returns-clause-view
returns-clause-view g c =
    let inv = c.loop-number.invariant in
    let gone : ℕ → ℕ = λ n. slice_index c.args.before.now n - slice_index c.args.after.now n in
    let all : 4096 ≤ c.loop-number.number = search rules in
    inv.3 ∙ ap (λ more. loaded c.args.seat.now.me more) (spread_end c.args.shelves gone c.loop-number.number all)
