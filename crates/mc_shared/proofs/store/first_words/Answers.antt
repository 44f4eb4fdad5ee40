use Rattle.mc_shared.proofs.Words.{rules, arith, ◌<◌, ◌≤◌, refl}
use Rattle.mc_shared.proofs.Opening.{fills_one, are_first}
use Rattle.mc_shared.proofs.store.first_words.Goals as goal

pub loop-number-preserved : goal.loop-number-preserved
loop-number-preserved c =
    let inv = c.loop-number.invariant in
    let number = c.loop-number.number in
    let counts = c.count_shelves-counts.result in
    let low : number < 4096 = search rules in (
      omega (arith, low),
      fills_one c.args.count c.loop-number.words.items counts number c.word_in.result _ c.requires.divides low inv.1 c.word_in.ensures.word refl,
    )

pub returns : goal.returns
returns c start is parts =
    let all : 4096 ≤ c.loop-number.number = search rules in
    are_first c.args.count c.loop-number.words.items c.count_shelves-counts.result c.args.shelves.now c.requires.divides c.loop-number.number all
    c.loop-number.invariant.1 c.count_shelves-counts.ensures start is parts
