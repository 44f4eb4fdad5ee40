use Rattle.mc_grow.proofs.Words.{◌≡◌, ◌*◌, ◌%◌, ◌^◌, ◌≤◌, arith, pow-le-pow_right}
use Rattle.mc_grow.proofs.index.Index.homes.Goals as goal

pub returns-clause-range : goal.returns-clause-range
returns-clause-range g c =
    let k = c.exponent.result in
    let low : 2 ^ 6 ≤ 2 ^ k = pow-le-pow_right {n = 2} (omega arith) c.exponent.ensures.range.0 in
    let high : 2 ^ k ≤ 2 ^ 24 = pow-le-pow_right {n = 2} (omega arith) c.exponent.ensures.range.1 in
    let same : 1 * 2 ^ k % 18446744073709551616 ≡ 2 ^ k = omega arith in
    (omega arith, omega arith)
