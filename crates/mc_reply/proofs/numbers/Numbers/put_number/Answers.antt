use Rattle.std.proofs.Common.{◌≤◌, ◌<◌, ◌^◌, ℕ, length, decimal, arith}
use Rattle.std.proofs.lemmas.Fmt.{length-decimal-le}
use Rattle.std.proofs.lemmas.Grind.{common_steps}
use Rattle.mc_reply.proofs.numbers.Numbers.put_number.Goals as goal

-- a number of 64 bits has at most 20 digits
short : (number : ℕ) → number < 2 ^ 64 → length (decimal number) ≤ 20
short number small = length-decimal-le 20 number (omega arith) (omega arith) small

pub write_digits-self-inside-requires : goal.write_digits-self-inside-requires
write_digits-self-inside-requires c = grind (arith, common_steps, short)

pub returns-clause-length : goal.returns-clause-length
returns-clause-length c = grind (arith, common_steps, short)
