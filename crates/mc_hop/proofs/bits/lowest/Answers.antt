use Rattle.std.proofs.Common.{arith, w32}
use Rattle.std.proofs.lemmas.Nat.Bits.{bit_at-trailing_zeros}
use Rattle.mc_hop.proofs.bits.lowest.Goals as goal

pub returns-clause-set : goal.returns-clause-set
returns-clause-set c = (bit_at-trailing_zeros w32 c.args.word (omega (arith, c.requires)) c.ranges.word.fits).1

pub returns-clause-lowest : goal.returns-clause-lowest
returns-clause-lowest c = (bit_at-trailing_zeros w32 c.args.word (omega (arith, c.requires)) c.ranges.word.fits).2
