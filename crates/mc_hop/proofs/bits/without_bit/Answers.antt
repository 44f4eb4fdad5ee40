use Rattle.std.proofs.Common.{w32}
use Rattle.std.proofs.lemmas.Nat.Bits.{bit_at_clear_same, bit_at_clear_other}
use Rattle.mc_hop.proofs.bits.without_bit.Goals as goal

pub returns-clause-clear : goal.returns-clause-clear
returns-clause-clear c = bit_at_clear_same w32 c.args.word c.args.bit c.requires

pub returns-clause-others : goal.returns-clause-others
returns-clause-others c j within other = bit_at_clear_other w32 c.args.word c.args.bit c.requires j within other
