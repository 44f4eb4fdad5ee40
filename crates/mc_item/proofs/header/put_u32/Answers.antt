use Rattle.std.proofs.Common.{refl}
use Rattle.mc_item.specs.Layout.{number_bytes}
use Rattle.mc_item.proofs.LayoutLemmas.{take-field, drop-field}
use Rattle.mc_item.proofs.header.put_u32.Goals as goal

pub returns-clause-before : goal.returns-clause-before
unfolding number_bytes
returns-clause-before c = rw c.write_u32.ensures (take-field c.args.offset 4 c.args.bytes.now (number_bytes 4 c.args.number) c.requires refl)

pub returns-clause-behind : goal.returns-clause-behind
unfolding number_bytes
returns-clause-behind c = rw c.write_u32.ensures (drop-field c.args.offset 4 c.args.bytes.now (number_bytes 4 c.args.number) c.requires refl)
