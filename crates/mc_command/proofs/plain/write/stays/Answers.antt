use Rattle.std.proofs.Common.{rules}
use Rattle.mc_command.proofs.WriteLemmas.{stays-kept}
use Rattle.mc_command.proofs.plain.write.stays.Goals as goal

pub returns-in-Some : goal.returns-in-Some
returns-in-Some c = λ block made.
    stays-kept c.args.body c.in-Counted.field-0 c.args.key.now block c.args.write.now.block c.args.item c.in-Some.item c.need.result
    c.need-in-Some.result c.are_same.result c.requires (search rules) c.in-Counted.is c.in-Some.is made c.are_same.ensures
    c.need.ensures.value c.need-in-Some.ensures.value
