use Rattle.std.proofs.Common.{◌≡◌, Err, rules}
use Rattle.std.specs.Prelude.{decimal}
use Rattle.mc_command.specs.Steps.{number_in}
use Rattle.mc_command.proofs.WriteLemmas.{write-is, write-stays, Ends-refused, Ends-finished}
use Rattle.mc_command.proofs.plain.PlainStore.write.Goals as goal

pub prepare-requires-clause-stays : goal.prepare-requires-clause-stays
prepare-requires-clause-stays c =
    let digits : c.as_bytes-digits.result.now ≡ decimal (number_in c.in-Writes.body) = search rules in
    write-stays c.in-Writes.flags c.in-Writes.expiry c.in-Writes.body c.key-key.result.now c.block.result.now c.block_in.result.now c.as_bytes-digits.result.now _ c.args.self.now c.args.now
    c.standing_item-item.result c.stays-stays.result
    c.standing_item-item.ensures c.block_in.ensures digits c.halves.ensures c.stays-stays.ensures

pub returns-in_err-next : goal.returns-in_err-next
returns-in_err-next c =
    let digits : c.as_bytes-digits.result.now ≡ decimal (number_in c.in-Writes.body) = search rules in
    let fault : c.from_residual.result ≡ Err c.in_err-next.field-0.0 = search rules in
    Ends-refused _ _ c.prepare.result c.in_err-next.field-0.0 c.from_residual.result c.key-key.result.now c.args.self.now c.args.now
    (write-is c.in-Writes.flags c.in-Writes.expiry c.in-Writes.body c.key-key.result.now c.block.result.now c.block_in.result.now c.as_bytes-digits.result.now _ c.args.self.now c.args.now
    c.standing_item-item.result c.stays-stays.result
    c.standing_item-item.ensures c.block_in.ensures digits c.halves.ensures c.stays-stays.ensures
    c.args.row c.args.step.now c.in-Writes.is c.key-key.ensures c.block.ensures c.reply-reply.result c.reply-reply.ensures)
    c.prepare.ensures c.in_err-next.was fault

pub returns : goal.returns
returns c =
    let digits : c.as_bytes-digits.result.now ≡ decimal (number_in c.in-Writes.body) = search rules in
    Ends-finished _ _ c.in_ok-next.next c.finish.result c.key-key.result.now c.args.self.now c.finish.new.self c.args.now
    (write-is c.in-Writes.flags c.in-Writes.expiry c.in-Writes.body c.key-key.result.now c.block.result.now c.block_in.result.now c.as_bytes-digits.result.now _ c.args.self.now c.args.now
    c.standing_item-item.result c.stays-stays.result
    c.standing_item-item.ensures c.block_in.ensures digits c.halves.ensures c.stays-stays.ensures
    c.args.row c.args.step.now c.in-Writes.is c.key-key.ensures c.block.ensures c.reply-reply.result c.reply-reply.ensures)
    c.in_ok-next.ensures c.finish.ensures
