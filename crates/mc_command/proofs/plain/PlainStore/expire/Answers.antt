use Rattle.std.proofs.Common.{Option, ap}
use Rattle.mc_protocol.specs.Plain.{Entry, expiring}
use Rattle.mc_command.specs.Steps.{found}
use Rattle.mc_command.proofs.WriteLemmas.{found-get}
use Rattle.mc_command.proofs.plain.PlainStore.expire.Goals as goal

pub returns : goal.returns
returns c =
    let key = c.args.key.now in
    let mid = found key c.args.self.now c.args.now in
    rw (c.set_expiry.ensures, c.drop_dead.ensures)
    (ap (λ (item : Option Entry). expiring item key c.args.expiry mid) (found-get c.args.self.now key c.args.now))
