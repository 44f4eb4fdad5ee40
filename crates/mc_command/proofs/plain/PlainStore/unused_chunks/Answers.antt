use Rattle.std.proofs.Common.{◌≡◌, ◌+◌, ◌-◌, arith}
use Rattle.mc_protocol.specs.Plain.{count_of, standing}
use Rattle.mc_command.proofs.RoomLemmas.{found-unused}
use Rattle.mc_command.proofs.plain.PlainStore.unused_chunks.Goals as goal

pub returns-clause-value : goal.returns-clause-value
returns-clause-value c =
    let old = c.args.self.now in
    let class = c.args.class in
    let all : c.chunks_but.result ≡ (c.chunks.result + c.dead_chunks.result) - count_of old.items class = rw (← c.self.view_is) c.chunks_but.ensures in
    let sums = found-unused (standing old c.args.key.now c.args.now) old c.args.key.now class in
    omega (arith, c.chunks.ensures.value, c.dead_chunks.ensures.value)
