use Rattle.std.proofs.Common.{ap, ◌∙◌, ◌++◌, take, drop}
use Rattle.std.proofs.Math.Seq.{take-add}
use Rattle.mc_bytes.specs.Queues.{BufferState}
use Rattle.mc_bytes.proofs.buffer.Buffer.push_from.Goals as goal

pub returns-in-Ok-clause-ok : goal.returns-in-Ok-clause-ok
returns-in-Ok-clause-ok g c =
    let n = c.self.inside.filled in
    let count = c.read_behind-count.result.0 in
    let all = c.read_behind-count.new.all.items in
    let piece = take count (drop n all) in
    record {
      piece = piece;
      gave = c.read_behind-count.ensures.gives;
      becomes = take-add n count all ∙ ap (λ front. front ++ piece) (c.read_behind-count.ensures.same ∙ c.in-Ok.ensures.same ∙ ap (λ (b : BufferState). b.bytes) c.self.view_is);
    }
