use Rattle.std.proofs.Common.{◌∙◌, ap, arith, length, length-drop}
use Rattle.mc_bytes.specs.Queues.{QueueState}
use Rattle.mc_bytes.proofs.queue.Queue.capacity.Goals as goal

pub returns-clause-empty : goal.returns-clause-empty
returns-clause-empty g c = λ none.
    let left = ap length (ap (λ (q : QueueState). q.bytes) c.self.view_is ∙ none) in
    let all = length-drop c.self.inside.taken c.self.inside.buffer.bytes in
    omega (arith, c.capacity.ensures.all, c.self.invariant.small (c.self.invariant.some (omega (arith, left, all))))
