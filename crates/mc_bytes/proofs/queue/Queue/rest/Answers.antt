use Rattle.std.proofs.Common.{ap, arith, length, length-drop}
use Rattle.mc_bytes.proofs.queue.Queue.rest.Goals as goal

pub returns-clause-empty : goal.returns-clause-empty
returns-clause-empty g c = λ none.
    let left = ap length none in
    let all = length-drop c.self.inside.taken c.give_back.new.self.bytes in
    let same = ap length c.give_back.ensures.same in
    omega (arith, c.capacity.ensures.all, c.min.ensures, c.give_back.ensures.small (omega (arith, same, c.self.invariant.some (omega (arith, left, all, same)))))
