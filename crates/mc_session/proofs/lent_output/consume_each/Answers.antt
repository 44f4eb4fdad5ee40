use Rattle.std.proofs.Common.{◌∙◌, ◌-◌, ap, min}
use Rattle.mc_session.proofs.LendingLemmas.{dropped_each}
use Rattle.mc_session.proofs.lent_output.consume_each.Goals as goal

pub returns-clause-bytes : goal.returns-clause-bytes
returns-clause-bytes c =
    rw (c.consume.ensures.bytes, c.consume-2.ensures, c.consume-3.ensures.bytes)
    (dropped_each c.args.n c.min-of_head.result c.min-of_parts.result c.args.head.now.bytes c.args.behind.now.parts c.args.behind.now.tail.bytes
    (c.min-of_head.ensures ∙ ap (λ k. min c.args.n k) c.len.ensures)
    (c.min-of_parts.ensures ∙ ap (λ k. min (c.args.n - c.min-of_head.result) k) c.len-2.ensures.all))
