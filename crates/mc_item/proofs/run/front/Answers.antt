use Rattle.std.proofs.Common.{◌≡◌, ◌^◌, ◌≤◌, length, ap, sym, subst, arith}
use Rattle.mc_item.specs.Layout.{header_in, Header}
use Rattle.mc_item.proofs.RunLemmas.{head_reach}
use Rattle.mc_item.proofs.run.front.Goals as goal

pub returns-clause-room : goal.returns-clause-room
returns-clause-room c =
    let reach = head_reach c.args.chunks.now c.requires in
    let size : length c.head.result.now ≡ length c.args.chunks.now.head = ap length c.head.ensures.value in
    omega arith

pub returns-clause-latest : goal.returns-clause-latest
returns-clause-latest c = subst (λ (h : Header). h.updated ≤ 2 ^ 62) (sym (ap header_in c.head.ensures.value)) c.requires.updated
