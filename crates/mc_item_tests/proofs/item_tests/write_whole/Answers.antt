use Rattle.std.proofs.Common.{◌≡◌, ◌∙◌, ap, arith}
use Rattle.mc_slab.specs.Needs.{NeedState, size_in}
use Rattle.mc_item.specs.Items.{item_need}
use Rattle.mc_item_tests.proofs.item_tests.write_whole.Goals as goal

pub rewrite-requires-clause-room : goal.rewrite-requires-clause-room
rewrite-requires-clause-room g c =
    let room : c.room_of-room.result ≡ size_in (item_need c.args.item.now) = c.room_of-room.ensures ∙ ap (λ (n : NeedState). size_in n) c.need.ensures.value in
    omega arith
