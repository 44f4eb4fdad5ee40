use Rattle.std.proofs.Common.{◌≡◌, ◌∙◌, ap, arith}
use Rattle.mc_slab.specs.Needs.{NeedState, size_in}
use Rattle.mc_item.specs.Items.{charge_of, item_need}
use Rattle.mc_item_tests.proofs.item_tests.extend.Goals as goal

pub extend-requires : goal.extend-requires
extend-requires g c =
    let room : c.room_of-room.result ≡ size_in (item_need c.args.item.now) = c.room_of-room.ensures ∙ ap (λ (n : NeedState). size_in n) c.need.ensures.value in
    let charge : c.charge-charge.result ≡ charge_of c.args.item.now = c.charge-charge.ensures.value in
    record { room = omega arith }
