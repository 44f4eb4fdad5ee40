use Rattle.std.proofs.Common.{◌≡◌, ◌≤◌, ◌∙◌, length, decimal, ap, arith}
use Rattle.std.proofs.lemmas.Fmt.{length-decimal-le}
use Rattle.mc_slab.specs.Needs.{NeedState, size_in}
use Rattle.mc_item.specs.Items.{item_need}
use Rattle.mc_item_tests.proofs.item_tests.rewrite.Goals as goal

pub rewrite_number-requires : goal.rewrite_number-requires
rewrite_number-requires g c =
    let digits : length (decimal c.args.number) ≤ 20 = length-decimal-le 20 c.args.number (omega arith) (omega arith) (omega arith) in
    let room : c.room_of-room.result ≡ size_in (item_need c.args.item.now) = c.room_of-room.ensures ∙ ap (λ (n : NeedState). size_in n) c.need.ensures.value in
    let key = ap length c.key-key.ensures.value in
    record { room = omega arith }
