use Rattle.std.proofs.Common.{◌≡◌, ◌+◌, ℕ, length, take, ap, sym, ◌∙◌, arith}
use Rattle.std.proofs.lemmas.List.{take_all}
use Rattle.mc_item.proofs.RunLemmas.{header_in-front}
use Rattle.mc_item.proofs.run.put_header.Goals as goal

pub returns-clause-value : goal.returns-clause-value
returns-clause-value c =
    let size : length c.args.header.now ≡ 48 = omega arith in
    let whole : 48 ≡ 0 + length c.args.header.now = omega arith in
    let taken : take 48 c.put_head.new.chunks.head ≡ take 48 c.args.header.now =
    ap (λ (n : ℕ). take n c.put_head.new.chunks.head) whole ∙ c.put_head.ensures.before ∙ sym (take_all 48 c.args.header.now (omega arith)) in
    header_in-front c.put_head.new.chunks.head c.args.header.now taken
