use Rattle.std.proofs.Common.{◌≡◌, ◌+◌, ◌*◌, ◌<◌, ◌≤◌, ℕ, length, vec_capacity, sym, ap, subst, ◌∙◌, arith}
use Rattle.std.proofs.lemmas.List.Elements.{All-push}
use Rattle.std.proofs.Math.Nat.{mul-le-mul_right}
use Rattle.std.specs.List.{All}
use Rattle.mc_slab.specs.Classes.{size_of}
use Rattle.mc_slab.specs.PagesByClass.{IsChunkOf}
use Rattle.mc_slab.proofs.run.cut_bytes.Goals as goal

-- while chunks are to be cut, there is memory for one
room_left : (made count size left : ℕ) → made < count → made * size + left ≡ count * size → size ≤ left
room_left made count size left fewer sum =
    let more : (made + 1) * size ≤ count * size = mul-le-mul_right size (omega arith) in
    let one : (made + 1) * size ≡ made * size + size = omega arith in
    omega arith

pub write_zeros-requires : goal.write_zeros-requires
write_zeros-requires c = subst (λ (n : ℕ). c.args.count * n ≤ vec_capacity c.args.bytes) (sym c.size.ensures.value) c.requires.bytes

pub cut-chunk-requires-clause-room : goal.cut-chunk-requires-clause-room
cut-chunk-requires-clause-room c = room_left c.loop.counter c.args.count (size_of c.args.class) _ c.loop-test.true c.loop.invariant.rest

pub loop-preserved : goal.loop-preserved
loop-preserved c =
    let rest = c.loop.invariant.rest in
    let back = c.cut-chunk.ensures.rest in
    record {
      rest = omega arith;
      made = c.push_reserved.ensures.len ∙ ap (λ (n : ℕ). n + 1) c.loop.invariant.made;
      chunks = subst (All (IsChunkOf c.args.class)) (sym c.push_reserved.ensures.items)
          (All-push (IsChunkOf c.args.class) c.loop.chunks.items c.cut-chunk.result.0 c.loop.invariant.chunks c.cut-chunk.ensures.chunk);
      capacity = c.push_reserved.ensures.capacity ∙ c.loop.invariant.capacity;
    }
