use Rattle.std.proofs.Common.{◌≡◌, ◌+◌, ℕ, sym, subst, ◌∙◌, arith}
use Rattle.std.proofs.lemmas.List.Elements.{All-push}
use Rattle.std.specs.List.{All}
use Rattle.mc_slab.specs.PagesByClass.{IsChunkOf}
use Rattle.mc_slab.proofs.ChunkLemmas.{chunks_of}
use Rattle.mc_slab.proofs.class_pages.give_apart.Goals as goal

pub returns-clause-free : goal.returns-clause-free
returns-clause-free c =
    let one : c.loop.rest.count ≡ 1 = omega arith in
    subst (All (IsChunkOf c.args.chunks.class)) (sym c.push_reserved-2.ensures.items)
    (All-push (IsChunkOf c.args.chunks.class) c.loop.free.items c.loop.rest c.loop.invariant.free
    (chunks_of c.loop.rest c.args.chunks.class 1 c.loop.invariant.class one c.loop.invariant.are))

pub loop-preserved : goal.loop-preserved
loop-preserved c =
    let behind = c.taken_off-one.ensures.behind in
    let fewer : 1 + c.taken_off-one.result.1.count ≡ c.loop.rest.count = behind.1 in
    let all : c.loop.rest.count + c.loop.counter ≡ c.args.count + 1 = c.loop.invariant.count in
    let one : IsChunkOf c.args.chunks.class c.taken_off-one.result.0 = subst (λ (k : ℕ). IsChunkOf k c.taken_off-one.result.0) c.loop.invariant.class c.taken_off-one.ensures.one in
    record {
      class = behind.0 ∙ c.loop.invariant.class;
      count = omega arith;
      are = behind.2;
      free = subst (All (IsChunkOf c.args.chunks.class)) (sym c.push_reserved.ensures.items)
          (All-push (IsChunkOf c.args.chunks.class) c.loop.free.items c.taken_off-one.result.0 c.loop.invariant.free one);
      given = let more = c.push_reserved.ensures.len in let had = c.loop.invariant.given in omega arith;
      capacity = c.push_reserved.ensures.capacity ∙ c.loop.invariant.capacity;
    }
