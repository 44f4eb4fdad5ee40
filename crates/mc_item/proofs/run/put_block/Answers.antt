use Rattle.std.proofs.Common.{◌≡◌, ◌+◌, ◌++◌, length, take, drop, ℕ, List, arith, refl, sym, ◌∙◌, ap, subst, append_assoc}
use Rattle.std.proofs.lemmas.List.{length-append, length-take-le}
use Rattle.mc_slab.specs.Chunks.{ChunksState, need_in}
use Rattle.mc_item.specs.Layout.{KeepsHead}
use Rattle.mc_item.proofs.RunLemmas.{behind_at, chunks_most, KeepsHead-twice}
use Rattle.mc_item.proofs.run.put_block.Goals as goal

pub overflow_add-offset : goal.overflow_add-offset
overflow_add-offset c =
    let most = chunks_most c.args.chunks.now c.requires.are in
    let room = c.requires.room in
    omega arith

pub returns-clause-head : goal.returns-clause-head
returns-clause-head c =
    let first = subst (λ (s : ChunksState). KeepsHead s c.put.new.chunks c.args.offset) (c.if-take_over.ensures.kept refl) c.put.ensures.head in
    KeepsHead-twice c.args.chunks.now c.put.new.chunks c.put-2.new.chunks c.args.offset _ (c.put.ensures.need ∙ ap need_in (c.if-take_over.ensures.kept refl)) (omega arith) first
    c.put-2.ensures.head

pub returns-clause-block : goal.returns-clause-block
returns-clause-block c =
    let block : List ℕ = c.args.first.now ++ c.args.second.now in
    let size : length block ≡ length c.args.first.now + length c.args.second.now = length-append c.args.first.now c.args.second.now in
    let start : ℕ = c.args.offset in
    let front : List ℕ = take start c.take_over.new.chunks.bytes in
    let kept : length c.take_over.new.chunks.bytes ≡ length c.args.chunks.now.bytes = ap (λ (s : ChunksState). length s.bytes) (c.if-take_over.ensures.kept refl) in
    let room = c.requires.room in
    let place : start + length block ≡ start + length c.args.first.now + length c.args.second.now = omega arith in
    let run : take (start + length c.args.first.now + length c.args.second.now) c.put-2.new.chunks.bytes ≡ (front ++ c.args.first.now) ++ c.args.second.now =
    c.put-2.ensures.before ∙ ap (λ (l : List ℕ). l ++ c.args.second.now) c.put.ensures.before in
    let long : length front ≡ start = length-take-le start c.take_over.new.chunks.bytes (omega arith) in
    ap (λ (n : ℕ). take n (drop start c.put-2.new.chunks.bytes)) (sym size)
    ∙ behind_at start front block c.put-2.new.chunks.bytes long
    (ap (λ (n : ℕ). take n c.put-2.new.chunks.bytes) place ∙ run ∙ append_assoc front c.args.first.now c.args.second.now)
