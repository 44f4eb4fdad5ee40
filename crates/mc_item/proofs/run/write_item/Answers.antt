use Rattle.std.proofs.Common.{◌≡◌, ◌+◌, ◌++◌, length, take, drop, ℕ, List, arith, ◌∙◌, ap, sym}
use Rattle.std.proofs.lemmas.List.{length-append}
use Rattle.mc_slab.specs.Needs.{NeedState}
use Rattle.mc_item.specs.Layout.{Header}
use Rattle.mc_item.proofs.LayoutLemmas.{start_of-above}
use Rattle.mc_item.proofs.RunLemmas.{head_room, Headed-put, Headed-kept, Lies, item_in-Lies, HoldsItem-Lies}
use Rattle.mc_item.proofs.run.write_item.Goals as goal

pub put_header-requires-clause-room : goal.put_header-requires-clause-room
put_header-requires-clause-room c = let reach = head_room c.args.chunks.now _ _ c.requires.are c.requires.short c.requires.room in omega arith

pub put_head-requires-clause-room : goal.put_head-requires-clause-room
put_head-requires-clause-room c = let reach = head_room c.args.chunks.now _ _ c.requires.are c.requires.short c.requires.room in omega arith

pub put_block-requires-clause-begin : goal.put_block-requires-clause-begin
put_block-requires-clause-begin c = λ above.
    let same : c.put_head.new.chunks.class ≡ c.args.chunks.now.class = ap (λ (n : NeedState). n.class) (c.put_head.ensures.need ∙ c.put_header.ensures.need) in
    c.block_start-start.ensures.value ∙ start_of-above c.args.chunks.now.class _ (omega (arith, above, same))

pub put_block-requires-clause-room : goal.put_block-requires-clause-room
put_block-requires-clause-room c =
    let most = c.block_start-start.ensures.most in
    omega arith

-- the header that is written
abbrev header : goal.After-put_block → Header
header c = record {
  hash = c.args.parts.now.hash;
  flags = c.args.parts.now.flags;
  expiry = c.args.parts.now.expiry;
  unique = c.args.parts.now.unique;
  updated = c.args.parts.now.updated;
  key_length = length c.args.parts.now.key.now;
  block_length = c.length_in-block_length.result;
}

lies : (c : goal.After-put_block) → Lies c.args.chunks.now.class (header c) c.args.parts.now.key.now (c.args.parts.now.first.now ++ c.args.parts.now.second.now) c.put_block.new.chunks.head c.put_block.new.chunks.bytes
lies c =
    let key : List ℕ = c.args.parts.now.key.now in
    let block : List ℕ = c.args.parts.now.first.now ++ c.args.parts.now.second.now in
    let size : length block ≡ length c.args.parts.now.first.now + length c.args.parts.now.second.now = length-append c.args.parts.now.first.now c.args.parts.now.second.now in
    let start = c.block_start-start.ensures.value in
    let same : c.put_head.new.chunks.class ≡ c.args.chunks.now.class = ap (λ (n : NeedState). n.class) (c.put_head.ensures.need ∙ c.put_header.ensures.need) in
    let reach = head_room c.args.chunks.now _ _ c.requires.are c.requires.short c.requires.room in
    let first = Headed-put (header c) key c.put_header.new.chunks.head c.put_head.new.chunks.head (c.put_header.ensures.value ∙ c.header_bytes.ensures.value) (omega arith) c.put_head.ensures.before in
    record {
      headed = Headed-kept c.args.chunks.now.class (header c) key c.put_head.new.chunks c.put_block.new.chunks _ same first (omega arith) c.put_block.ensures.head;
      key_length = omega arith;
      block_length = omega (arith, size, c.length_in-block_length.ensures.value);
      block_is = ap (λ (n : ℕ). take (length block) (drop n c.put_block.new.chunks.bytes)) (sym start)
          ∙ ap (λ (n : ℕ). take n (drop c.block_start-start.result c.put_block.new.chunks.bytes)) size
          ∙ c.put_block.ensures.block;
    }

pub returns-clause-value : goal.returns-clause-value
returns-clause-value c = item_in-Lies (header c) c.args.parts.now.key.now (c.args.parts.now.first.now ++ c.args.parts.now.second.now) c.put_block.new.chunks c.args.chunks.now (lies c) cc

pub returns-clause-holds : goal.returns-clause-holds
returns-clause-holds c =
    HoldsItem-Lies _ (header c) c.args.parts.now.key.now (c.args.parts.now.first.now ++ c.args.parts.now.second.now) c.put_block.new.chunks (lies c) c.put_block.ensures.are c.requires.short
    (simp length-append (omega arith)) c.header_bytes.ensures.latest
