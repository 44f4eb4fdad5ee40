use Rattle.std.proofs.Common.{◌≡◌, ◌+◌, ℕ, arith, ◌∙◌, ap, subst}
use Rattle.mc_slab.specs.Chunks.{with_part}
use Rattle.mc_item.specs.Layout.{key_in, block_in, block_start, key_length_in, header_in, KeepsHead, Header}
use Rattle.mc_item.proofs.LayoutLemmas.{length-with_part}
use Rattle.mc_item.proofs.PartLemmas.{with_part-from}
use Rattle.mc_item.proofs.RunLemmas.{chunks_most, start_read, length-key_in, length-block_in, Lies, Lies-written, item_in-Lies, HoldsItem-Lies}
use Rattle.mc_item.proofs.run.write_block.Goals as goal

pub overflow_add-start : goal.overflow_add-start
overflow_add-start c =
    let most = chunks_most c.args.chunks.now c.requires.item.are in
    let room = c.requires.item.room in
    let start = c.block_start-start.ensures.most in
    let k : c.key_length_in.result ≡ key_length_in c.args.chunks.now.head = c.key_length_in.ensures ∙ ap (λ (h : Header). h.key_length) c.front.ensures.header in
    omega arith

-- where the block begins
start : (c : goal.After-put) → c.block_start-start.result ≡ block_start c.args.chunks.now
start c = start_read c.args.chunks.now _ _ _ c.block_start-start.ensures.value c.key_length_in.ensures c.front.ensures.header

lies : (c : goal.After-put) → Lies c.args.chunks.now.class (header_in c.args.chunks.now.head) (key_in c.args.chunks.now.head) (with_part (block_in c.args.chunks.now) c.args.at c.args.part.now) c.put.new.chunks.head c.put.new.chunks.bytes
lies c =
    let is : c.put.new.chunks.bytes ≡ with_part c.args.chunks.now.bytes (block_start c.args.chunks.now + c.args.at) c.args.part.now =
    with_part-from (c.block_start-start.result + c.args.at) c.args.part.now c.put.new.chunks.bytes c.args.chunks.now.bytes c.put.ensures.before c.put.ensures.behind
    ∙ ap (λ (n : ℕ). with_part c.args.chunks.now.bytes (n + c.args.at) c.args.part.now) (start c) in
    Lies-written c.args.chunks.now c.put.new.chunks c.args.at c.args.part.now c.requires.item c.requires.room
    (subst (λ (n : ℕ). KeepsHead c.args.chunks.now c.put.new.chunks (n + c.args.at)) (start c) c.put.ensures.head) is

pub returns-clause-value : goal.returns-clause-value
returns-clause-value c = item_in-Lies (header_in c.args.chunks.now.head) (key_in c.args.chunks.now.head) _ c.put.new.chunks c.args.chunks.now (lies c) c.put.ensures.need

pub returns-clause-holds : goal.returns-clause-holds
returns-clause-holds c =
    let key = length-key_in c.args.chunks.now c.requires.item in
    let block = length-block_in c.args.chunks.now c.requires.item in
    let written = length-with_part c.args.at c.args.part.now (block_in c.args.chunks.now) (let r = c.requires.room in omega arith) in
    let size = c.put.ensures.size in
    let short = c.requires.item.key in
    let room = c.requires.item.room in
    HoldsItem-Lies _ (header_in c.args.chunks.now.head) (key_in c.args.chunks.now.head)
    (with_part (block_in c.args.chunks.now) c.args.at c.args.part.now) c.put.new.chunks (lies c) c.put.ensures.are (omega arith) (omega arith) c.requires.item.updated
