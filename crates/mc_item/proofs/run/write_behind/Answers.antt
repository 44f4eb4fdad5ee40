use Rattle.std.proofs.Common.{◌≡◌, ◌+◌, ◌++◌, length, take, drop, ℕ, List, arith, sym, ◌∙◌, ap, subst}
use Rattle.std.proofs.lemmas.List.{length-append}
use Rattle.mc_slab.specs.Needs.{NeedState}
use Rattle.mc_item.specs.Items.{start_of}
use Rattle.mc_item.specs.Layout.{key_in, block_in, block_start, key_length_in, block_length_in, header_in, Header}
use Rattle.mc_item.proofs.LayoutLemmas.{bytes_behind}
use Rattle.mc_item.proofs.RunLemmas.{length-key_in, length-block_in, head_reach, block_behind, Headed-anew, Headed-kept, Lies, item_in-Lies, HoldsItem-Lies}
use Rattle.mc_item.proofs.run.write_behind.Goals as goal

pub put_header-requires-clause-room : goal.put_header-requires-clause-room
put_header-requires-clause-room c = let reach = head_reach c.args.chunks.now c.requires.item in omega arith

-- the header that is written
abbrev header : goal.After-put → Header
header c = record (header_in c.args.chunks.now.head) {
  flags = c.args.flags;
  expiry = c.args.expiry;
  unique = c.args.unique;
  updated = c.args.updated;
  block_length = block_length_in c.args.chunks.now.head + length c.args.more.now;
}

lies : (c : goal.After-put) → Lies c.args.chunks.now.class (header c) (key_in c.args.chunks.now.head) (block_in c.args.chunks.now ++ c.args.more.now) c.put.new.chunks.head c.put.new.chunks.bytes
lies c =
    let old : List ℕ = c.args.chunks.now.head in
    let key : List ℕ = key_in old in
    let block : List ℕ = block_in c.args.chunks.now in
    let more : List ℕ = c.args.more.now in
    let headed : List ℕ = c.put_header.new.chunks.head in
    let k : c.key_length_in.result ≡ key_length_in old = cc in
    let m : c.block_length_in-block_len.result ≡ block_length_in old = cc in
    let long : c.length_in.result ≡ block_length_in old + length more = c.length_in.ensures.value ∙ ap (λ (n : ℕ). n + length more) m in
    let is : header_in headed ≡ header c = c.put_header.ensures.value ∙ c.header_bytes.ensures.value ∙ cc in
    let key_size = length-key_in c.args.chunks.now c.requires.item in
    let block_size = length-block_in c.args.chunks.now c.requires.item in
    let joined : length (block ++ more) ≡ length block + length more = length-append block more in
    let begin : c.block_start-start.result ≡ block_start c.args.chunks.now = c.block_start-start.ensures.value ∙ ap (start_of c.args.chunks.now.class) k in
    let begins : start_of c.args.chunks.now.class (length key) ≡ block_start c.args.chunks.now = ap (start_of c.args.chunks.now.class) key_size in
    let start : c.block_start-start.result + c.block_length_in-block_len.result ≡ block_start c.args.chunks.now + block_length_in old = omega (arith, begin, m) in
    let before : take (block_start c.args.chunks.now + block_length_in old + length more) c.put.new.chunks.bytes
    ≡ take (block_start c.args.chunks.now + block_length_in old) c.put_header.new.chunks.bytes ++ more =
    subst (λ (n : ℕ). take (n + length more) c.put.new.chunks.bytes ≡ take n c.put_header.new.chunks.bytes ++ more) start c.put.ensures.before in
    let anew = Headed-anew c.args.chunks.now (header c) headed c.requires.item is c.put_header.ensures.behind in
    let size : length (block ++ more) ≡ block_length_in old + length more = omega (arith, block_size, joined) in
    record {
      headed = Headed-kept c.args.chunks.now.class (header c) key c.put_header.new.chunks c.put.new.chunks _ (ap (λ (n : NeedState). n.class) c.put_header.ensures.need) anew
          (omega (arith, begin, begins)) c.put.ensures.head;
      key_length = sym key_size;
      block_length = sym size;
      block_is = ap (λ (n : ℕ). take n (drop (start_of c.args.chunks.now.class (length key)) c.put.new.chunks.bytes)) size
          ∙ ap (λ (n : ℕ). take (block_length_in old + length more) (drop n c.put.new.chunks.bytes)) begins
          ∙ block_behind c.args.chunks.now more c.put_header.new.chunks.bytes c.put.new.chunks.bytes c.requires.item
          (bytes_behind c.args.chunks.now c.put_header.new.chunks (key_length_in old) c.put_header.ensures.bytes) c.put_header.ensures.size before;
    }

pub returns-clause-value : goal.returns-clause-value
returns-clause-value c =
    item_in-Lies (header c) (key_in c.args.chunks.now.head) (block_in c.args.chunks.now ++ c.args.more.now) c.put.new.chunks c.args.chunks.now
    (lies c) (c.put.ensures.need ∙ c.put_header.ensures.need)

pub returns-clause-holds : goal.returns-clause-holds
returns-clause-holds c =
    let key_size = length-key_in c.args.chunks.now c.requires.item in
    let block_size = length-block_in c.args.chunks.now c.requires.item in
    let joined : length (block_in c.args.chunks.now ++ c.args.more.now) ≡ length (block_in c.args.chunks.now) + length c.args.more.now
    = length-append (block_in c.args.chunks.now) c.args.more.now in
    let room = c.requires.room in
    HoldsItem-Lies _ (header c) (key_in c.args.chunks.now.head) (block_in c.args.chunks.now ++ c.args.more.now) c.put.new.chunks (lies c) c.put.ensures.are
    (omega (arith, key_size, c.requires.item.key)) (omega (arith, key_size, block_size, joined, room, c.put.ensures.size, c.put_header.ensures.size)) c.header_bytes.ensures.latest
