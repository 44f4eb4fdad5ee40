use Rattle.std.proofs.Common.{◌≡◌, ℕ, length, take, drop, arith, sym, ◌∙◌, ap, refl}
use Rattle.mc_item.specs.Items.{start_of}
use Rattle.mc_item.specs.Layout.{key_in, block_in, block_length_in, header_in, Header}
use Rattle.mc_item.proofs.LayoutLemmas.{bytes_behind}
use Rattle.mc_item.proofs.RunLemmas.{length-key_in, length-block_in, head_reach, Headed-anew, Lies, item_in-Lies, HoldsItem-Lies}
use Rattle.mc_item.proofs.run.write_expiry.Goals as goal

pub put_header-requires-clause-room : goal.put_header-requires-clause-room
put_header-requires-clause-room c = let reach = head_reach c.args.chunks.now c.requires in omega arith

-- the header that is written
abbrev header : goal.After-put_header → Header
header c = record (header_in c.args.chunks.now.head) { expiry = c.args.expiry }

lies : (c : goal.After-put_header) → Lies c.args.chunks.now.class (header c) (key_in c.args.chunks.now.head) (block_in c.args.chunks.now) c.put_header.new.chunks.head c.put_header.new.chunks.bytes
lies c =
    let key_fits = length-key_in c.args.chunks.now c.requires in
    let block_fits = length-block_in c.args.chunks.now c.requires in
    let key : ℕ = length (key_in c.args.chunks.now.head) in
    let behind : drop (start_of c.args.chunks.now.class key) c.put_header.new.chunks.bytes ≡ drop (start_of c.args.chunks.now.class key) c.args.chunks.now.bytes =
    bytes_behind c.args.chunks.now c.put_header.new.chunks key c.put_header.ensures.bytes in
    let is : header_in c.put_header.new.chunks.head ≡ header c = c.put_header.ensures.value ∙ c.header_bytes.ensures.value ∙ cc in
    record {
      headed = Headed-anew c.args.chunks.now (header c) c.put_header.new.chunks.head c.requires is c.put_header.ensures.behind;
      key_length = sym key_fits;
      block_length = sym block_fits;
      block_is = rw block_fits (ap (take (block_length_in c.args.chunks.now.head)) behind ∙ rw key_fits refl);
    }

pub returns-clause-value : goal.returns-clause-value
returns-clause-value c = item_in-Lies (header c) (key_in c.args.chunks.now.head) (block_in c.args.chunks.now) c.put_header.new.chunks c.args.chunks.now (lies c) cc

pub returns-clause-holds : goal.returns-clause-holds
returns-clause-holds c =
    let key_fits = length-key_in c.args.chunks.now c.requires in
    let block_fits = length-block_in c.args.chunks.now c.requires in
    HoldsItem-Lies _ (header c) (key_in c.args.chunks.now.head) (block_in c.args.chunks.now) c.put_header.new.chunks (lies c) c.put_header.ensures.are
    (omega arith) (omega arith) c.requires.updated
