use Rattle.std.proofs.Common.{◌≡◌, ℕ, length, refl, arith, sym, ap, subst, ◌∙◌}
use Rattle.mc_slab.specs.Needs.{NeedState}
use Rattle.mc_item.specs.Layout.{block_in, Header}
use Rattle.mc_item.proofs.RunLemmas.{head_room, Headed-put, Lies, Lies-Headed, item_in-Lies, HoldsItem-Lies}
use Rattle.mc_item.proofs.run.write_head.Goals as goal

pub put_header-requires-clause-room : goal.put_header-requires-clause-room
put_header-requires-clause-room c = let reach = head_room c.args.chunks.now _ c.args.block_len c.requires.are c.requires.short c.requires.room in omega arith

pub put_head-requires-clause-room : goal.put_head-requires-clause-room
put_head-requires-clause-room c = let reach = head_room c.args.chunks.now _ c.args.block_len c.requires.are c.requires.short c.requires.room in omega arith

-- the header that is written
abbrev header : goal.After-put_head → Header
header c = record {
  hash = c.args.parts.now.hash;
  flags = c.args.parts.now.flags;
  expiry = c.args.parts.now.expiry;
  unique = c.args.parts.now.unique;
  updated = c.args.parts.now.updated;
  key_length = length c.args.parts.now.key.now;
  block_length = c.length_in.result;
}

lies : (c : goal.After-put_head) → Lies c.args.chunks.now.class (header c) c.args.parts.now.key.now (block_in c.put_head.new.chunks) c.put_head.new.chunks.head c.put_head.new.chunks.bytes
lies c =
    let reach = head_room c.args.chunks.now _ c.args.block_len c.requires.are c.requires.short c.requires.room in
    let headed = Headed-put (header c) c.args.parts.now.key.now c.put_header.new.chunks.head c.put_head.new.chunks.head (c.put_header.ensures.value ∙ c.header_bytes.ensures.value) (omega arith) c.put_head.ensures.before in
    let same : c.put_head.new.chunks.class ≡ c.args.chunks.now.class = ap (λ (n : NeedState). n.class) (c.put_head.ensures.need ∙ c.put_header.ensures.need) in
    subst (λ (n : ℕ). Lies n (header c) c.args.parts.now.key.now (block_in c.put_head.new.chunks) c.put_head.new.chunks.head c.put_head.new.chunks.bytes) same
    (Lies-Headed (header c) c.args.parts.now.key.now c.put_head.new.chunks headed refl (omega (arith, c.length_in.ensures.value, c.requires.room)))

pub returns-clause-value : goal.returns-clause-value
returns-clause-value c = item_in-Lies (header c) c.args.parts.now.key.now (block_in c.put_head.new.chunks) c.put_head.new.chunks c.args.chunks.now (lies c) cc

pub returns-clause-length : goal.returns-clause-length
returns-clause-length c = sym (lies c).block_length ∙ c.length_in.ensures.value

pub returns-clause-holds : goal.returns-clause-holds
returns-clause-holds c =
    let block = (lies c).block_length in
    HoldsItem-Lies _ (header c) c.args.parts.now.key.now (block_in c.put_head.new.chunks) c.put_head.new.chunks (lies c) c.put_head.ensures.are
    c.requires.short (omega arith) c.header_bytes.ensures.latest
