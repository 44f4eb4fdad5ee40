use Rattle.std.proofs.Common.{◌≡◌, length, take, drop, ℕ, List, arith, decimal, sym, ◌∙◌, ap, refl}
use Rattle.std.proofs.lemmas.List.{length-take-le}
use Rattle.mc_slab.specs.Needs.{NeedState}
use Rattle.mc_item.specs.Items.{start_of}
use Rattle.mc_item.specs.Layout.{key_in, key_length_in, header_in, item_in, Header}
use Rattle.mc_item.proofs.RunLemmas.{length-key_in, head_reach, behind_at, Headed-anew, Headed-kept, Lies, item_in-Lies, HoldsItem-Lies}
use Rattle.mc_item.proofs.run.write_number.Goals as goal

pub put_header-requires-clause-room : goal.put_header-requires-clause-room
put_header-requires-clause-room c = let reach = head_reach c.args.chunks.now c.requires.item in omega arith

-- the header that is written
abbrev header : goal.After-buffer-2-1 → Header
header c = record (header_in c.args.chunks.now.head) { unique = c.args.unique; updated = c.args.updated; block_length = length c.as_bytes-digits.result.now }

lies : (c : goal.After-buffer-2-1) → Lies c.args.chunks.now.class (header c) (key_in c.args.chunks.now.head) c.as_bytes-digits.result.now c.put.new.chunks.head c.put.new.chunks.bytes
lies c =
    let digits : List ℕ = c.as_bytes-digits.result.now in
    let key : List ℕ = key_in c.args.chunks.now.head in
    let is : header_in c.put_header.new.chunks.head ≡ header c = c.put_header.ensures.value ∙ c.header_bytes.ensures.value ∙ cc in
    let length_is : c.key_length_in.result ≡ key_length_in c.args.chunks.now.head = cc in
    let size : length key ≡ key_length_in c.args.chunks.now.head = length-key_in c.args.chunks.now c.requires.item in
    let start : ℕ = c.block_start-start.result in
    let most = c.block_start-start.ensures.most in
    let place : start_of c.args.chunks.now.class (length key) ≡ start = ap (start_of c.args.chunks.now.class) (size ∙ sym length_is) ∙ sym c.block_start-start.ensures.value in
    let front : List ℕ = take start c.put_header.new.chunks.bytes in
    let room = c.requires.room in
    let long : length front ≡ start = length-take-le start c.put_header.new.chunks.bytes (omega arith) in
    let anew = Headed-anew c.args.chunks.now (header c) c.put_header.new.chunks.head c.requires.item is c.put_header.ensures.behind in
    record {
      headed = Headed-kept c.args.chunks.now.class (header c) key c.put_header.new.chunks c.put.new.chunks start (ap (λ (n : NeedState). n.class) c.put_header.ensures.need) anew (omega arith) c.put.ensures.head;
      key_length = sym size;
      block_length = refl;
      block_is = ap (λ (n : ℕ). take (length digits) (drop n c.put.new.chunks.bytes)) place ∙ behind_at start front digits c.put.new.chunks.bytes long c.put.ensures.before;
    }

digits_are : (c : goal.After-buffer-2-1) → c.as_bytes-digits.result.now ≡ decimal c.args.number
digits_are c = c.as_bytes-digits.ensures.value ∙ c.format.ensures.text

pub returns-clause-value : goal.returns-clause-value
returns-clause-value c =
    item_in-Lies (header c) (key_in c.args.chunks.now.head) c.as_bytes-digits.result.now c.put.new.chunks c.args.chunks.now (lies c) (c.put.ensures.need ∙ c.put_header.ensures.need)
    ∙ ap (λ (digits : List ℕ). record (item_in c.args.chunks.now) { block = digits; unique = c.args.unique; updated = c.args.updated }) (digits_are c)

pub returns-clause-holds : goal.returns-clause-holds
returns-clause-holds c =
    let size = length-key_in c.args.chunks.now c.requires.item in
    let digits : length c.as_bytes-digits.result.now ≡ length (decimal c.args.number) = ap length (digits_are c) in
    HoldsItem-Lies _ (header c) (key_in c.args.chunks.now.head) c.as_bytes-digits.result.now c.put.new.chunks (lies c) c.put.ensures.are (omega arith) (omega arith) c.header_bytes.ensures.latest
