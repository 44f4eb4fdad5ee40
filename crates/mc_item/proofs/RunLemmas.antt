-- What a run of bytes shows in which a header, a key and a block were written.
use Rattle.std.proofs.Common.{◌≡◌, ◌⊎◌, ℕ, ◌+◌, ◌-◌, ◌*◌, ◌^◌, ◌<◌, ◌≤◌, suc, inl, inr, List, ◌∷◌, ◌++◌, length, take, drop, refl, sym, ap, subst, ◌∙◌, min, Some, arith}
use Rattle.std.proofs.lemmas.Nat.{mul-le}
use Rattle.std.proofs.Math.Nat.{suc-mul}
use Rattle.std.proofs.lemmas.Bool.{cases_lt}
use Rattle.std.proofs.lemmas.List.{length-take-le, length-drop, take_all, take_at, drop_at, drop-append-le, drop-take, take-take}
use Rattle.byteorder.specs.Numbers.{little_from-take}
use Rattle.mc_slab.specs.Classes.{size_of}
use Rattle.mc_slab.specs.Needs.{NeedState, size_in}
use Rattle.mc_slab.specs.Chunks.{ChunksState, AreChunks, chunk_at, need_in, with_part, written_cut}
use Rattle.mc_slab.proofs.BlockLemmas.{block-written}
use Rattle.mc_slab.proofs.ClassLemmas.{size_of-last, size_of-most}
use Rattle.mc_item.specs.Items.{ItemState, IsItem, charge_of, front_of, parts_of, pieces, start_of}
use Rattle.mc_item.specs.Layout.{number_at, header_in, item_in, key_in, block_in, block_start, key_length_in, block_length_in, HoldsItem, KeepsBytes, KeepsHead, Header}
use Rattle.mc_item.proofs.LayoutLemmas.{length-with_part, drop-with_part, start_of-below, start_of-above, start_of-most}
use Rattle.mc_item.proofs.PartLemmas.{concat-cut, length-pieces, slice_get-pieces, part_within, take-written, with_part-behind}
use Rattle.std.specs.Prelude.{slice_get}
use Rattle.std.specs.List.{concat}

-- a number in front of a place is read from what is in front of it
number_at-take : (offset count more : ℕ) (bytes : List ℕ) → count ≤ more → number_at offset count (take (offset + more) bytes) ≡ number_at offset count bytes
unfolding number_at
number_at-take offset count more bytes within = rw (drop-take offset more bytes) (little_from-take 0 count more (drop offset bytes) (omega arith))

-- the header is read from the first 48 bytes
header_in-take : (bytes : List ℕ) → header_in (take 48 bytes) ≡ header_in bytes
header_in-take bytes =
    rw (
      number_at-take 0 8 48 bytes (omega arith),
      number_at-take 8 4 40 bytes (omega arith),
      number_at-take 12 4 36 bytes (omega arith),
      number_at-take 16 8 32 bytes (omega arith),
      number_at-take 24 8 24 bytes (omega arith),
      number_at-take 32 8 16 bytes (omega arith),
      number_at-take 40 4 8 bytes (omega arith),
      number_at-take 44 4 4 bytes (omega arith),
    ) refl

pub header_in-front : (xs ys : List ℕ) → take 48 xs ≡ take 48 ys → header_in xs ≡ header_in ys
header_in-front xs ys same = sym (header_in-take xs) ∙ ap header_in same ∙ header_in-take ys

-- a head in which a header and a key stand
pub record Headed (header : Header) (key head : List ℕ) : Type 0 where
  pub header_is : header_in head ≡ header
  pub key_is : take (length key) (drop 48 head) ≡ key

-- an item in chunks of a class: its header and its key in the head, and its block in the bytes
pub record Lies (class : ℕ) (header : Header) (key block head bytes : List ℕ) : Type 0 where
  pub headed : Headed header key head
  pub key_length : header.key_length ≡ length key
  pub block_length : header.block_length ≡ length block
  pub block_is : take (length block) (drop (start_of class (length key)) bytes) ≡ block

-- what was written behind a front
pub behind_at : (n : ℕ) (front block bytes : List ℕ) → length front ≡ n → take (n + length block) bytes ≡ front ++ block → take (length block) (drop n bytes) ≡ block
behind_at n front block bytes size is = sym (drop-take n (length block) bytes) ∙ ap (drop n) is ∙ drop_at front block n size

-- a key that was written behind a header
pub Headed-put : (header : Header) (key headed head : List ℕ) → header_in headed ≡ header → 48 ≤ length headed → take (48 + length key) head ≡ take 48 headed ++ key → Headed header key head
Headed-put header key headed head is long before =
    let size : length (take 48 headed) ≡ 48 = length-take-le 48 headed long in
    let front : take 48 head ≡ take 48 headed =
    sym (take-take 48 (48 + length key) head (omega arith)) ∙ ap (take 48) before ∙ take_at (take 48 headed) key 48 size in
    record {
      header_is = header_in-front head headed front ∙ is;
      key_is = behind_at 48 (take 48 headed) key head size before;
    }

-- a head that stayed in front of a place behind the key
Headed-front : (header : Header) (key old new : List ℕ) (n : ℕ) → Headed header key old → 48 + length key ≤ n → take n new ≡ take n old → Headed header key new
Headed-front header key old new n headed within same =
    let whole : take (48 + length key) new ≡ take (48 + length key) old =
    sym (take-take (48 + length key) n new within) ∙ ap (take (48 + length key)) same ∙ take-take (48 + length key) n old within in
    let front : take 48 new ≡ take 48 old = sym (take-take 48 n new (omega arith)) ∙ ap (take 48) same ∙ take-take 48 n old (omega arith) in
    record {
      header_is = header_in-front new old front ∙ headed.header_is;
      key_is = sym (drop-take 48 (length key) new) ∙ ap (drop 48) whole ∙ drop-take 48 (length key) old ∙ headed.key_is;
    }

-- the head of chunks of a class that stayed in front of a place in the block
pub Headed-kept : (class : ℕ) (header : Header) (key : List ℕ) (old new : ChunksState) (n : ℕ) → old.class ≡ class → Headed header key old.head
    → start_of class (length key) ≤ n → KeepsHead old new n → Headed header key new.head
Headed-kept class header key old new n same headed within keeps = go (cases_lt class 27)
  where
    go : (class < 27) ⊎ (27 ≤ class) → Headed header key new.head
    go (inl below) =
        let start = start_of-below class (length key) below in
        Headed-front header key old.head new.head n headed (omega arith) keeps.front
    go (inr above) = subst (Headed header key) (sym (keeps.beside (omega (arith, above, same)))) headed

-- a header and a key, whatever is in the bytes
pub Lies-Headed : (header : Header) (key : List ℕ) (chunks : ChunksState) → Headed header key chunks.head → header.key_length ≡ length key
    → 48 + length key + header.block_length ≤ length chunks.bytes → Lies chunks.class header key (block_in chunks) chunks.head chunks.bytes
Lies-Headed header key chunks headed k room =
    let k' : key_length_in chunks.head ≡ length key = ap (λ (h : Header). h.key_length) headed.header_is ∙ k in
    let l' : block_length_in chunks.head ≡ header.block_length = ap (λ (h : Header). h.block_length) headed.header_is in
    let start : ℕ = start_of chunks.class (length key) in
    let is : block_in chunks ≡ take header.block_length (drop start chunks.bytes) =
    ap (λ (n : ℕ). take n (drop (block_start chunks) chunks.bytes)) l' ∙ ap (λ (n : ℕ). take header.block_length (drop (start_of chunks.class n) chunks.bytes)) k' in
    let most = start_of-most chunks.class (length key) in
    let size : length (block_in chunks) ≡ header.block_length =
    ap length is ∙ length-take-le header.block_length (drop start chunks.bytes) (simp length-drop (omega arith)) in
    record {
      headed = headed;
      key_length = k;
      block_length = sym size;
      block_is = ap (λ (n : ℕ). take n (drop start chunks.bytes)) size ∙ sym is;
    }

-- the item that such chunks show
pub item_in-Lies : (header : Header) (key block : List ℕ) (chunks old : ChunksState) → Lies old.class header key block chunks.head chunks.bytes → need_in chunks ≡ need_in old
    → item_in chunks ≡ record {
      hash = header.hash;
      key = key;
      flags = header.flags;
      expiry = header.expiry;
      block = block;
      unique = header.unique;
      updated =
          header.updated;
      class = old.class;
      count = old.count;
    }
item_in-Lies header key block chunks old lies same =
    let k : key_length_in chunks.head ≡ length key = ap (λ (h : Header). h.key_length) lies.headed.header_is ∙ lies.key_length in
    let l : block_length_in chunks.head ≡ length block = ap (λ (h : Header). h.block_length) lies.headed.header_is ∙ lies.block_length in
    let key_is : key_in chunks.head ≡ key = rw k lies.headed.key_is in
    let class : chunks.class ≡ old.class = ap (λ (n : NeedState). n.class) same in
    let block_is : block_in chunks ≡ block = rw (k, l, class) lies.block_is in
    let item : Header → List ℕ → List ℕ → NeedState → ItemState =
    λ h a b n. record { hash = h.hash; key = a; flags = h.flags; expiry = h.expiry; block = b; unique = h.unique; updated = h.updated; class = n.class; count = n.count } in
    ap (λ (h : Header). item h (key_in chunks.head) (block_in chunks) (need_in chunks)) lies.headed.header_is
    ∙ ap (λ (a : List ℕ). item header a (block_in chunks) (need_in chunks)) key_is
    ∙ ap (λ (b : List ℕ). item header key b (need_in chunks)) block_is
    ∙ ap (λ (n : NeedState). item header key block n) same

-- and it is one
pub HoldsItem-Lies : (class : ℕ) (header : Header) (key block : List ℕ) (chunks : ChunksState) → Lies class header key block chunks.head chunks.bytes → AreChunks chunks → length key ≤ 250
    → 48 + length key + length block ≤ length chunks.bytes → header.updated ≤ 2 ^ 62 → HoldsItem chunks
HoldsItem-Lies class header key block chunks lies are short room latest =
    let k : key_length_in chunks.head ≡ length key = ap (λ (h : Header). h.key_length) lies.headed.header_is ∙ lies.key_length in
    let l : block_length_in chunks.head ≡ length block = ap (λ (h : Header). h.block_length) lies.headed.header_is ∙ lies.block_length in
    record {
      are = are;
      key = omega arith;
      room = omega arith;
      updated = subst (λ (h : Header). h.updated ≤ 2 ^ 62) (sym lies.headed.header_is) latest;
    }

-- a header and a key have room in the head of chunks in which they have room
pub head_room : (chunks : ChunksState) (key rest : ℕ) → AreChunks chunks → key ≤ 250 → 48 + key + rest ≤ length chunks.bytes → 48 + key ≤ length chunks.head
head_room chunks key rest are short room = go (cases_lt chunks.class 27)
  where
    go : (chunks.class < 27) ⊎ (27 ≤ chunks.class) → 48 + key ≤ length chunks.head
    go (inl below) = let same : length chunks.head ≡ length chunks.bytes = ap length (are.is_head.same below) in omega arith
    go (inr above) = let size : length chunks.head ≡ 304 = are.is_head.beside above in omega arith

pub head_reach : (chunks : ChunksState) → HoldsItem chunks → 48 + key_length_in chunks.head ≤ length chunks.head
head_reach chunks holds = head_room chunks (key_length_in chunks.head) (block_length_in chunks.head) holds.are holds.key holds.room

-- how long a key and a block are that lie in the chunks
pub length-key_in : (chunks : ChunksState) → HoldsItem chunks → length (key_in chunks.head) ≡ key_length_in chunks.head
length-key_in chunks holds =
    let room = head_reach chunks holds in
    length-take-le (key_length_in chunks.head) (drop 48 chunks.head) (simp length-drop (omega arith))

pub length-block_in : (chunks : ChunksState) → HoldsItem chunks → length (block_in chunks) ≡ block_length_in chunks.head
length-block_in chunks holds =
    let room = holds.room in
    let most = start_of-most chunks.class (key_length_in chunks.head) in
    length-take-le (block_length_in chunks.head) (drop (block_start chunks) chunks.bytes) (simp length-drop (omega arith))

-- the head of an item whose header was written anew
pub Headed-anew : (chunks : ChunksState) (header : Header) (head : List ℕ) → HoldsItem chunks → header_in head ≡ header → drop 48 head ≡ drop 48 chunks.head → Headed header (key_in chunks.head) head
Headed-anew chunks header head holds is behind = record {
  header_is = is;
  key_is = rw (length-key_in chunks holds) (ap (take (key_length_in chunks.head)) behind);
}

-- what such an item's charge is, and that it is one
pub charge_of-item_in : (chunks : ChunksState) → HoldsItem chunks → charge_of (item_in chunks) ≡ 48 + key_length_in chunks.head + block_length_in chunks.head
charge_of-item_in chunks holds = rw (length-key_in chunks holds, length-block_in chunks holds) refl

pub IsItem-item_in : (chunks : ChunksState) → HoldsItem chunks → IsItem (item_in chunks)
IsItem-item_in chunks holds =
    let key : length (key_in chunks.head) ≤ 250 = rw (length-key_in chunks holds) holds.key in
    let fits : charge_of (item_in chunks) ≤ size_in (need_in chunks) = rw (charge_of-item_in chunks holds, ← holds.are.size) holds.room in
    record { is_need = holds.are.is_need; key = key; fits = fits }

-- chunks have at most 8388608 bytes
pub chunks_most : (chunks : ChunksState) → AreChunks chunks → length chunks.bytes ≤ 8388608
chunks_most chunks are =
    let size : size_of chunks.class ≤ 1048576 = size_of-most chunks.class are.is_need.is_class in
    let most : chunks.count * size_of chunks.class ≤ 8 * 1048576 = mul-le chunks.count (size_of chunks.class) 8 1048576 are.is_need.most size in
    rw are.size most

-- room for a block in the chunks is room in their bytes
pub room_in : (chunks : ChunksState) (size : ℕ) → HoldsItem chunks → 48 + length (key_in chunks.head) + size ≤ size_in (need_in chunks) → 48 + key_length_in chunks.head + size ≤ length chunks.bytes
room_in chunks size holds room = rw (← length-key_in chunks holds, holds.are.size) room

-- the header and the key of an item lie in its first chunk
pub head_within : (item : ItemState) → IsItem item → 48 + length item.key ≤ size_of item.class
head_within item is =
    let fits = is.fits in
    let short : 48 + length item.key ≤ 1048576 = let k = is.key in omega arith in
    elim is.is_need.pages as (λ _. 48 + length item.key ≤ size_of item.class) [
      | inl one ↦ let size : item.count * size_of item.class ≡ 1 * size_of item.class = ap (λ (n : ℕ). n * size_of item.class) one in omega arith
      | inr last ↦ subst (λ (class : ℕ). 48 + length item.key ≤ size_of class) (sym last) (rw size_of-last short)
    ]

-- where it begins, as the key's length is read
pub start_read : (chunks : ChunksState) (head : List ℕ) (start key : ℕ) → start ≡ start_of chunks.class key → key ≡ key_length_in head → header_in head ≡ header_in chunks.head
    → start ≡ block_start chunks
start_read chunks head start key is read same = is ∙ ap (start_of chunks.class) (read ∙ ap (λ (h : Header). h.key_length) same)

-- chunk by chunk they have room in the bytes
pub chunk_within : (chunks : ChunksState) (at : ℕ) → AreChunks chunks → at < chunks.count → at * size_of chunks.class + size_of chunks.class ≤ length chunks.bytes
chunk_within chunks at are below =
    let more : suc at * size_of chunks.class ≤ chunks.count * size_of chunks.class = mul-le (suc at) (size_of chunks.class) chunks.count (size_of chunks.class) (omega arith) (omega arith) in
    let apart : suc at * size_of chunks.class ≡ at * size_of chunks.class + size_of chunks.class = suc-mul at (size_of chunks.class) in
    rw are.size (rw (← apart) more)

-- how much room a block has behind its part in the first chunk
pub block_room : (item : ItemState) → IsItem item → length item.block ≤ front_of item + (item.count - 1) * size_of item.class
block_room item is =
    let head = head_within item is in
    let most = start_of-most item.class (length item.key) in
    let fits = is.fits in
    let some = is.is_need.some in
    let one : suc (item.count - 1) ≡ item.count = omega arith in
    let apart : item.count * size_of item.class ≡ (item.count - 1) * size_of item.class + size_of item.class = ap (λ (n : ℕ). n * size_of item.class) (sym one)
    ∙ suc-mul (item.count - 1) (size_of item.class) in
    omega arith

-- the parts of an item's block join to it
pub concat-parts_of : (item : ItemState) → IsItem item → concat (parts_of item) ≡ item.block
concat-parts_of item is = concat-cut (front_of item) (size_of item.class) (item.count - 1) item.block (block_room item is)

-- the parts from class 27 on, where the block begins with the first chunk
part-pieces : (item : ItemState) → IsItem item → 27 ≤ item.class → parts_of item ≡ pieces (size_of item.class) item.count item.block
part-pieces item is above =
    let start = start_of-above item.class (length item.key) above in
    let front : front_of item ≡ size_of item.class = omega arith in
    let some = is.is_need.some in
    let one : suc (item.count - 1) ≡ item.count = omega arith in
    ap (λ (n : ℕ). take n item.block ∷ pieces (size_of item.class) (item.count - 1) (drop n item.block)) front
    ∙ ap (λ (n : ℕ). pieces (size_of item.class) n item.block) one

pub part-beside : (chunks : ChunksState) (at : ℕ) → HoldsItem chunks → 27 ≤ chunks.class → at < chunks.count
    → slice_get (parts_of (item_in chunks)) at ≡ Some (take (min (block_length_in chunks.head - at * size_of chunks.class) (size_of chunks.class)) (chunk_at chunks at))
part-beside chunks at holds above below =
    let size : ℕ = size_of chunks.class in
    let many : ℕ = block_length_in chunks.head in
    let start : block_start chunks ≡ 0 = start_of-above chunks.class (key_length_in chunks.head) above in
    ap (λ (parts : List (List ℕ)). slice_get parts at) (part-pieces (item_in chunks) (IsItem-item_in chunks holds) above)
    ∙ slice_get-pieces size chunks.count (block_in chunks) at below
    ∙ ap Some (ap (λ (n : ℕ). take size (drop (at * size) (take many (drop n chunks.bytes)))) start ∙ sym (part_within many size at chunks.bytes))

-- the part of an item of one chunk is its whole block
pub part-lone : (chunks : ChunksState) (at : ℕ) → HoldsItem chunks → chunks.count ≡ 1 → at < chunks.count → slice_get (parts_of (item_in chunks)) at ≡ Some (block_in chunks)
part-lone chunks at holds one below =
    let room = block_room (item_in chunks) (IsItem-item_in chunks holds) in
    let none : (chunks.count - 1) * size_of chunks.class ≡ 0 * size_of chunks.class = ap (λ (n : ℕ). (n - 1) * size_of chunks.class) one in
    let first : at ≡ 0 = omega arith in
    ap (slice_get (parts_of (item_in chunks))) first ∙ ap Some (take_all (front_of (item_in chunks)) (block_in chunks) (omega arith))

-- and below class 27, where there is one chunk, it lies in the head
pub one_below : (chunks : ChunksState) → AreChunks chunks → chunks.class < 27 → chunks.count ≡ 1
one_below chunks are below =
    elim are.is_need.pages as (λ _. chunks.count ≡ 1) [
      | inl one ↦ one
      | inr last ↦ absurd (omega (arith, below, last))
    ]

pub block-below : (chunks : ChunksState) (head : List ℕ) (key many : ℕ) → HoldsItem chunks → chunks.class < 27 → head ≡ chunks.head → key ≡ key_length_in head → many ≡ block_length_in head
    → take (48 + key + many - (48 + key)) (drop (48 + key) head) ≡ block_in chunks
block-below chunks head key many holds below is k m =
    let start = start_of-below chunks.class (key_length_in chunks.head) below in
    let k' : key ≡ key_length_in chunks.head = k ∙ ap key_length_in is in
    let place : 48 + key ≡ block_start chunks = omega (arith, k', start) in
    let size : 48 + key + many - (48 + key) ≡ many = omega arith in
    ap (λ (n : ℕ). take n (drop (48 + key) head)) (size ∙ m ∙ ap block_length_in is)
    ∙ ap (λ (n : ℕ). take (block_length_in chunks.head) (drop n head)) place
    ∙ ap (λ (bytes : List ℕ). take (block_length_in chunks.head) (drop (block_start chunks) bytes)) (is ∙ holds.are.is_head.same below)

-- so many parts
pub length-parts_of : (item : ItemState) → IsItem item → length (parts_of item) ≡ item.count
length-parts_of item is =
    let some = is.is_need.some in
    let pieces_are = length-pieces (size_of item.class) (item.count - 1) (drop (front_of item) item.block) in
    omega arith

-- each chunk's bytes are as many as its class's size
pub length-chunk_at : (chunks : ChunksState) (at : ℕ) → AreChunks chunks → at < chunks.count → length (chunk_at chunks at) ≡ size_of chunks.class
length-chunk_at chunks at are below =
    let within = chunk_within chunks at are below in
    length-take-le (size_of chunks.class) (drop (at * size_of chunks.class) chunks.bytes) (simp length-drop (omega arith))

-- an item in whose block a part was written
pub Lies-written : (chunks new : ChunksState) (at : ℕ) (part : List ℕ) → HoldsItem chunks → at + length part ≤ block_length_in chunks.head
    → KeepsHead chunks new (block_start chunks + at) → new.bytes ≡ with_part chunks.bytes (block_start chunks + at) part
    → Lies chunks.class (header_in chunks.head) (key_in chunks.head) (with_part (block_in chunks) at part) new.head new.bytes
Lies-written chunks new at part holds within keeps is =
    let start : ℕ = block_start chunks in
    let many : ℕ = block_length_in chunks.head in
    let room = holds.room in
    let most = start_of-most chunks.class (key_length_in chunks.head) in
    let key : length (key_in chunks.head) ≡ key_length_in chunks.head = length-key_in chunks holds in
    let begin : start_of chunks.class (length (key_in chunks.head)) ≡ start = ap (start_of chunks.class) key in
    let block : length (block_in chunks) ≡ many = length-block_in chunks holds in
    let written : length (with_part (block_in chunks) at part) ≡ many = length-with_part at part (block_in chunks) (omega arith) ∙ block in
    record {
      headed = Headed-kept chunks.class (header_in chunks.head) (key_in chunks.head) chunks new (start + at) refl
          (Headed-anew chunks (header_in chunks.head) chunks.head holds refl refl) (omega arith) keeps;
      key_length = sym key;
      block_length = sym written;
      block_is = ap (λ (n : ℕ). take n (drop (start_of chunks.class (length (key_in chunks.head))) new.bytes)) written
          ∙ ap (λ (n : ℕ). take many (drop n new.bytes)) begin
          ∙ ap (λ (bytes : List ℕ). take many (drop start bytes)) is
          ∙ block-written start many at part chunks.bytes within (omega arith);
    }

-- all its parts
pub concat-all : (item : ItemState) → IsItem item → (n : ℕ) → item.count ≤ n → concat (take n (parts_of item)) ≡ item.block
concat-all item is n all =
    let parts = length-parts_of item is in
    ap concat (take_all n (parts_of item) (omega arith)) ∙ concat-parts_of item is

-- an item whose block was filled from a place on, and is filled on
pub fills-more : (old item : ItemState) (at place : ℕ) (done part all : List ℕ) → item ≡ record old { block = with_part old.block at done }
    → place ≡ at + length done → all ≡ done ++ part → at + (length done + length part) ≤ length old.block
    → record item { block = with_part item.block place part } ≡ record old { block = with_part old.block at all }
fills-more old item at place done part all is from more room =
    ap (λ (i : ItemState). record i { block = with_part i.block place part }) is
    ∙ ap (λ (b : List ℕ). record old { block = b })
    (ap (λ (n : ℕ). with_part (with_part old.block at done) n part) from ∙ with_part-behind old.block at done part room ∙ ap (with_part old.block at) (sym more))

pub fills-room : (old item : ItemState) (at place : ℕ) (done part : List ℕ) → item ≡ record old { block = with_part old.block at done }
    → place ≡ at + length done → at + (length done + length part) ≤ length old.block → place + length part ≤ length item.block
fills-room old item at place done part is from room =
    let size : length item.block ≡ length old.block = ap (λ (i : ItemState). length i.block) is ∙ length-with_part at done old.block (omega arith) in
    omega arith

-- an item's block has at most 8388560 bytes
pub block_most : (item : ItemState) → IsItem item → length item.block ≤ 8388560
block_most item is =
    let fits = is.fits in
    let size : size_of item.class ≤ 1048576 = size_of-most item.class is.is_need.is_class in
    let most : item.count * size_of item.class ≤ 8 * 1048576 = mul-le item.count (size_of item.class) 8 1048576 is.is_need.most size in
    omega arith

-- the block of an item behind which more was written, where what is behind the header has stayed
pub block_behind : (chunks : ChunksState) (more headed bytes : List ℕ) → HoldsItem chunks → drop (block_start chunks) headed ≡ drop (block_start chunks) chunks.bytes
    → length headed ≡ length chunks.bytes
    → take (block_start chunks + block_length_in chunks.head + length more) bytes ≡ take (block_start chunks + block_length_in chunks.head) headed ++ more
    → take (block_length_in chunks.head + length more) (drop (block_start chunks) bytes) ≡ block_in chunks ++ more
block_behind chunks more headed bytes holds kept size is =
    let start : ℕ = block_start chunks in
    let many : ℕ = block_length_in chunks.head in
    let room = holds.room in
    let most = start_of-most chunks.class (key_length_in chunks.head) in
    let place : start + (many + length more) ≡ start + many + length more = omega arith in
    let front : length (take (start + many) headed) ≡ start + many = length-take-le (start + many) headed (omega arith) in
    sym (drop-take start (many + length more) bytes)
    ∙ ap (λ (n : ℕ). drop start (take n bytes)) place
    ∙ ap (drop start) is
    ∙ drop-append-le start (take (start + many) headed) more (omega arith)
    ∙ ap (λ (xs : List ℕ). xs ++ more) (drop-take start many headed ∙ ap (take many) kept)

-- what a write into the bytes leaves
pub record Wrote (old new : ChunksState) (at : ℕ) (part : List ℕ) : Type 0 where
  pub need : need_in new ≡ need_in old
  pub bytes : new.bytes ≡ with_part old.bytes at part
  pub head : KeepsHead old new at

pub wrote : (old new : ChunksState) (at : ℕ) (part : List ℕ) → AreChunks old → at + length part ≤ length old.bytes → (old.class < 27 → new ≡ written_cut old at part)
    → (27 ≤ old.class → new ≡ record old { bytes = with_part old.bytes at part }) → Wrote old new at part
wrote old new at part are within cut lent = go (cases_lt old.class 27)
  where
    go : (old.class < 27) ⊎ (27 ≤ old.class) → Wrote old new at part
    go (inl below) = record {
      need = ap need_in (cut below);
      bytes = ap (λ (s : ChunksState). s.bytes) (cut below);
      head = record {
        front = ap (λ (s : ChunksState). take at s.head) (cut below) ∙ take-written at at part old.bytes (omega arith) within ∙ ap (take at) (sym (are.is_head.same below));
        beside = λ above. absurd (omega arith);
      };
    }
    go (inr above) = record {
      need = ap need_in (lent above);
      bytes = ap (λ (s : ChunksState). s.bytes) (lent above);
      head = record {
        front = ap (λ (s : ChunksState). take at s.head) (lent above);
        beside = λ _. ap (λ (s : ChunksState). s.head) (lent above);
      };
    }

-- what a write into the head leaves
pub record WroteHead (old new : ChunksState) (at : ℕ) (part : List ℕ) : Type 0 where
  pub need : need_in new ≡ need_in old
  pub head : new.head ≡ with_part old.head at part
  pub bytes : KeepsBytes old new (at + length part)
  pub size : length new.bytes ≡ length old.bytes

pub wrote_head : (old new : ChunksState) (at : ℕ) (part : List ℕ) → AreChunks old → at + length part ≤ length old.head → (old.class < 27 → new ≡ written_cut old at part)
    → (27 ≤ old.class → new ≡ record old { head = with_part old.head at part }) → WroteHead old new at part
wrote_head old new at part are within cut lent = go (cases_lt old.class 27)
  where
    go : (old.class < 27) ⊎ (27 ≤ old.class) → WroteHead old new at part
    go (inl below) =
        let same : old.head ≡ old.bytes = are.is_head.same below in
        let long : length old.head ≡ length old.bytes = ap length same in
        record {
          need = ap need_in (cut below);
          head = ap (λ (s : ChunksState). s.head) (cut below) ∙ ap (λ (l : List ℕ). with_part l at part) (sym same);
          bytes = record {
            behind = ap (λ (s : ChunksState). drop (at + length part) s.bytes) (cut below) ∙ drop-with_part at part old.bytes (omega arith);
            beside = λ above. absurd (omega arith);
          };
          size = ap (λ (s : ChunksState). length s.bytes) (cut below) ∙ length-with_part at part old.bytes (omega arith);
        }
    go (inr above) = record {
      need = ap need_in (lent above);
      head = ap (λ (s : ChunksState). s.head) (lent above);
      bytes = record {
        behind = ap (λ (s : ChunksState). drop (at + length part) s.bytes) (lent above);
        beside = λ _. ap (λ (s : ChunksState). s.bytes) (lent above);
      };
      size = ap (λ (s : ChunksState). length s.bytes) (lent above);
    }

-- a head that has stayed twice
pub KeepsHead-twice : (old mid new : ChunksState) (near far : ℕ) → need_in mid ≡ need_in old → near ≤ far → KeepsHead old mid near → KeepsHead mid new far → KeepsHead old new near
KeepsHead-twice old mid new near far same order first second =
    let class : mid.class ≡ old.class = ap (λ (n : NeedState). n.class) same in
    let front : take near new.head ≡ take near mid.head =
    sym (take-take near far new.head order) ∙ ap (take near) second.front ∙ take-take near far mid.head order in
    record {
      front = front ∙ first.front;
      beside = λ above. second.beside (omega (arith, above, class)) ∙ first.beside above;
    }
