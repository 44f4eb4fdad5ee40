-- What a write at an offset leaves, and what a header reads as that was written number by number.
use Rattle.std.proofs.Common.{◌≡◌, ◌⊎◌, inl, inr, ℕ, ◌+◌, ◌-◌, ◌^◌, ◌<◌, ◌≤◌, List, [], ◌++◌, length, take, drop, refl, sym, ap, subst, ◌∙◌, append_assoc, arith}
use Rattle.std.proofs.lemmas.List.{length-append, length-take-le, length-drop, take_all, take_at, drop_at, drop-drop, append-nil, take-append-drop}
use Rattle.std.proofs.lemmas.Bool.{cases_lt, le-leb, lt-leb}
use Rattle.std.proofs.Math.ListN.{drop_of_length-le}
use Rattle.byteorder.specs.Numbers.{little_number-reads_back}
use Rattle.mc_slab.specs.Chunks.{with_part}
use Rattle.mc_slab.specs.Chunks.{ChunksState}
use Rattle.mc_item.specs.Items.{start_of}
use Rattle.mc_item.specs.Layout.{number_at, number_bytes, expires_number, moment_number, header_in, KeepsBytes, Header}
use Rattle.std.specs.Prelude.{◌==◌, if◌then◌else◌}
use Rattle.mc_time.specs.declared.expiry.Expiry.{Expiry}
use Rattle.mc_time.specs.declared.expiry.Expiry.TheVariants.{Never, At}
use borrow.Rule.Slice.PartMut.{put_mid}

-- a field in front of more, behind a front
take_front : (front field more rest : List ℕ) (n : ℕ) → length front + length field ≡ n → take n (front ++ ((field ++ more) ++ rest)) ≡ front ++ field
take_front front field more rest n same =
    let parts : front ++ ((field ++ more) ++ rest) ≡ (front ++ field) ++ (more ++ rest) = simp append_assoc in
    ap (take n) parts ∙ take_at (front ++ field) (more ++ rest) n (simp length-append (omega arith))

drop_front : (front field more rest : List ℕ) (n : ℕ) → length front + length field ≡ n → drop n (front ++ ((field ++ more) ++ rest)) ≡ more ++ rest
drop_front front field more rest n same =
    let parts : front ++ ((field ++ more) ++ rest) ≡ (front ++ field) ++ (more ++ rest) = simp append_assoc in
    ap (drop n) parts ∙ drop_at (front ++ field) (more ++ rest) n (simp length-append (omega arith))

-- what lies behind a field, where a slice runs to its list's end
behind : (offset size : ℕ) (old : List ℕ) → drop size (take (length old - offset) (drop offset old)) ++ drop (length old - offset) (drop offset old) ≡ drop (offset + size) old
behind offset size old =
    let whole : length (drop offset old) ≡ length old - offset = length-drop offset old in
    let none : drop (length old - offset) (drop offset old) ≡ [] = drop_of_length-le (drop offset old) (omega arith) in
    let all : take (length old - offset) (drop offset old) ≡ drop offset old = take_all _ (drop offset old) (omega arith) in
    rw (none, all, append-nil) (drop-drop size offset old)

-- a field was written at the offset
pub take-field : (offset size : ℕ) (old field : List ℕ) → offset + size ≤ length old → length field ≡ size
    → take (offset + size) (put_mid offset (length old - offset) old (field ++ drop size (take (length old - offset) (drop offset old)))) ≡ take offset old ++ field
take-field offset size old field within same =
    let front : length (take offset old) ≡ offset = length-take-le offset old (omega arith) in
    take_front (take offset old) field _ _ (offset + size) (omega arith)

-- and what is behind it stays
pub drop-field : (offset size : ℕ) (old field : List ℕ) → offset + size ≤ length old → length field ≡ size
    → drop (offset + size) (put_mid offset (length old - offset) old (field ++ drop size (take (length old - offset) (drop offset old)))) ≡ drop (offset + size) old
drop-field offset size old field within same =
    let front : length (take offset old) ≡ offset = length-take-le offset old (omega arith) in
    drop_front (take offset old) field _ _ (offset + size) (omega arith) ∙ behind offset size old

-- a part that was written at a place stands behind what was in front of it, and what is behind it stays
pub take-with_part : (at : ℕ) (part old : List ℕ) → at + length part ≤ length old → take (at + length part) (with_part old at part) ≡ take at old ++ part
take-with_part at part old within =
    let front : length (take at old) ≡ at = length-take-le at old (omega arith) in
    take_at (take at old ++ part) _ (at + length part) (simp length-append (omega arith))

pub drop-with_part : (at : ℕ) (part old : List ℕ) → at + length part ≤ length old → drop (at + length part) (with_part old at part) ≡ drop (at + length part) old
drop-with_part at part old within =
    let front : length (take at old) ≡ at = length-take-le at old (omega arith) in
    drop_at (take at old ++ part) _ (at + length part) (simp length-append (omega arith))

pub length-with_part : (at : ℕ) (part old : List ℕ) → at + length part ≤ length old → length (with_part old at part) ≡ length old
length-with_part at part old within =
    let front : length (take at old) ≡ at = length-take-le at old (omega arith) in
    simp (length-append, length-drop) (omega arith)

-- the header's bytes
abbrev pub header_bytes : (hash flags expires moment unique updated key_length block_length : ℕ) → List ℕ
header_bytes hash flags expires moment unique updated key_length block_length =
    (((((((number_bytes 8 hash ++ number_bytes 4 flags) ++ number_bytes 4 expires) ++ number_bytes 8 moment)
    ++ number_bytes 8 unique) ++ number_bytes 8 updated) ++ number_bytes 4 key_length) ++ number_bytes 4 block_length)

-- bytes in which those numbers stand
pub record Reads (hash flags expires moment unique updated key_length block_length : ℕ) (bytes : List ℕ) : Type 0 where
  pub hash_is : number_at 0 8 bytes ≡ hash
  pub flags_is : number_at 8 4 bytes ≡ flags
  pub expires_is : number_at 12 4 bytes ≡ expires
  pub moment_is : number_at 16 8 bytes ≡ moment
  pub unique_is : number_at 24 8 bytes ≡ unique
  pub updated_is : number_at 32 8 bytes ≡ updated
  pub key_length_is : number_at 40 4 bytes ≡ key_length
  pub block_length_is : number_at 44 4 bytes ≡ block_length

reads_header : (hash flags expires moment unique updated key_length block_length : ℕ) (rest : List ℕ) → hash < 2 ^ 64 → flags < 2 ^ 32 → expires < 2 ^ 32
    → moment < 2 ^ 64 → unique < 2 ^ 64 → updated < 2 ^ 64 → key_length < 2 ^ 32 → block_length < 2 ^ 32
    → Reads hash flags expires moment unique updated key_length block_length (header_bytes hash flags expires moment unique updated key_length block_length ++ rest)
unfolding number_at number_bytes
reads_header hash flags expires moment unique updated key_length block_length rest h f e m u d k b = record {
  hash_is =
      little_number-reads_back 8 hash
      (number_bytes 4 flags ++
      (number_bytes 4 expires ++ (number_bytes 8 moment ++ (number_bytes 8 unique ++ (number_bytes 8 updated ++ (number_bytes 4 key_length ++ (number_bytes 4 block_length ++ rest))))))) h;
  flags_is =
      little_number-reads_back 4 flags
      (number_bytes 4 expires ++ (number_bytes 8 moment ++ (number_bytes 8 unique ++ (number_bytes 8 updated ++ (number_bytes 4 key_length ++ (number_bytes 4 block_length ++ rest)))))) f;
  expires_is =
      little_number-reads_back 4 expires (number_bytes 8 moment ++ (number_bytes 8 unique ++ (number_bytes 8 updated ++ (number_bytes 4 key_length ++ (number_bytes 4 block_length ++ rest))))) e;
  moment_is = little_number-reads_back 8 moment (number_bytes 8 unique ++ (number_bytes 8 updated ++ (number_bytes 4 key_length ++ (number_bytes 4 block_length ++ rest)))) m;
  unique_is = little_number-reads_back 8 unique (number_bytes 8 updated ++ (number_bytes 4 key_length ++ (number_bytes 4 block_length ++ rest))) u;
  updated_is = little_number-reads_back 8 updated (number_bytes 4 key_length ++ (number_bytes 4 block_length ++ rest)) d;
  key_length_is = little_number-reads_back 4 key_length (number_bytes 4 block_length ++ rest) k;
  block_length_is = little_number-reads_back 4 block_length rest b;
}

-- a header that was written number by number reads as it was
pub Reads-taken : (hash flags expires moment unique updated key_length block_length : ℕ) (bytes : List ℕ)
    → take 48 bytes ≡ header_bytes hash flags expires moment unique updated key_length block_length → hash < 2 ^ 64 → flags < 2 ^ 32 → expires < 2 ^ 32
    → moment < 2 ^ 64 → unique < 2 ^ 64 → updated < 2 ^ 64 → key_length < 2 ^ 32 → block_length < 2 ^ 32 → Reads hash flags expires moment unique updated key_length block_length bytes
Reads-taken hash flags expires moment unique updated key_length block_length bytes same h f e m u d k b =
    let whole : header_bytes hash flags expires moment unique updated key_length block_length ++ drop 48 bytes ≡ bytes =
    ap (λ (front : List ℕ). front ++ drop 48 bytes) (sym same) ∙ take-append-drop 48 bytes in
    subst (Reads hash flags expires moment unique updated key_length block_length) whole (reads_header hash flags expires moment unique updated key_length block_length (drop 48 bytes) h f e m u d k b)

-- an expiry is read as it was written
expiry_read : (expiry : Expiry) (expires moment : ℕ) → expires ≡ expires_number expiry → moment ≡ moment_number expiry → (if expires == 0 then Never else At moment) ≡ expiry
expiry_read Never expires moment e m = rw e refl
expiry_read (At second) expires moment e m = rw (e, m) refl

pub header_in-reads : (header : Header) (expires moment updated : ℕ) (bytes : List ℕ) → expires ≡ expires_number header.expiry
    → moment ≡ moment_number header.expiry → updated ≡ header.updated
    → Reads header.hash header.flags expires moment header.unique updated header.key_length header.block_length bytes → header_in bytes ≡ header
header_in-reads header expires moment updated bytes e m u reads =
    rw (
      reads.hash_is,
      reads.flags_is,
      reads.expires_is,
      reads.moment_is,
      reads.unique_is,
      reads.updated_is,
      reads.key_length_is,
      reads.block_length_is,
      u,
      expiry_read header.expiry expires moment e m,
    ) refl

-- what stays behind a place stays behind a later one
pub drop-further : (near far : ℕ) (xs ys : List ℕ) → near ≤ far → drop near xs ≡ drop near ys → drop far xs ≡ drop far ys
drop-further near far xs ys within same =
    let place : near + (far - near) ≡ far = omega arith in
    let left : drop far xs ≡ drop (far - near) (drop near xs) = rw (drop-drop (far - near) near xs, place) refl in
    let right : drop far ys ≡ drop (far - near) (drop near ys) = rw (drop-drop (far - near) near ys, place) refl in
    left ∙ ap (drop (far - near)) same ∙ sym right

-- where a block begins in the bytes, below class 27 and from there on
pub start_of-below : (class key : ℕ) → class < 27 → start_of class key ≡ 48 + key
unfolding start_of
start_of-below class key below = rw (lt-leb 27 class below) refl

pub start_of-above : (class key : ℕ) → 27 ≤ class → start_of class key ≡ 0
unfolding start_of
start_of-above class key above = rw (le-leb 27 class above) refl

pub start_of-most : (class key : ℕ) → start_of class key ≤ 48 + key
start_of-most class key = go (cases_lt class 27)
  where
    go : (class < 27) ⊎ (27 ≤ class) → start_of class key ≤ 48 + key
    go (inl below) = let is = start_of-below class key below in omega arith
    go (inr above) = let is = start_of-above class key above in omega arith

-- what is behind the header has stayed from there on
pub bytes_behind : (old new : ChunksState) (key : ℕ) → KeepsBytes old new 48 → drop (start_of old.class key) new.bytes ≡ drop (start_of old.class key) old.bytes
bytes_behind old new key keeps = go (cases_lt old.class 27)
  where
    go : (old.class < 27) ⊎ (27 ≤ old.class) → drop (start_of old.class key) new.bytes ≡ drop (start_of old.class key) old.bytes
    go (inl below) = let is = start_of-below old.class key below in drop-further 48 (start_of old.class key) new.bytes old.bytes (omega arith) keeps.behind
    go (inr above) = ap (drop (start_of old.class key)) (keeps.beside above)
