-- How an item lies in its chunks: in their head a header of 48 bytes and the key, and in their bytes the block. Below class
-- 27, where the head is the bytes, the block begins where the key ends, so that the three are one run. From class 27 on it
-- begins at place 0 of the bytes. All else is of any content.
--
-- The header's numbers stand with their lowest byte first:
--
--   offset   bytes   number
--        0       8   the key's hash
--        8       4   flags
--       12       4   0 if the item never expires
--       16       8   otherwise the second at which it expires
--       24       8   unique
--       32       8   the second at which it was updated
--       40       4   the key's length
--       44       4   the block's length
use Rattle.std.specs.Prelude.{◌≡◌, ℕ, ◌+◌, ◌≤◌, ◌^◌, ◌==◌, List, length, take, drop, if◌then◌else◌}
use Rattle.byteorder.specs.Endian.{little_number, little_bytes}
use Rattle.mc_time.specs.declared.expiry.Expiry.{Expiry}
use Rattle.mc_time.specs.declared.expiry.Expiry.TheVariants.{Never, At}
use Rattle.mc_slab.specs.Chunks.{ChunksState, AreChunks}
use Rattle.mc_item.specs.Items.{ItemState, header_size, longest_key, start_of}

-- the number in the bytes from the offset on
unfoldable pub number_at : ℕ → ℕ → List ℕ → ℕ
number_at offset count bytes = little_number count (drop offset bytes)

-- the bytes of a number, by their count
unfoldable pub number_bytes : ℕ → ℕ → List ℕ
number_bytes count number = little_bytes count number

-- the hash of the item's key
abbrev pub hash_in : List ℕ → ℕ
hash_in bytes = number_at 0 8 bytes

-- the item's flags
abbrev pub flags_in : List ℕ → ℕ
flags_in bytes = number_at 8 4 bytes

-- when the item expires: never if the number at offset 12 is 0, or else at the second at 16
abbrev pub expiry_in : List ℕ → Expiry
expiry_in bytes = if number_at 12 4 bytes == 0 then Never else At (number_at 16 8 bytes)

-- the item's unique number
abbrev pub unique_in : List ℕ → ℕ
unique_in bytes = number_at 24 8 bytes

-- the second at which the item was updated
abbrev pub updated_in : List ℕ → ℕ
updated_in bytes = number_at 32 8 bytes

-- how many bytes the item's key has
abbrev pub key_length_in : List ℕ → ℕ
key_length_in bytes = number_at 40 4 bytes

-- how many bytes the item's block has
abbrev pub block_length_in : List ℕ → ℕ
block_length_in bytes = number_at 44 4 bytes

-- a header's numbers, and the expiry that two of them are
pub record Header : Type 0 where
  pub hash : ℕ
  pub flags : ℕ
  pub expiry : Expiry
  pub unique : ℕ
  pub updated : ℕ
  pub key_length : ℕ
  pub block_length : ℕ

-- the header
abbrev pub header_in : List ℕ → Header
header_in bytes = record {
  hash = hash_in bytes;
  flags = flags_in bytes;
  expiry = expiry_in bytes;
  unique = unique_in bytes;
  updated = updated_in bytes;
  key_length = key_length_in bytes;
  block_length = block_length_in bytes;
}

-- the two numbers that an expiry is written as
abbrev pub expires_number : Expiry → ℕ
expires_number Never = 0
expires_number (At moment) = 1

abbrev pub moment_number : Expiry → ℕ
moment_number Never = 0
moment_number (At moment) = moment

-- the item's key, behind the header
abbrev pub key_in : List ℕ → List ℕ
key_in bytes = take (key_length_in bytes) (drop header_size bytes)

-- where the item's block begins in the bytes
abbrev pub block_start : ChunksState → ℕ
block_start chunks = start_of chunks.class (key_length_in chunks.head)

-- the item's block
abbrev pub block_in : ChunksState → List ℕ
block_in chunks = take (block_length_in chunks.head) (drop (block_start chunks) chunks.bytes)

-- the item that lies in chunks
abbrev pub item_in : ChunksState → ItemState
item_in chunks = record {
  hash = hash_in chunks.head;
  key = key_in chunks.head;
  flags = flags_in chunks.head;
  expiry = expiry_in chunks.head;
  block = block_in chunks;
  unique = unique_in chunks.head;
  updated = updated_in chunks.head;
  class = chunks.class;
  count = chunks.count;
}

-- An item lies in the chunks: the key is not too long, the block ends within them, and the moment is one.
pub record HoldsItem (chunks : ChunksState) : Type 0 where
  pub are : AreChunks chunks
  pub key : key_length_in chunks.head ≤ longest_key
  pub room : header_size + key_length_in chunks.head + block_length_in chunks.head
      ≤ length chunks.bytes
  pub updated : updated_in chunks.head ≤ 2 ^ 62

-- the head in front of a place has stayed, and from class 27 on all of it
pub record KeepsHead (old new : ChunksState) (place : ℕ) : Type 0 where
  pub front : take place new.head ≡ take place old.head
  pub beside : 27 ≤ old.class → new.head ≡ old.head

-- the bytes behind a place have stayed, and from class 27 on all of them
pub record KeepsBytes (old new : ChunksState) (place : ℕ) : Type 0 where
  pub behind : drop place new.bytes ≡ drop place old.bytes
  pub beside : 27 ≤ old.class → new.bytes ≡ old.bytes
