-- The header of a request of memcached's binary protocol.
use Rattle.std.specs.Prelude.{ℕ, ◌+◌, ◌*◌, ◌==◌, ◌&&◌, Bool, nat_le, List, length, slice_index}

-- a header of the binary protocol has the length of the key in its third and fourth byte
abbrev pub key_length : (header : List ℕ) → ℕ
key_length header = 256 * slice_index header 2 + slice_index header 3

-- the length of the extras in its fifth
abbrev pub extras_length : (header : List ℕ) → ℕ
extras_length header = slice_index header 4

-- and the length of the body in the ninth to the twelfth
abbrev pub body_length : (header : List ℕ) → ℕ
body_length header =
    16_777_216 * slice_index header 8 + 65_536 * slice_index header 9 + 256 * slice_index header 10 + slice_index header 11

-- The header of a request of memcached's binary protocol: 24 bytes, of which the first is 0x80 and the sixth,
-- the type of data, is 0. The body has room for the extras and the key.
abbrev pub is_binary_header : List ℕ → Bool
is_binary_header header =
    length header == 24 && (slice_index header 0 == 128 && (slice_index header 5 == 0
    && nat_le (extras_length header + key_length header) (body_length header)))
