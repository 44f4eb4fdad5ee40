-- The hash of a key.
use Rattle.std.specs.Prelude.{ℕ, ◌*◌, ◌%◌, ◌^◌, List, bit_xor, fold}

-- one byte more: it is xored into the hash, which is then multiplied
abbrev pub fnv_more : ℕ → ℕ → ℕ
fnv_more hash byte = (bit_xor hash byte * 1099511628211) % (2 ^ 64)

-- FNV-1a of 64 bits (Fowler, Noll, Vo)
abbrev pub fnv : List ℕ → ℕ
fnv bytes = fold fnv_more 14695981039346656037 bytes
