-- The memory of a chunk that can be lent.
use Rattle.std.specs.Prelude.{◌≡◌, ℕ, ◌+◌, ◌≤◌, Bool, true, false, List, [], length, take, drop, vec_capacity, refl}
use Rattle.std.specs.Arc.{arc_value}
use Rattle.std.specs.Coded.{Coded, code_by, coded×, coded_ℕ, coded_list}
use Rattle.mc_slab.specs.declared.block.Memory.{Memory}
use Rattle.mc_slab.specs.declared.block.Memory.TheVariants.{Own, Shared, Hollow}

-- the bytes that it holds
abbrev pub bytes_in : Memory → List ℕ
bytes_in (Own large) = large.bytes.items
bytes_in (Shared large spare from size) = take size (drop from (arc_value large).bytes.items)
bytes_in Hollow = []

-- others may read it
abbrev pub is_shared : Memory → Bool
is_shared (Own large) = false
is_shared (Shared large spare from size) = true
is_shared Hollow = false

-- What is true of a chunk's memory: its bytes are there, and may be written at any time. Bytes that others may read lie
-- within their memory, and beside them as much is reserved for a copy, and nothing is in it.
abbrev pub IsBlock : Memory → Type 0
IsBlock (Own large) = Unit
IsBlock (Shared large spare from size) =
    (spare.bytes.items ≡ []) × ((size ≤ vec_capacity spare.bytes)
    × (from + size ≤ length (arc_value large).bytes.items))
IsBlock Hollow = ⊥

-- what contracts see of a block with its head: the bytes of both
pub record LoneState : Type 0 where
  pub bytes : List ℕ
  pub head : List ℕ

-- how a proof stores it
abbrev pub coded_lone : Coded LoneState
coded_lone =
    code_by (List ℕ × List ℕ) (coded× (coded_list coded_ℕ) (coded_list coded_ℕ)) (λ l. (l.bytes, l.head))
    (λ p. record { bytes = p.0; head = p.1 })
    (λ _. refl)
