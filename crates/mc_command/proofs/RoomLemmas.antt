-- The chunks that items have of a class, and the state that the plain store shows.
use Rattle.std.proofs.Common.{◌≡◌, ℕ, ◌+◌, ◌-◌, ◌*◌, leb, set, sum, List, ◌∷◌, Option, Some, None, refl, sym, ap, arith}
use Rattle.std.specs.declared.vec.Vec.{Vec}
use Rattle.std.specs.declared.alloc.Global.{Global}
use Rattle.mc_sizes.specs.Classes.{chunks_a_page}
use Rattle.mc_sizes.specs.Needs.{NeedState}
use Rattle.mc_protocol.specs.Plain.{Plain, Entry, Items, chunks_in, item_need, count_of, chunks_of, unused, has_room, pages_of, without_dead}
use Rattle.mc_command.specs.Accounts.{dead_item}
use Rattle.mc_protocol.specs.Laws.{of_class}
use Rattle.mc_command.specs.Steps.{paged, rewritten}
use Rattle.mc_command.specs.declared.plain.item.Written.{Written}
use Rattle.mc_protocol.proofs.ItemLemmas.{insert-remove}
use Rattle.mc_command.proofs.ItemLemmas.{Entries}
use Rattle.mc_protocol.proofs.CountLemmas.{count-remove}
use Rattle.mc_command.proofs.CountLemmas.{entries_in_class, entries_in_class-cons}

-- ---- a walk over the entries that takes off what they have of a class

-- of so many those are left that the entries have not that were passed
abbrev pub IsLeft : (class chunks : ℕ) (all rest : Entries) → ℕ → Type 0
IsLeft class chunks all rest left = left - entries_in_class class rest ≡ chunks - entries_in_class class all

pub left-more : (class chunks left : ℕ) (all rest : Entries) (e : Vec ℕ Global × Entry)
    → IsLeft class chunks all (e ∷ rest) left → IsLeft class chunks all rest (left - chunks_in (item_need e.0.items e.1) class)
left-more class chunks left all rest e so_far = let cons = entries_in_class-cons class e rest in omega arith

-- what no item has, once a key's item is dropped that is dead
pub found-unused : (stands : Option Entry) (old : Plain) (key : List ℕ) (class : ℕ)
    → (chunks_of old class + of_class key (dead_item stands key old) class) - count_of old.items class ≡ unused (without_dead stands key old) class
found-unused None old key class = let removed = count-remove class old.items key in omega arith
found-unused (Some item) old key class = omega arith

-- ---- the room that is left

pub found-room : (stands : Option Entry) (old : Plain) (key : List ℕ) (need : NeedState)
    → has_room (without_dead stands key old) need ≡ leb need.count (unused (without_dead stands key old) need.class + (old.limit - sum old.pages) * chunks_a_page need.class)
found-room None old key need = refl
found-room (Some item) old key need = refl

-- ---- what is left of a write that takes chunks

pub put-by : (stands : Option Entry) (more : ℕ) (old : Plain) (key : List ℕ) (class : ℕ) (w : Written) (now : ℕ)
    → paged more (rewritten w key old now) class ≡ rewritten w key (paged more (without_dead stands key old) class) now
put-by None more old key class w now =
    ap (λ (m : Items). let s : Plain =
    record old { items = m; next_unique = old.next_unique + 1; pages = set old.pages (class - 1) (pages_of old class + more) } in s) (sym (insert-remove old.items key _))
put-by (Some i) more old key class w now = refl

-- the state that the plain store shows, by its items
abbrev pub shown : (greatest limit : ℕ) (cut : Option ℕ) (next : ℕ) (pages : List ℕ) → Items → Plain
shown greatest limit cut next pages items = record { greatest = greatest; limit = limit; items = items; cut = cut; next_unique = next; pages = pages }
