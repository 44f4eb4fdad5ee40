-- The store may be lent to several threads, and a caller sent to one, as what lies in the table's slots may. The search for it doesn't
-- come through the chunks (`Rattle.mc_slab.proofs.Sent`), so it goes in steps that others cite.
use Rattle.mc_shared.proofs.Words.{List}
use mir.Syntax.{Sym, Lifetime}
use base.Fml.{Lft}
use denote.Ref.{ShrRef}
use denote.RattleType.{RattleType}
use denote.Param.Send.{IsSend, IsSync, AllSend, recorded_send, recorded_sync, struct_send, struct_sync, shr_send, view_sync, sendable}
use Rattle.mc_slab.proofs.Sent.{chunks_send}
use Rattle.mc_hop.specs.declared.hash.KeyHash.{Ghosts}
use denote.Struct.Declared as struct
use denote.Struct.Tuple as tuple
use Rattle.std.proofs.Crossing as crossing
use Rattle.std.specs.contracts.alloc.Global as heap
use Rattle.std.proofs.alloc.Global.TheSendSync as heaps
use Rattle.atomic_table.proofs.shared.Shared.TheSendSync as board
use Rattle.atomic_table.proofs.owned.Table.TheSendSync as table
use Rattle.atomic_table.proofs.shared.Seat.TheSendSync as seat
use Rattle.mc_shelf.specs.contracts.shelf.Shelf as shelf
use Rattle.mc_shelf.specs.contracts.desk.Desk as desk
use Rattle.mc_shared.proofs.boxed.Boxed.TheSendSync as boxed
use Rattle.mc_shared.specs.contracts.bay.Bay as bay
use Rattle.mc_shared.specs.contracts.store.Shared as shared
use Rattle.mc_shared.specs.contracts.store.Shared.TheInside as inside
use Rattle.mc_shared.specs.contracts.store.Caller as caller
use Rattle.mc_shared.specs.contracts.note.Note as note

-- what a closure holds, where each of it may be sent
pub tuple_send : (ν : Sym) (Ts : List RattleType) → AllSend (struct.shape (tuple.type_at ν Ts)).fields → IsSend (tuple.TupleAt ν Ts)
tuple_send ν Ts s = recorded_send (tuple.field_at ν Ts).row _ _ (tuple.type_at ν Ts).to_one
    (struct_send (struct.shape (tuple.type_at ν Ts)) s)

-- a closure that borrows it may be sent. What is borrowed is named, as a reference's row doesn't tell a search of what it is one.
abbrev pub Lent : RattleType → Type 0
Lent R = (ℓ : Lifetime) (κ : Lft) → IsSend (ShrRef ℓ κ R)

pub lent : (R : RattleType) → IsSync R → Lent R
lent R s ℓ κ = shr_send ℓ κ R s

pub heap_lent : Lent heap.the_row
heap_lent = lent heap.the_row heaps.the_sync

shelf_send : IsSend shelf.the_row
shelf_send = search (chunks_send, crossing.crosses, sendable) depth 60 fits 20000

desk_send : IsSend desk.the_row
desk_send = search (shelf_send, chunks_send, crossing.crosses, sendable) depth 60 fits 20000

bay_send : IsSend bay.the_row
bay_send = search (shelf_send, desk_send, boxed.the_send, sendable) depth 60 fits 20000

pub caller_send : IsSend caller.the_row
caller_send = search (bay_send, seat.the_send, crossing.crosses, sendable) depth 60 fits 20000

pub note_send : IsSend note.the_row
note_send = search (bay_send, seat.the_send, crossing.crosses, sendable) depth 60 fits 20000

pub shared_sync : (K : RattleType) (g : Ghosts K.Denot) → IsSync K → IsSync (shared.the_row K g)
shared_sync K g k = view_sync _ _ _ _ _ (recorded_sync (inside.the_field K g).row _ _ (inside.the_type K g).to_one
    (struct_sync (struct.shape (inside.the_type K g)) (
      search (bay_send, table.the_field_sync, board.the_sync, crossing.crosses, sendable) depth 60 fits 20000,
      (search sendable depth 60 fits 20000, (k, (search (heaps.the_sync, crossing.crosses, sendable) depth 60 fits 20000, tt))),
    )))

pub shared_lent : (K : RattleType) (g : Ghosts K.Denot) → IsSync K → Lent (shared.the_row K g)
shared_lent K g k = lent (shared.the_row K g) (shared_sync K g k)
