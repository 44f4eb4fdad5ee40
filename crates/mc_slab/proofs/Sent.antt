-- Chunks may be sent to another thread, and lent to several. The search doesn't come through a type of many variants of which
-- one leads back to the type itself, so the blocks and the last variant are proved first.
use Rattle.std.proofs.Common.{ℕ, List, [], get_or}
use denote.RattleType.{RattleType}
use denote.Param.Send.{IsSend, IsSync, AllSend, AllSync, enum_send, enum_sync, struct_send, struct_sync, recorded_send, recorded_sync, view_send, view_sync, sendable}
use denote.Enum.Declared as enum
use denote.Struct.Declared as struct
use Rattle.std.proofs.Crossing as crossing
use Rattle.mc_slab.specs.contracts.chunks.Chunks as chunks
use Rattle.mc_slab.specs.contracts.chunks.Chunks.TheInside as inside
use Rattle.mc_slab.specs.contracts.held.Held as held
use Rattle.mc_slab.proofs.page_chain.PageChain.TheLaws.TheKnot as knot

-- what a variant holds, numbered from 0: the 26 classes that are cut, the 13 that are blocks, and then the last
abbrev variant : ℕ → List RattleType
variant n = get_or (enum.shape held.the_type).variants n []

lone_send : AllSend (variant 26)
lone_send = (search (crossing.crosses, sendable) depth 60 fits 20000, tt)

lone_sync : AllSync (variant 26)
lone_sync = (search (crossing.crosses, sendable) depth 60 fits 20000, tt)

sheets_send : AllSend (variant 39)
sheets_send = (search (crossing.crosses, knot.crosses, sendable) depth 60 fits 20000, tt)

sheets_sync : AllSync (variant 39)
sheets_sync = (search (crossing.crosses, knot.crosses, sendable) depth 60 fits 20000, tt)

field_send : IsSend (held.the_field).row
field_send = enum_send (enum.shape held.the_type) (search (sendable, lone_send, sheets_send) depth 200 fits 20000)

field_sync : IsSync (held.the_field).row
field_sync = enum_sync (enum.shape held.the_type) (search (sendable, lone_sync, sheets_sync) depth 200 fits 20000)

pub chunks_send : IsSend chunks.the_row
chunks_send = view_send _ _ _ _ _ (recorded_send (inside.the_field).row _ _ (inside.the_type).to_one
    (struct_send (struct.shape inside.the_type) (field_send, tt)))

pub chunks_sync : IsSync chunks.the_row
chunks_sync = view_sync _ _ _ _ _ (recorded_sync (inside.the_field).row _ _ (inside.the_type).to_one
    (struct_sync (struct.shape inside.the_type) (field_sync, tt)))
