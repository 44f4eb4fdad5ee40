-- What threads of this program borrow may be sent to one.
use denote.Struct.Field as field
use denote.Param.Send.{IsSync, sendable}
use Rattle.mc_hop.specs.contracts.hash.Fnv as fnv
use Rattle.mc_shared.proofs.Sent.{Lent, lent}

pub hasher_sync : IsSync fnv.the_row
hasher_sync = search sendable

pub u8_lent : Lent (field.u8-field).row
u8_lent = lent (field.u8-field).row (search sendable)

pub u64_lent : Lent (field.u64-field).row
u64_lent = lent (field.u64-field).row (search sendable)
