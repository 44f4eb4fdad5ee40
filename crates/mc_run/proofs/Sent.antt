-- What threads take may be sent to them: a reference to what all threads share.
use denote.Param.Send.{IsSync, sendable}
use Rattle.mc_hop.specs.contracts.hash.Fnv as fnv
use Rattle.mc_shared.proofs.Sent.{Lent, lent}
use Rattle.mc_run.specs.contracts.plan.Common as common
use Rattle.mc_run.proofs.plan.Common.TheSendSync as commons

pub hasher_sync : IsSync fnv.the_row
hasher_sync = search sendable

pub common_lent : Lent common.the_row
common_lent = lent common.the_row commons.the_sync
