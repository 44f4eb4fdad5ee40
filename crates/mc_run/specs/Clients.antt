-- What contracts see of a client: a caller with its store.
use Rattle.std.specs.Coded.{Coded}
use Rattle.mc_hop.specs.declared.hash.Fnv.{Fnv}
use Rattle.mc_hop.specs.contracts.hash.Fnv.{the_row as fnv_row}
use Rattle.mc_shelf.specs.Stores.{StoreState}
use Rattle.mc_shared.specs.Shown.{CallerState}
use Rattle.mc_shared.specs.Past.{start, made, both}
use Rattle.mc_shared.specs.Asking.{AskingState, coded_asking}
use Rattle.mc_shared.specs.Steps.{next_name}

-- what its store began with, which store it is, and the past
abbrev pub ClientState : Type 0
ClientState = AskingState Fnv

abbrev pub coded_client : Coded ClientState
coded_client = coded_asking fnv_row.coded

-- the caller of a client
abbrev pub caller_of : ClientState → CallerState
caller_of client = record { table = client.table; past = client.past }

-- a client of a store that began so, with this caller
abbrev pub client_of : StoreState Fnv → CallerState → ClientState
client_of began caller = record { began = began; table = caller.table; past = caller.past }

-- a client after it made a caller, and that caller
abbrev pub maker : ClientState → ClientState
maker client = record client { past = made client.past (next_name client.past) }

abbrev pub newcomer : ClientState → CallerState
newcomer client =
    record { table = client.table; past = start (next_name client.past) client.past }

-- a client into which a caller was joined
abbrev pub joined : ClientState → CallerState → ClientState
joined client other = record client { past = both client.past other.past }
