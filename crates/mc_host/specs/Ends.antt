-- The exit status of the program, and what it writes to standard error at its end.
use Rattle.std.specs.Prelude.{◌≡◌, ◌⊎◌, ℕ, Bool, true, List, slice_get, Option, Some, None, Ok, Err, codes}
use Rattle.mc_protocol.specs.declared.serving.ServeFault.TheVariants as fault
use Rattle.mc_host.specs.declared.end.ListenFaultKind.{ListenFaultKind}
use Rattle.mc_host.specs.declared.end.ListenFaultKind.TheVariants.{Taken, NotAllowed, NotHere, NoDescriptor, Other}
use Rattle.mc_host.specs.declared.end.ListenFault.{ListenFault}
use Rattle.mc_host.specs.declared.end.QuitFaultKind.{QuitFaultKind}
use Rattle.mc_host.specs.declared.end.QuitFaultKind.TheVariants as denied
use Rattle.mc_options.specs.declared.endpoints.ListenAddress.{ListenAddress}
use Rattle.mc_options.specs.declared.endpoints.Endpoints.{Endpoints}
use Rattle.mc_host.specs.declared.end.End.{End}
use Rattle.mc_host.specs.declared.end.End.TheVariants as end

-- 0 at the end, 1 for a device's fault or want of memory, 2 for a bad command line
abbrev pub status_of : End → ℕ
status_of (end.Served (Ok _)) = 0
status_of (end.Served (Err _)) = 1
status_of (end.CannotListen _) = 1
status_of end.Stopped = 0
status_of end.BadCommandLine = 2
status_of end.BadShelves = 2
status_of end.NotText = 2
status_of end.Shown = 0
status_of end.NotShown = 1
status_of end.NoMemory = 1
status_of end.NoThread = 1
status_of end.SmallStack = 1
status_of end.Accepted = 0
status_of (end.Denied _) = 1

-- what is wrong; the faults of a bad command line are written before; where it can't listen, and where a server doesn't
-- end, the address and the reason stand behind it
abbrev pub text_of : End → List ℕ
text_of (end.Served (Ok _)) = codes ""
text_of (end.Served (Err fault.Read)) = codes "mcserver: read fault"
text_of (end.Served (Err fault.Write)) = codes "mcserver: write fault"
text_of (end.Served (Err fault.NoMemory)) = codes "mcserver: out of memory"
text_of (end.CannotListen _) = codes "mcserver: cannot listen"
text_of end.Stopped = codes ""
text_of end.BadCommandLine = codes ""
text_of end.BadShelves = codes "mcserver: shelves must be a power of two"
text_of end.NotText = codes "mcserver: a word of the command line isn't UTF-8"
text_of end.Shown = codes ""
text_of end.NotShown = codes "mcserver: write fault"
text_of end.NoMemory = codes "mcserver: out of memory"
text_of end.NoThread = codes "mcserver: cannot start a thread (ulimit -u, ulimit -v)"
text_of end.SmallStack = codes "mcserver: the stack limit is below 512 KiB (ulimit -s)"
text_of end.Accepted = codes ""
text_of (end.Denied _) = codes "mcserver: --quit"

-- why it can't listen
abbrev pub reason_of : ListenFaultKind → List ℕ
reason_of Taken = codes "something listens there already"
reason_of NotAllowed = codes "the port isn't allowed to this user"
reason_of NotHere = codes "the address isn't one of this machine"
reason_of NoDescriptor = codes "the system gives too few descriptors (ulimit -n)"
reason_of Other = codes "the system refuses it"

-- why a server doesn't end
abbrev pub denial_of : QuitFaultKind → List ℕ
denial_of denied.Unreached = codes "nothing answers there"
denial_of denied.Silent = codes "no answer came within 5 seconds"
denial_of denied.Unoffered = codes "the server has no --allow-quit"
denial_of denied.Forbidden = codes "the server ends only for its own machine"
denial_of denied.Refused = codes "the server doesn't accept it"

-- an obstacle that has no kind of error in std
abbrev pub IsUnnamed : ListenFaultKind → Type 0
IsUnnamed NoDescriptor = Unit {0}
IsUnnamed Other = Unit {0}
IsUnnamed _ = ⊥

-- an endpoint is one of these
abbrev pub IsOneOf : Endpoints → ListenAddress → Type 0
IsOneOf all one = (one ≡ all.first) ⊎ ((i : ℕ) × (slice_get all.others.items i ≡ Some one))

-- the ends of a program that was to listen at an endpoint and can't: it names the endpoint, or memory ran out
abbrev pub EndsUnboundAt : ListenAddress → End → Type 0
EndsUnboundAt endpoint (end.CannotListen it) = it.endpoint ≡ endpoint
EndsUnboundAt endpoint end.NoMemory = Unit {0}
EndsUnboundAt endpoint _ = ⊥

-- the ends of a program that was to listen at endpoints and can't at one
abbrev pub EndsUnbound : Endpoints → End → Type 0
EndsUnbound endpoints (end.CannotListen it) = IsOneOf endpoints it.endpoint
EndsUnbound endpoints end.NoMemory = Unit {0}
EndsUnbound endpoints _ = ⊥

-- a refusal names the endpoint where scrapes were to be answered
abbrev pub NamesScrapes : Option ListenAddress → ListenFault → Type 0
NamesScrapes None it = ⊥
NamesScrapes (Some endpoint) it = it.endpoint ≡ endpoint

-- the ends of a program that was to answer scrapes there and can't
abbrev pub EndsWithoutDoor : Option ListenAddress → End → Type 0
EndsWithoutDoor scrapes (end.CannotListen it) = NamesScrapes scrapes it
EndsWithoutDoor scrapes end.NoMemory = Unit {0}
EndsWithoutDoor scrapes _ = ⊥

-- the ends of a program that was to listen at endpoints, to answer scrapes at another, and to end where it is
-- asked to or not: it can't listen, and names one of them, memory ran out before the first connection,
-- the system refused a thread, a listener failed, or it may be asked to end, and was
abbrev pub EndsListening : Endpoints → (scrapes : Option ListenAddress) → (may_quit : Bool) → End → Type 0
EndsListening endpoints scrapes may_quit (end.CannotListen it) =
    IsOneOf endpoints it.endpoint ⊎ NamesScrapes scrapes it
EndsListening endpoints scrapes may_quit end.NoMemory = Unit {0}
EndsListening endpoints scrapes may_quit end.NoThread = Unit {0}
EndsListening endpoints scrapes may_quit (end.Served (Err fault.Read)) = Unit {0}
EndsListening endpoints scrapes may_quit end.Stopped = may_quit ≡ true
EndsListening endpoints scrapes may_quit _ = ⊥
