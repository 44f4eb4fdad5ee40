-- What contracts see of a guest.
use mathlib.Core.Logic.{inl, inr}
use Rattle.std.specs.Prelude.{◌≡◌, ◌⊎◌, ◌||◌, ◌&&◌, ◌-◌, ◌<◌, ◌≤◌, ℕ, Bool, true, false, List, [], length, Option, Some, None, IsTrue}
use Rattle.mc_session.specs.Turns.{SessionState, NoTurnDue, TurnIsDue, opened}
use Rattle.mc_guests.specs.Links.{LinkState, IsRoom, grown}
use Rattle.mc_guests.specs.LinkRates.{begun}
use Rattle.mc_guests.specs.declared.guest.Visit.{Visit}
use Rattle.mc_guests.specs.declared.guest.Visit.TheVariants.{Later, Served, Broken, Refused}
use Rattle.mc_guests.specs.declared.link_rate.LinkRate.{LinkRate}
use Rattle.mc_guests.specs.declared.metered.WaitState.{WaitState}
use Rattle.mc_guests.specs.declared.metered.WaitState.TheVariants.{Out, Queued, Next}

-- its session, its link, and the answer of its last visit
pub record GuestState : Type 0 where
  pub session : SessionState
  pub link : LinkState
  pub last : Option Visit

-- a session that was fed nothing, with its link
abbrev pub welcomed : ℕ → LinkState → GuestState
welcomed greatest link = record { session = opened greatest; link = link; last = None }

-- whether an answer is a guest's last
abbrev pub ends : Visit → Bool
ends Served = true
ends Broken = true
ends Refused = true
ends answer = false

-- whether a guest has ended, by the answer of its last visit
abbrev pub has_ended : Option Visit → Bool
has_ended None = false
has_ended (Some answer) = ends answer

-- all output was written, and a turn is due
pub record IsTurnDue (session : SessionState) : Type 0 where
  pub written : session.out ≡ []
  pub due : TurnIsDue session

-- all output was written, the session is open, and no turn is due until more bytes come
pub record IsWaiting (session : SessionState) : Type 0 where
  pub written : session.out ≡ []
  pub opens : IsTrue session.is_open
  pub none_due : NoTurnDue session

-- there is output to write, or no turn is due until more bytes come
abbrev pub AwaitsLink : SessionState → Type 0
AwaitsLink session = (session.out ≡ [] → ⊥) ⊎ IsWaiting session

-- whether its link is to give, and not to take
abbrev pub wants : {session : SessionState} → AwaitsLink session → Bool
wants (inl has_output) = false
wants (inr is_waiting) = true

-- a front of the output that isn't empty has this number of bytes
abbrev pub IsOffer : (bytes all : ℕ) → Type 0
IsOffer bytes all = (0 < bytes) × (bytes ≤ all)

-- how many bytes its link is asked for: it is offered a front of the output, or is lent room
abbrev pub IsDemand : (session : SessionState) → AwaitsLink session → (bytes : ℕ) → Type 0
IsDemand session (inl has_output) bytes = IsOffer bytes (length session.out)
IsDemand session (inr is_waiting) bytes = IsRoom bytes

-- the bytes that its link took, and the output that waits
abbrev pub told : GuestState → Option (List ℕ)
told guest = grown guest.link.taken guest.session.out

-- A guest of a worker: whether it waits for room, and the bytes for which it is counted. Where it stands in the queue of
-- those that wait, and the bytes that it wanted when it began to wait. How many bytes of its output were lent when it
-- was counted, for how many that have left the store it is counted, and the pace of its link.
pub record RowGuest : Type 0 where
  pub guest : GuestState
  pub waits : Bool
  pub counted : ℕ
  pub line : WaitState
  pub wanted : ℕ
  pub lent : ℕ
  pub left : ℕ
  pub pace : LinkRate

-- what contracts see of a guest of a worker with these fields
abbrev pub row_guest : GuestState → (waits : Bool) → (counted : ℕ) → WaitState → (wanted lent left : ℕ) → LinkRate → RowGuest
row_guest guest waits counted line wanted lent left pace =
    record { guest = guest; waits = waits; counted = counted; line = line; wanted = wanted; lent = lent; left = left; pace = pace }

-- a guest that just came
abbrev pub newcomer : GuestState → RowGuest
newcomer guest = row_guest guest false 0 Out 0 0 0 (begun 0)

-- whether a guest that waits is in the queue
abbrev pub is_in_queue : WaitState → Bool
is_in_queue Queued = true
is_in_queue line = false

-- whether a guest that waits is tried again
abbrev pub is_next : WaitState → Bool
is_next Next = true
is_next line = false

-- whether a guest that waits is left out: it isn't in the queue, and isn't tried again
abbrev pub is_left_out : WaitState → Bool
is_left_out Out = true
is_left_out line = false

-- whether a guest waits in the queue
abbrev pub is_queued : RowGuest → Bool
is_queued guest = guest.waits && is_in_queue guest.line

-- whether a guest waits, and is tried again
abbrev pub is_tried : RowGuest → Bool
is_tried guest = guest.waits && is_next guest.line

-- whether a guest waits, and is left out of the queue
abbrev pub is_stray : RowGuest → Bool
is_stray guest = guest.waits && is_left_out guest.line

-- the bytes that a guest waits for, beyond its counted ones
abbrev pub missing : RowGuest → ℕ
missing guest = guest.wanted - guest.counted

-- the guest stands there in the queue
abbrev pub in_line : WaitState → RowGuest → RowGuest
in_line line guest = record guest { line = line }

-- a guest is counted for this many bytes that have left the store
abbrev pub reads_left : (left : ℕ) → RowGuest → RowGuest
reads_left left guest = record guest { left = left }

-- whether its link gave or took nothing at the last visit
abbrev pub is_later : Option Visit → Bool
is_later (Some Later) = true
is_later last = false

-- whether a guest that hasn't ended sleeps: it waits for room, or its link gave or took nothing
abbrev pub is_to_sleep : RowGuest → Bool
is_to_sleep guest = guest.waits || is_later guest.guest.last
