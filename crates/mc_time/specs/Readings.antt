-- The moments of a clock that begins as the system's, and goes on with the monotonic one.
use Rattle.std.specs.Prelude.{◌≡◌, ℕ, ◌+◌, ◌-◌, ◌/◌, ◌^◌, ◌≤◌, ◌<◌, ◌⊎◌, min, max, nat_le, if◌then◌else◌, List, [], ◌∷◌, Option, Some, None}
use Rattle.mc_time.specs.declared.reading.Reading.{Reading}
use Rattle.mc_time.specs.declared.state.Step.{Step}
use Rattle.mc_time.specs.declared.state.ClockState.{ClockState}

-- by how many milliseconds and 2^62 the system's clock is ahead of the monotonic one
abbrev pub lead_of : Reading → ℕ
lead_of reading = min (reading.system_millis + 2 ^ 62) (2 ^ 64 - 1) - reading.monotonic_millis

-- the moment of a monotonic clock with a lead
abbrev pub moment_by : ℕ → ℕ → ℕ
moment_by monotonic lead = min ((min (monotonic + lead) (2 ^ 64 - 1) - 2 ^ 62) / 1000) (2 ^ 62)

-- the moment of a state: the monotonic clock's with the lead in force
abbrev pub moment_of : ClockState → ℕ
moment_of state = moment_by state.monotonic state.lead

-- the state whose monotonic clock has gone on
abbrev pub risen : ClockState → Reading → ClockState
risen state reading = record { monotonic = max state.monotonic reading.monotonic_millis; lead = state.lead; step = state.step }

-- a step stands from the first reading that has it, and its lead is the smallest that was read since
abbrev pub standing : Option Step → Reading → Step
standing None reading = record { lead = lead_of reading; since = reading.monotonic_millis }
standing (Some step) reading = record { lead = min step.lead (lead_of reading); since = step.since }

-- a step stands where the system's clock is a second or more ahead of the lead in force
abbrev pub step_after : ℕ → Option Step → Reading → Option Step
step_after lead step reading = if nat_le 1000 (lead_of reading - lead) then Some (standing step reading) else None

-- a step that has stood for a minute is followed: its lead is in force
abbrev pub settled : ClockState → Option Step → ℕ → ClockState
settled state None now = record { monotonic = state.monotonic; lead = state.lead; step = None }
settled state (Some step) now =
    if nat_le 60000 (now - step.since)
    then record { monotonic = state.monotonic; lead = max state.lead step.lead; step = None }
    else record { monotonic = state.monotonic; lead = state.lead; step = Some step }

-- the state of a clock after a reading
abbrev pub state_after : ClockState → Reading → ClockState
state_after state reading = settled (risen state reading) (step_after state.lead state.step reading) reading.monotonic_millis

-- the state after each reading of a list, in order
abbrev pub state_after_all : ClockState → List Reading → ClockState
state_after_all state [] = state
state_after_all state (reading ∷ readings) = state_after_all (state_after state reading) readings

-- the moments that a clock gives, one for each reading
abbrev pub moments_given : ClockState → List Reading → List ℕ
moments_given state [] = []
moments_given state (reading ∷ readings) = moment_of (state_after state reading) ∷ moments_given (state_after state reading) readings

-- each is at least the one before, and the first at least a moment
abbrev pub NeverFall : ℕ → List ℕ → Type 0
NeverFall before [] = Unit {0}
NeverFall before (moment ∷ moments) = (before ≤ moment) × NeverFall moment moments

-- the state has no step that stands
abbrev pub without_step : ClockState → ClockState
without_step state = record { monotonic = state.monotonic; lead = state.lead; step = None }

-- the monotonic clock was read within the minute that begins so
abbrev pub IsWithinMinute : ℕ → Reading → Type 0
IsWithinMinute start reading = (start ≤ reading.monotonic_millis) × (reading.monotonic_millis < start + 60000)

-- each reading of a list is so
abbrev pub Each : (Reading → Type 0) → List Reading → Type 0
Each Is [] = Unit {0}
Each Is (reading ∷ readings) = Is reading × Each Is readings

-- the system's clock had this lead or a greater one
abbrev pub Has : ℕ → Reading → Type 0
Has lead reading = lead ≤ lead_of reading

-- a step that stands already has this lead or a greater one, and began by this time
abbrev pub MayStand : ℕ → ℕ → Option Step → Type 0
MayStand lead now None = Unit {0}
MayStand lead now (Some step) = (lead ≤ step.lead) × (step.since ≤ now)

module _ (may_read : Reading → Type 0) where
  -- two readings, a minute or more apart by the monotonic clock, each had a lead or a greater one
  pub record AtBothEnds (lead : ℕ) : Type 0 where
    pub first : Reading
    pub last : Reading
    pub read_first : may_read first
    pub read_last : may_read last
    pub at_first : lead ≤ lead_of first
    pub at_last : lead ≤ lead_of last
    pub minute : 60000 ≤ last.monotonic_millis - first.monotonic_millis

  -- there are two such readings
  abbrev pub HasStood : ℕ → Type 0
  HasStood lead = ∥ AtBothEnds lead ∥₁

  -- a reading had the step's lead or a greater one when the step began
  pub record AtItsBegin (step : Step) : Type 0 where
    pub first : Reading
    pub read : may_read first
    pub lead : step.lead ≤ lead_of first
    pub since : step.since ≡ first.monotonic_millis

  -- there is such a reading
  abbrev pub HasBegun : Step → Type 0
  HasBegun step = ∥ AtItsBegin step ∥₁

  -- the lead at the start, or a greater one that has stood
  abbrev pub InForce : Reading → ℕ → Type 0
  InForce start lead = (lead ≡ lead_of start) ⊎ ((lead_of start < lead) × HasStood lead)

  -- the monotonic clock was read so
  pub record WasRead (monotonic : ℕ) : Type 0 where
    pub reading : Reading
    pub read : may_read reading
    pub is : monotonic ≡ reading.monotonic_millis

  -- The moment of a clock that was made at a reading: the monotonic clock's, as it was read, with a lead in force
  pub record IsSteadyMoment (start : Reading) (now : ℕ) : Type 0 where
    pub monotonic : ℕ
    pub lead : ℕ
    pub read : WasRead monotonic
    pub in_force : InForce start lead
    pub moment : now ≡ moment_by monotonic lead
