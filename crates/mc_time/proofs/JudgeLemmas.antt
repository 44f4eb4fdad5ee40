-- What is known of the step that stands, and of a lead that has stood.
use Rattle.std.proofs.Common.{◌≡◌, ◌≤◌, ◌<◌, ◌-◌, ◌⊎◌, inr, ℕ, Option, Some, None, Bool, true, false, refl, rules, arith, subst, sym, max, nat_le, if◌then◌else◌}
use Rattle.std.proofs.Math.Logic.{∥∥₁_map}
use Rattle.std.specs.Option.{ForSome}
use Rattle.mc_time.specs.declared.reading.Reading.{Reading}
use Rattle.mc_time.specs.declared.state.Step.{Step}
use Rattle.mc_time.specs.declared.state.ClockState.{ClockState}
use Rattle.mc_time.specs.Readings.{AtItsBegin, HasBegun, HasStood, lead_of, risen, settled, standing, step_after, state_after}

module _ (may_read : Reading → Type 0) (reading : Reading) (read : may_read reading) where
  -- a step that began at a reading, and that this reading has, too
  record Holds (step : Step) : Type 0 where
    pub begun : HasBegun may_read step
    pub has : step.lead ≤ lead_of reading

  holds_standing : (step : Option Step) → ForSome step (HasBegun may_read) → Holds (standing step reading)
  holds_standing None begun = record {
    begun = ∣ record { first = reading; read = read; lead = search rules; since = refl } ∣₁;
    has = search rules;
  }
  holds_standing (Some step) begun = record {
    begun = ∥∥₁_map (begun step refl) (λ (w : AtItsBegin may_read step). record { first = w.first; read = w.read; lead = omega (arith, w.lead); since = w.since });
    has = omega arith;
  }

  holds_if : (b : Bool) (step : Step) → Holds step → ForSome (if b then Some step else None) Holds
  holds_if true step holds = λ found is. let same : step ≡ found = cc in subst Holds same holds
  holds_if false step holds = λ found is. cc

  -- a minute after it began, its lead has stood
  has_stood : (step : Step) → Holds step → 60000 ≤ reading.monotonic_millis - step.since → HasStood may_read step.lead
  has_stood step holds late =
      ∥∥₁_map holds.begun (λ (w : AtItsBegin may_read step). record {
        first = w.first;
        last = reading;
        read_first = w.read;
        read_last = read;
        at_first = w.lead;
        at_last = holds.has;
        minute = subst (λ (since : ℕ). 60000 ≤ reading.monotonic_millis - since) w.since late;
      })

  -- the state with a step, by whether it has stood for a minute
  abbrev chosen : Bool → ClockState → Step → ClockState
  chosen b state step = if b then record { monotonic = state.monotonic; lead = max state.lead step.lead; step = None } else record { monotonic = state.monotonic; lead = state.lead; step = Some step }

  chosen_begun : (b : Bool) (state : ClockState) (step : Step) → ForSome (Some step) Holds → ForSome (chosen b state step).step (HasBegun may_read)
  chosen_begun true state step holds = λ found is. cc
  chosen_begun false state step holds = λ found is. (holds found is).begun

  settled_begun : (state : ClockState) (step : Option Step) → ForSome step Holds → ForSome (settled state step reading.monotonic_millis).step (HasBegun may_read)
  settled_begun state None holds = λ found is. cc
  settled_begun state (Some step) holds = chosen_begun (nat_le 60000 (reading.monotonic_millis - step.since)) state step holds

  chosen_stood : (b : Bool) (state : ClockState) (step : Step) → Holds step → nat_le 60000 (reading.monotonic_millis - step.since) ≡ b
      → state.lead < (chosen b state step).lead → HasStood may_read (chosen b state step).lead
  chosen_stood true state step holds late more = subst (HasStood may_read) (omega (arith, more)) (has_stood step holds (search rules))
  chosen_stood false state step holds late more = absurd (omega (arith, more))

  settled_stood : (state : ClockState) (step : Option Step) → ForSome step Holds → state.lead < (settled state step reading.monotonic_millis).lead
      → HasStood may_read (settled state step reading.monotonic_millis).lead
  settled_stood state None holds more = absurd (omega (arith, more))
  settled_stood state (Some step) holds more = chosen_stood (nat_le 60000 (reading.monotonic_millis - step.since)) state step (holds step refl) refl more

  module _ (state : ClockState) (begun : ForSome state.step (HasBegun may_read)) where
    holds_after : ForSome (step_after state.lead state.step reading) Holds
    holds_after = holds_if (nat_le 1000 (lead_of reading - state.lead)) (standing state.step reading) (holds_standing state.step begun)

    -- the step after a reading has begun
    pub after_begun : (after : ClockState) → after ≡ state_after state reading → ForSome after.step (HasBegun may_read)
    after_begun after is = subst (λ (s : ClockState). ForSome s.step (HasBegun may_read)) (sym is) (settled_begun (risen state reading) (step_after state.lead state.step reading) holds_after)

    -- a lead that is greater than the one in force has stood
    pub after_stood : (after : ClockState) → after ≡ state_after state reading → state.lead < after.lead → (after.lead ≡ 0) ⊎ HasStood may_read after.lead
    after_stood after is more =
        inr (subst (λ (s : ClockState). HasStood may_read s.lead) (sym is)
        (settled_stood (risen state reading) (step_after state.lead state.step reading) holds_after (subst (λ (s : ClockState). state.lead < s.lead) is more)))
