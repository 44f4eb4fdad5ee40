-- A clock's moments don't fall, and follow a step that stands.
use Rattle.std.proofs.Common.{◌≡◌, ◌∙◌, ◌≤◌, ◌<◌, ◌+◌, ◌⊎◌, inl, inr, ℕ, List, [], ◌∷◌, Option, Some, None, refl, rules, subst, sym}
use Rattle.mc_time.specs.declared.reading.Reading.{Reading}
use Rattle.mc_time.specs.declared.state.Step.{Step}
use Rattle.mc_time.specs.declared.state.ClockState.{ClockState}
use Rattle.mc_time.specs.Readings.{NeverFall, Each, Has, IsWithinMinute, MayStand, moment_of, moments_given}
use Rattle.mc_time.specs.Readings.{risen, settled, step_after, state_after, state_after_all}

pub never_fall : (state : ClockState) (readings : List Reading) → NeverFall (moment_of state) (moments_given state readings)
never_fall state [] = tt
never_fall state (reading ∷ readings) = (search rules, never_fall (state_after state reading) readings)

-- the step that stands, if one does, began within the minute
abbrev Young : ℕ → Option Step → Type 0
Young start None = Unit {0}
Young start (Some step) = start ≤ step.since

step_young : (start lead : ℕ) (step : Option Step) (reading : Reading) → Young start step → start ≤ reading.monotonic_millis
    → Young start (step_after lead step reading)
step_young start lead None reading young within = search rules
step_young start lead (Some step) reading young within = search rules

settled_young : (start : ℕ) (state : ClockState) (step : Option Step) (now : ℕ) → Young start step → now < start + 60000
    → ((settled state step now).lead ≡ state.lead) × Young start (settled state step now).step
settled_young start state None now young within = (refl, tt)
settled_young start state (Some step) now young within = search rules

brief_of : (start : ℕ) (state : ClockState) (readings : List Reading) → Young start state.step → Each (IsWithinMinute start) readings
    → (state_after_all state readings).lead ≡ state.lead
brief_of start state [] young each = refl
brief_of start state (reading ∷ readings) young each =
    let step = step_young start state.lead state.step reading young each.0.0 in
    let now = settled_young start (risen state reading) (step_after state.lead state.step reading) reading.monotonic_millis step each.0.1 in
    brief_of start (state_after state reading) readings now.1 each.1 ∙ now.0

pub brief : (state : ClockState) (readings : List Reading) (start : ℕ) → state.step ≡ None → Each (IsWithinMinute start) readings
    → (state_after_all state readings).lead ≡ state.lead
brief state readings start none each = brief_of start state readings (subst (Young start) (sym none) tt) each

-- a step stands that has a lead or a greater one, and began by this time
abbrev Stands : ℕ → ℕ → Option Step → Type 0
Stands lead start None = ⊥
Stands lead start (Some step) = (lead ≤ step.lead) × (step.since ≤ start)

-- a lead is in force but for less than a second, or a step stands that has it
abbrev Nears : ℕ → ℕ → ClockState → Type 0
Nears lead start state = (lead < state.lead + 1000) ⊎ Stands lead start state.step

first_nears : (lead inside : ℕ) (step : Option Step) (reading : Reading) → MayStand lead reading.monotonic_millis step → Has lead reading
    → (lead < inside + 1000) ⊎ Stands lead reading.monotonic_millis (step_after inside step reading)
first_nears lead inside None reading may has = search rules
first_nears lead inside (Some step) reading may has = search rules

next_nears : (lead inside start : ℕ) (step : Option Step) (reading : Reading) → Stands lead start step → Has lead reading
    → (lead < inside + 1000) ⊎ Stands lead start (step_after inside step reading)
next_nears lead inside start None reading stands has = absurd stands
next_nears lead inside start (Some step) reading stands has = search rules

settled_nears : (lead start : ℕ) (state : ClockState) (step : Option Step) (now : ℕ) → Nears lead start (record { monotonic = 0; lead = state.lead; step = step })
    → Nears lead start (settled state step now)
settled_nears lead start state None now nears = nears
settled_nears lead start state (Some step) now nears = search rules

-- after a minute it's in force
settled_last : (lead start : ℕ) (state : ClockState) (step : Option Step) (now : ℕ) → Nears lead start (record { monotonic = 0; lead = state.lead; step = step })
    → start + 60000 ≤ now → lead < (settled state step now).lead + 1000
settled_last lead start state None now (inl near) late = near
settled_last lead start state None now (inr stands) late = absurd stands
settled_last lead start state (Some step) now (inl near) late = search rules
settled_last lead start state (Some step) now (inr stands) late = search rules

nears_next : (lead start : ℕ) (state : ClockState) (reading : Reading) → Nears lead start state → Has lead reading
    → Nears lead start (record { monotonic = 0; lead = state.lead; step = step_after state.lead state.step reading })
nears_next lead start state reading (inl near) has = inl near
nears_next lead start state reading (inr stands) has = next_nears lead state.lead start state.step reading stands has

between_nears : (lead start : ℕ) (state : ClockState) (readings : List Reading) → Nears lead start state → Each (Has lead) readings
    → Nears lead start (state_after_all state readings)
between_nears lead start state [] nears each = nears
between_nears lead start state (reading ∷ readings) nears each =
    between_nears lead start (state_after state reading) readings
    (settled_nears lead start (risen state reading) (step_after state.lead state.step reading) reading.monotonic_millis (nears_next lead start state reading nears each.0))
    each.1

pub stood : (state : ClockState) (first last : Reading) (between : List Reading) (lead : ℕ) → MayStand lead first.monotonic_millis state.step
    → Has lead first → Each (Has lead) between → Has lead last → first.monotonic_millis + 60000 ≤ last.monotonic_millis
    → lead < (state_after (state_after_all (state_after state first) between) last).lead + 1000
stood state first last between lead may at_first each at_last late =
    let start = first.monotonic_millis in
    let begun = settled_nears lead start (risen state first) (step_after state.lead state.step first) start (first_nears lead state.lead state.step first may at_first) in
    let mid = state_after_all (state_after state first) between in
    let there : Nears lead start mid = between_nears lead start (state_after state first) between begun each in
    settled_last lead start (risen mid last) (step_after mid.lead mid.step last) last.monotonic_millis (nears_next lead start mid last there at_last) late
