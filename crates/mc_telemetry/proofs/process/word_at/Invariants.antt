use Rattle.std.proofs.Common.{◌≡◌, ◌≤◌, ◌-◌}
use Rattle.std.specs.Prelude.{slice_get}
use Rattle.mc_protocol.specs.Words.{words}
use Rattle.mc_telemetry.proofs.process.word_at.Given as goal

abbrev pub invariant-loop-step : goal.invariant-loop-step
invariant-loop-step l =
    (slice_get (words l.rest) (l.place - l._step) ≡ slice_get (words l.text) l.place) × (l._step ≤ l.place)
