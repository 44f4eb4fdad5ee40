use Rattle.std.proofs.Common.{◌≡◌, ℕ, List}
use Rattle.std.specs.Io.KnownBytes.{Consumes}
use Rattle.mc_telemetry.specs.Processes.{names_in}
use Rattle.mc_telemetry.proofs.process.count_names.Given as goal

abbrev pub invariant-loop-turn : goal.invariant-loop-turn
invariant-loop-turn g l =
    (more : List ℕ) × Consumes (g.D.Read.remaining l.fn.names) (g.D.Read.remaining l.names) more × (l.count ≡ names_in more)
