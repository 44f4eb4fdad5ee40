-- The phases of accepting connections.
use Rattle.std.specs.Prelude.{ℕ, Bool, true, false}
use Rattle.mc_sockets.specs.declared.phase.Phase.{Phase}
use Rattle.mc_sockets.specs.declared.phase.Phase.TheVariants.{Open, Asked, Closing, Over, Failed}

-- the number of a phase, which threads share
abbrev pub phase_number : Phase → ℕ
phase_number Open = 0
phase_number Asked = 1
phase_number Closing = 2
phase_number Over = 3
phase_number Failed = 4

-- no more connections are accepted
abbrev pub no_more_come : Phase → Bool
no_more_come Open = false
no_more_come Asked = false
no_more_come _ = true

-- open connections end too
abbrev pub all_end : Phase → Bool
all_end Over = true
all_end Failed = true
all_end _ = false

-- they end because that was asked for
abbrev pub all_end_as_asked : Phase → Bool
all_end_as_asked Over = true
all_end_as_asked _ = false
