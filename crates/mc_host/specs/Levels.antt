-- What lines on standard error begin with.
use Rattle.std.specs.Prelude.{ℕ, Bool, true, false, List, codes}
use Rattle.mc_host.specs.declared.diagnostics.Level.{Level}
use Rattle.mc_host.specs.declared.diagnostics.Level.TheVariants.{Error, Warning, Info}

-- the level of a line by syslog's numbers, if lines have levels
abbrev pub prefix_of : (has_levels : Bool) → Level → List ℕ
prefix_of true Error = codes "<3>"
prefix_of true Warning = codes "<4>"
prefix_of true Info = codes "<6>"
prefix_of false level = codes ""
