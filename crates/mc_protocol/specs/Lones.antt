-- What a command does that is only a name.
use Rattle.std.specs.Prelude.{Bool, true, false}
use Rattle.mc_protocol.specs.declared.lone.Lone.{Lone}
use Rattle.mc_protocol.specs.declared.lone.Lone.TheVariants.{Version, Quit}

-- it ends its stream
abbrev pub closes : Lone → Bool
closes Version = false
closes Quit = true
