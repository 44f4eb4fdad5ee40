-- Where each thing that is counted has its place.
use Rattle.std.specs.Prelude.{ℕ}
use denote.Enum.Declared.{tag_of}
use Rattle.mc_metrics.specs.contracts.counts.Counted.{the_type}
use Rattle.mc_metrics.specs.declared.counts.Counted.{Counted}

-- the place of what is counted, among all
abbrev pub place_of : Counted → ℕ
place_of counted = tag_of the_type counted
