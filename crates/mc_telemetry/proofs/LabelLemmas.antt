-- Steps are shown as they came out.
use Rattle.std.proofs.Common.{◌≡◌, refl, ℕ, List, Option, Some, None}
use Rattle.std.specs.Prelude.{codes}
use Rattle.std.specs.Option.{option_and_then, option_map}
use Rattle.mc_protocol.specs.declared.step.KeyStep.{KeyStep}
use Rattle.mc_protocol.specs.declared.step.StepKind.{StepKind}
use Rattle.mc_protocol.specs.declared.step.StepKind.TheVariants as kind
use Rattle.mc_protocol.specs.Commands.{kind_of}
use Rattle.mc_links.specs.declared.tally.Outcome.{Outcome}
use Rattle.mc_links.specs.declared.tally.Outcome.TheVariants as outcome
use Rattle.mc_metrics.specs.declared.counts.Counted.{Counted}
use Rattle.mc_telemetry.specs.Counting.{badval_of, counted_as, counted_by, ways_of}
use Rattle.mc_telemetry.specs.Labels.{Label, clash_of, command_of, labels, labels_of, shown_as, shown_by, vain_of}

-- a step with these two ways to count, and what it counts on a changed item, whose labels are these
by_outcome : (ways : Counted × Counted) (badval : Option Counted) (command vain : List ℕ) (clash : Option Label) (out : Outcome)
    → labels_of ways.0 ≡ Some (labels (command, codes "hit")) → labels_of ways.1 ≡ Some (labels (command, vain))
    → option_and_then labels_of badval ≡ option_map labels clash
    → option_and_then labels_of (counted_by ways badval out) ≡ option_map labels (shown_by command vain clash out)
by_outcome ways badval command vain clash outcome.Miss hit miss changed = miss
by_outcome ways badval command vain clash outcome.NotFound hit miss changed = miss
by_outcome ways badval command vain clash outcome.NotStored hit miss changed = miss
by_outcome ways badval command vain clash outcome.Exists hit miss changed = changed
by_outcome ways badval command vain clash outcome.NoChunk hit miss changed = refl
by_outcome ways badval command vain clash outcome.NotNumeric hit miss changed = refl
by_outcome ways badval command vain clash outcome.TooLarge hit miss changed = refl
by_outcome ways badval command vain clash other hit miss changed = hit

of_kind : (of : StepKind) (out : Outcome)
    → option_and_then labels_of (counted_by (ways_of of) (badval_of of) out) ≡ option_map labels (shown_by (command_of of) (vain_of of) (clash_of of) out)
of_kind kind.Set out = by_outcome (ways_of kind.Set) (badval_of kind.Set) (codes "set") (codes "hit") None out refl refl refl
of_kind kind.Cas out = by_outcome (ways_of kind.Cas) (badval_of kind.Cas) (codes "cas") (codes "miss") (Some (codes "cas", codes "badval")) out refl refl refl
of_kind kind.Get out = by_outcome (ways_of kind.Get) (badval_of kind.Get) (codes "get") (codes "miss") None out refl refl refl
of_kind kind.Touch out = by_outcome (ways_of kind.Touch) (badval_of kind.Touch) (codes "touch") (codes "miss") None out refl refl refl
of_kind kind.Delete out = by_outcome (ways_of kind.Delete) (badval_of kind.Delete) (codes "delete") (codes "miss") None out refl refl refl
of_kind kind.Incr out = by_outcome (ways_of kind.Incr) (badval_of kind.Incr) (codes "incr") (codes "miss") None out refl refl refl
of_kind kind.Decr out = by_outcome (ways_of kind.Decr) (badval_of kind.Decr) (codes "decr") (codes "miss") None out refl refl refl
of_kind kind.Flush out = by_outcome (ways_of kind.Flush) (badval_of kind.Flush) (codes "flush") (codes "hit") None out refl refl refl

pub steps_shown : (taken : KeyStep) (out : Outcome) → option_and_then labels_of (counted_as taken out) ≡ option_map labels (shown_as taken out)
steps_shown taken out = of_kind (kind_of taken) out
