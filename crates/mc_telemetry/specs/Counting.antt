-- Which counter a step raises.
use Rattle.std.specs.Prelude.{Option, Some, None}
use Rattle.mc_protocol.specs.declared.step.KeyStep.{KeyStep}
use Rattle.mc_protocol.specs.declared.step.StepKind.{StepKind}
use Rattle.mc_protocol.specs.declared.step.StepKind.TheVariants as kind
use Rattle.mc_protocol.specs.Commands.{kind_of}
use Rattle.mc_links.specs.declared.tally.Outcome.{Outcome}
use Rattle.mc_links.specs.declared.tally.Outcome.TheVariants as outcome
use Rattle.mc_metrics.specs.declared.counts.Counted.{Counted}
use Rattle.mc_metrics.specs.declared.counts.Counted.TheVariants.{GetHit, GetMiss, SetStored, SetNotStored, CasHit, CasMiss, CasBadval, DeleteHit, DeleteMiss, IncrHit, IncrMiss, DecrHit, DecrMiss, TouchHit, TouchMiss, Flush, Refused}

-- the counter of a step of this kind that succeeded, and of one that found no item, or an item in its
-- way; a flush always succeeds
abbrev pub ways_of : StepKind → Counted × Counted
ways_of kind.Set = (SetStored, SetNotStored)
ways_of kind.Cas = (CasHit, CasMiss)
ways_of kind.Get = (GetHit, GetMiss)
ways_of kind.Touch = (TouchHit, TouchMiss)
ways_of kind.Delete = (DeleteHit, DeleteMiss)
ways_of kind.Incr = (IncrHit, IncrMiss)
ways_of kind.Decr = (DecrHit, DecrMiss)
ways_of kind.Flush = (Flush, Flush)

-- as what a step counts that found its item changed; only a cas has such a counter
abbrev pub badval_of : StepKind → Option Counted
badval_of kind.Cas = Some CasBadval
badval_of other = None

-- as what counts what came out so, by the two ways and as what it counts on a changed item; too large a step,
-- and one on what is no number, count as nothing
abbrev pub counted_by : (ways : Counted × Counted) (badval : Option Counted) → Outcome → Option Counted
counted_by ways badval outcome.Hit = Some ways.0
counted_by ways badval outcome.Stored = Some ways.0
counted_by ways badval outcome.Touched = Some ways.0
counted_by ways badval outcome.Deleted = Some ways.0
counted_by ways badval outcome.Number = Some ways.0
counted_by ways badval outcome.Flushed = Some ways.0
counted_by ways badval outcome.Miss = Some ways.1
counted_by ways badval outcome.NotFound = Some ways.1
counted_by ways badval outcome.NotStored = Some ways.1
counted_by ways badval outcome.Exists = badval
counted_by ways badval outcome.NoChunk = Some Refused
counted_by ways badval outcome.NotNumeric = None
counted_by ways badval outcome.TooLarge = None

-- as what a step counts that came out so
abbrev pub counted_as : KeyStep → Outcome → Option Counted
counted_as step out = counted_by (ways_of (kind_of step)) (badval_of (kind_of step)) out
