-- What the page says of commands: under which command and result it shows each step.
use Rattle.std.specs.Prelude.{ℕ, Bool, false, ◌||◌, ◌==◌, List, Option, Some, None, codes}
use Rattle.std.specs.List.{find}
use Rattle.std.specs.Option.{option_map}
use Rattle.mc_protocol.specs.declared.step.KeyStep.{KeyStep}
use Rattle.mc_protocol.specs.declared.step.StepKind.{StepKind}
use Rattle.mc_protocol.specs.declared.step.StepKind.TheVariants as kind
use Rattle.mc_protocol.specs.Commands.{kind_of}
use Rattle.mc_links.specs.declared.tally.Outcome.{Outcome}
use Rattle.mc_links.specs.declared.tally.Outcome.TheVariants as outcome
use Rattle.mc_metrics.specs.declared.counts.Counted.{Counted}
use Rattle.mc_metrics.specs.Places.{place_of}
use Rattle.mc_metrics.specs.declared.reading.Figure.{Figure}
use Rattle.mc_metrics.specs.declared.reading.Figure.TheVariants.{Count, Both}
use Rattle.mc_telemetry.specs.Names.{labels_named, command_labels}

-- a command and a result
abbrev pub Label : Type 0
Label = List ℕ × List ℕ

-- the command of a step of this kind: a gat is a touch, and set stands for each storage command but cas
abbrev pub command_of : StepKind → List ℕ
command_of kind.Set = codes "set"
command_of kind.Cas = codes "cas"
command_of kind.Get = codes "get"
command_of kind.Touch = codes "touch"
command_of kind.Delete = codes "delete"
command_of kind.Incr = codes "incr"
command_of kind.Decr = codes "decr"
command_of kind.Flush = codes "flush"

-- the result of a step that found no item, or one in its way; a set is a hit all the same, and a flush is never in vain
abbrev pub vain_of : StepKind → List ℕ
vain_of kind.Set = codes "hit"
vain_of kind.Flush = codes "hit"
vain_of other = codes "miss"

-- what is shown of a step that found its item changed; only a cas is shown then
abbrev pub clash_of : StepKind → Option Label
clash_of kind.Cas = Some (codes "cas", codes "badval")
clash_of other = None

-- what is shown of a step of this command, which may have been in vain, or have found its item changed
abbrev pub shown_by : (command vain : List ℕ) (clash : Option Label) → Outcome → Option Label
shown_by command vain clash outcome.Hit = Some (command, codes "hit")
shown_by command vain clash outcome.Stored = Some (command, codes "hit")
shown_by command vain clash outcome.Touched = Some (command, codes "hit")
shown_by command vain clash outcome.Deleted = Some (command, codes "hit")
shown_by command vain clash outcome.Number = Some (command, codes "hit")
shown_by command vain clash outcome.Flushed = Some (command, codes "hit")
shown_by command vain clash outcome.Miss = Some (command, vain)
shown_by command vain clash outcome.NotFound = Some (command, vain)
shown_by command vain clash outcome.NotStored = Some (command, vain)
shown_by command vain clash outcome.Exists = clash
shown_by command vain clash outcome.NoChunk = None
shown_by command vain clash outcome.NotNumeric = None
shown_by command vain clash outcome.TooLarge = None

-- the command and the result under which a step is shown that came out so
abbrev pub shown_as : KeyStep → Outcome → Option Label
shown_as taken out =
    shown_by (command_of (kind_of taken)) (vain_of (kind_of taken)) (clash_of (kind_of taken)) out

-- whether a number is this counter, or a sum with it
abbrev pub has_counter : Counted → Figure → Bool
has_counter counted (Count told) = place_of told == place_of counted
has_counter counted (Both one other) = (place_of one == place_of counted) || (place_of other == place_of counted)
has_counter counted told = false

-- the labels under which the page shows a counter of steps
abbrev pub labels_of : Counted → Option (List ℕ)
labels_of counted =
    option_map (λ row. row.0) (find (λ row. has_counter counted row.1) (labels_named (codes "memcached_commands_total")))

-- a command and a result as labels
abbrev pub labels : Label → List ℕ
labels shown = command_labels shown.0 shown.1
