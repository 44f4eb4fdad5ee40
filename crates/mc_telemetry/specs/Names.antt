-- Where each number of the page comes from, by its name and its labels, as the table METRICS has it.
use Rattle.std.specs.Prelude.{◌≡◌, ℕ, Bool, true, not, ◌&&◌, List, [], ◌∷◌, ◌++◌, map, Option, Some, None, codes}
use Rattle.std.specs.Str.{bytes_eq}
use Rattle.std.specs.List.{find, flat_map, list_any}
use Rattle.std.specs.Option.{option_map}
use Rattle.mc_metrics.specs.declared.family.Kind.{Kind}
use Rattle.mc_metrics.specs.declared.family.Kind.TheVariants.{Counter, Gauge}
use Rattle.mc_metrics.specs.declared.family.Samples.{Samples}
use Rattle.mc_metrics.specs.declared.family.Samples.TheVariants.{Each}
use Rattle.mc_metrics.specs.declared.reading.Figure.{Figure}
use Rattle.mc_metrics.specs.declared.reading.Figure.TheVariants.{Closed, One}
use Rattle.mc_metrics.specs.Pages.{Family, families_text}
use Rattle.mc_metrics.specs.declared.reading.PageValues.{PageValues}
use Rattle.mc_sockets.specs.declared.connection.CloseReason.{CloseReason}
use Rattle.mc_sockets.specs.CloseReasons.{parting_place}
use Rattle.mc_telemetry.specs.declared.metrics.TheConstants.{METRICS}

-- a metric: its type, its name, its help, its samples, and the labels of these with their numbers
abbrev pub Metric : Type 0
Metric = Kind × List ℕ × List ℕ × Samples × List (List ℕ × Figure)

-- the metrics of the page: the rows of METRICS
abbrev pub metrics : List Metric
metrics = map (λ row. (row.0, row.1.now, row.2.now, row.3, map (λ of. (of.0.now, of.1)) row.4.now)) METRICS

-- a row as it is lent
abbrev pub metric_of : Family → Metric
metric_of row = (row.0, row.1.now, row.2.now, row.3, map (λ of. (of.0.now, of.1)) row.4.now)

-- the page of these metrics
abbrev pub IsPageOf : List Metric → PageValues → (page : List ℕ) → Type 0
IsPageOf shown reading page =
    (families : List Family) × (map metric_of families ≡ shown) × (page ≡ families_text reading families)

-- the metric with this name
abbrev pub metric : (name : List ℕ) → Option Metric
metric name = find (λ row. bytes_eq row.1 name) metrics

-- the type of a metric, and its samples
abbrev pub typed : Metric → Kind × Samples
typed row = (row.0, row.3)

-- the metric with this name is a gauge with these samples
abbrev pub IsGauge : (name : List ℕ) → Samples → Type 0
IsGauge name told = option_map typed (metric name) ≡ Some (Gauge, told)

-- the metric with this name is a counter with these samples
abbrev pub IsCounter : (name : List ℕ) → Samples → Type 0
IsCounter name told = option_map typed (metric name) ≡ Some (Counter, told)

-- the labels of a metric, each with its number
abbrev pub rows_of : Option Metric → List (List ℕ × Figure)
rows_of (Some row) = row.4
rows_of None = []

-- the labels of the metric with this name, each with its number
abbrev pub labels_named : (name : List ℕ) → List (List ℕ × Figure)
labels_named name = rows_of (metric name)

-- the number of the metric with this name that has these labels
abbrev pub labelled : (name labels : List ℕ) → Option Figure
labelled name labels = option_map (λ row. row.1) (find (λ row. bytes_eq row.0 labels) (labels_named name))

-- the metric with this name is a gauge that is 1, with the version as its label
abbrev pub IsVersion : (name : List ℕ) → Type 0
IsVersion name = IsGauge name Each × (map (λ row. row.1) (labels_named name) ≡ One ∷ [])

-- a command and a result as labels
abbrev pub command_labels : (command status : List ℕ) → List ℕ
command_labels command status = codes "{command=\"" ++ command ++ codes "\",status=\"" ++ status ++ codes "\"}"

-- the number of steps that are shown under this command and this result
abbrev pub IsCommand : (command status : List ℕ) → Figure → Type 0
IsCommand command status told =
    labelled (codes "memcached_commands_total") (command_labels command status) ≡ Some told

-- the number of connections that were closed for this reason
abbrev pub closed : CloseReason → Figure
closed reason = Closed (parting_place reason)

-- the label of connections that were closed for this reason
abbrev pub IsReason : (label : List ℕ) → CloseReason → Type 0
IsReason label reason =
    labelled (codes "mcserver_connections_closed_total") (codes "{reason=\"" ++ label ++ codes "\"}")
    ≡ Some (closed reason)

-- the text before a number among the settings: the first stands behind a brace
abbrev pub IsSetting : (text : List ℕ) → Figure → Type 0
IsSetting text told = labelled (codes "mcserver_settings_info") text ≡ Some told

-- the name of a metric, with each of its labels
abbrev pub names_of : Metric → List (List ℕ)
names_of row = row.1 ∷ map (λ of. row.1 ++ of.0) row.4

-- no text stands twice
abbrev pub are_distinct : List (List ℕ) → Bool
are_distinct [] = true
are_distinct (text ∷ texts) = not (list_any (bytes_eq text) texts) && are_distinct texts

-- no metric's name stands twice, and no labels of a metric
abbrev pub AreDistinct : List Metric → Type 0
AreDistinct shown = are_distinct (flat_map names_of shown) ≡ true
