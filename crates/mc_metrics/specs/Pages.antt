-- The page of metrics.
use Rattle.std.specs.Prelude.{ℕ, ◌+◌, ◌*◌, ◌-◌, ◌/◌, ◌%◌, ◌^◌, min, sum_by, List, [], ◌++◌, Option, Some, None, slice_get, codes, decimal}
use Rattle.std.specs.Borrow.{Bor}
use Rattle.std.specs.List.{flat_map}
use Rattle.mc_metrics.specs.Places.{place_of}
use Rattle.mc_metrics.specs.declared.counts.Counted.{Counted}
use Rattle.mc_metrics.specs.declared.family.Kind.{Kind}
use Rattle.mc_metrics.specs.declared.family.Kind.TheVariants.{Counter, Gauge}
use Rattle.mc_metrics.specs.declared.family.Samples.{Samples}
use Rattle.mc_metrics.specs.declared.family.Samples.TheVariants.{One, Each, Slabs, Refused, Process, Hundredths, Numbers}
use Rattle.mc_metrics.specs.declared.reading.PageValues.{PageValues}
use Rattle.mc_metrics.specs.declared.reading.SlabReading.{SlabReading}
use Rattle.mc_metrics.specs.declared.reading.TablesReading.{TablesReading}
use Rattle.mc_metrics.specs.declared.reading.BuffersReading.{BuffersReading}
use Rattle.mc_metrics.specs.declared.reading.Figure.{Figure}
use Rattle.mc_metrics.specs.declared.reading.Figure.TheVariants as figure
use Rattle.mc_metrics.specs.declared.reading.ProcessReading.{ProcessReading}
use Rattle.mc_metrics.specs.declared.reading.ProcessFigure.{ProcessFigure}
use Rattle.mc_metrics.specs.declared.reading.ProcessFigure.TheVariants as process
use Rattle.mc_metrics.specs.declared.reading.RefusedReading.{RefusedReading}
use Rattle.mc_metrics.specs.declared.reading.SlabFigure.{SlabFigure}
use Rattle.mc_metrics.specs.declared.reading.SlabFigure.TheVariants as slab

-- a number that is there, or 0
abbrev pub or_zero : Option ℕ → ℕ
or_zero (Some n) = n
or_zero None = 0

-- the number at a place, and 0 if there is none
abbrev pub number_at : List ℕ → (place : ℕ) → ℕ
number_at numbers place = or_zero (slice_get numbers place)

-- how often the one or the other was counted, in 64 bits
abbrev pub both : List ℕ → (one other : Counted) → ℕ
both counts one other = (number_at counts (place_of one) + number_at counts (place_of other)) % 2 ^ 64

-- the bytes of the chunks that items lie in, as many as 64 bits hold
abbrev pub bytes_of : List SlabReading → ℕ
bytes_of slabs = min (sum_by (λ class. class.used * class.size) slabs) (2 ^ 64 - 1)

-- a number shown on the page
abbrev pub figure_of : PageValues → Figure → ℕ
figure_of reading figure.One = 1
figure_of reading figure.Zero = 0
figure_of reading figure.Uptime = reading.uptime
figure_of reading (figure.Count counted) = number_at reading.counts (place_of counted)
figure_of reading (figure.Both one other) = both reading.counts one other
figure_of reading figure.Connections = reading.connections
figure_of reading figure.Lingering = reading.lingering
figure_of reading figure.Accepted = reading.accepted
figure_of reading figure.Most = reading.most
figure_of reading (figure.Closed place) = number_at reading.closed.items place
figure_of reading figure.Items = reading.tables.items
figure_of reading figure.Reclaimed = reading.tables.reclaimed
figure_of reading figure.Bytes = bytes_of reading.slabs.items
figure_of reading figure.Limit = reading.limit
figure_of reading figure.Shelves = reading.shelves
figure_of reading figure.Homes = reading.tables.homes
figure_of reading figure.Growths = reading.tables.growths
figure_of reading figure.Running = reading.tables.running
figure_of reading figure.Left = reading.tables.left
figure_of reading figure.Strays = reading.tables.strays
figure_of reading figure.Held = reading.buffers.held
figure_of reading figure.Buffers = reading.buffers.limit
figure_of reading figure.Waiting = reading.buffers.waiting
figure_of reading figure.Workers = reading.settings.workers
figure_of reading figure.Greatest = reading.settings.greatest
figure_of reading figure.IdleTimeout = reading.settings.idle_timeout

-- the sum of two numbers, or the greatest number that 64 bits hold
abbrev pub sum_in_64_bits : (one other : ℕ) → ℕ
sum_in_64_bits one other = min (one + other) (2 ^ 64 - 1)

-- what tables and others have
abbrev pub together : (tables others : TablesReading) → TablesReading
together tables others = record {
  items = sum_in_64_bits tables.items others.items;
  homes = sum_in_64_bits tables.homes others.homes;
  growths = sum_in_64_bits tables.growths others.growths;
  running = sum_in_64_bits tables.running others.running;
  left = sum_in_64_bits tables.left others.left;
  strays = sum_in_64_bits tables.strays others.strays;
  reclaimed = sum_in_64_bits tables.reclaimed others.reclaimed;
}

-- the buffers of all workers, with those of one more
abbrev pub with_worker : BuffersReading → (held waiting : ℕ) → BuffersReading
with_worker buffers held waiting = record {
  held = sum_in_64_bits buffers.held held;
  waiting = sum_in_64_bits buffers.waiting waiting;
  limit = buffers.limit;
}

-- a number shown for a class of chunks
abbrev pub slab_figure_of : SlabReading → SlabFigure → ℕ
slab_figure_of reading slab.Size = reading.size
slab_figure_of reading slab.ChunksAPage = reading.chunks_a_page
slab_figure_of reading slab.Pages = reading.pages
slab_figure_of reading slab.Chunks = reading.chunks
slab_figure_of reading slab.Used = reading.used
slab_figure_of reading slab.Free = reading.free

-- a number that the system reports of the process, if it does
abbrev pub process_figure_of : ProcessReading → ProcessFigure → Option ℕ
process_figure_of reading process.Resident = reading.resident
process_figure_of reading process.VirtualSize = reading.virtual_size
process_figure_of reading process.Cpu = reading.cpu
process_figure_of reading process.Started = reading.started
process_figure_of reading process.OpenFds = reading.open_fds
process_figure_of reading process.MostFds = reading.most_fds

-- the name of a kind, as it stands at the end of a line
abbrev pub kind_name : Kind → List ℕ
kind_name Counter = codes " counter\n"
kind_name Gauge = codes " gauge\n"

-- the two lines with which a family begins
abbrev pub head_text : Kind → (name help : List ℕ) → List ℕ
head_text kind name help =
    codes "# HELP " ++ name ++ codes " " ++ help ++ codes "\n# TYPE " ++ name ++ kind_name kind

-- the line of a sample, whose labels stand in braces
abbrev pub sample_text : (name labels : List ℕ) → (number : ℕ) → List ℕ
sample_text name labels number = name ++ labels ++ codes " " ++ decimal number ++ codes "\n"

-- the line of a sample of the class of chunks that has this number
abbrev pub slab_text : (name : List ℕ) → (class number : ℕ) → List ℕ
slab_text name class number =
    name ++ codes "{slab=\"" ++ decimal class ++ codes "\"} " ++ decimal number ++ codes "\n"

-- a line for each of these labels
abbrev pub each_text : PageValues → (name : List ℕ) → List (Bor (List ℕ) × Figure) → List ℕ
each_text reading name rows =
    flat_map (λ row. sample_text name row.0.now (figure_of reading row.1)) rows

-- a text and a number
abbrev pub label_text : (text : List ℕ) → (number : ℕ) → List ℕ
label_text text number = text ++ decimal number

-- each of these texts, with its number behind it
abbrev pub labels_text : PageValues → List (Bor (List ℕ) × Figure) → List ℕ
labels_text reading rows = flat_map (λ row. label_text row.0.now (figure_of reading row.1)) rows

-- the line of a sample that is 1 and has numbers as labels
abbrev pub numbers_text : PageValues → (name : List ℕ) → List (Bor (List ℕ) × Figure) → List ℕ
numbers_text reading name rows = name ++ labels_text reading rows ++ codes "\"} 1\n"

-- a line for each of these classes
abbrev pub slabs_text : SlabFigure → (name : List ℕ) → List SlabReading → List ℕ
slabs_text told name slabs =
    flat_map (λ class. slab_text name class.number (slab_figure_of class told)) slabs

-- a line for each class: its refused steps
abbrev pub refused_text : (name : List ℕ) → List RefusedReading → List ℕ
refused_text name rows = flat_map (λ row. slab_text name row.class row.count) rows

-- the line of a number, if there is one
abbrev pub known_text : (name : List ℕ) → Option ℕ → List ℕ
known_text name None = []
known_text name (Some number) = sample_text name [] number

-- two decimals at the end of a line
abbrev pub fraction_text : (tenths hundredths : ℕ) → List ℕ
fraction_text tenths hundredths = codes "." ++ decimal tenths ++ decimal hundredths ++ codes "\n"

-- the line of a number with two decimals
abbrev pub decimals_line : (name : List ℕ) → (whole tenths hundredths : ℕ) → List ℕ
decimals_line name whole tenths hundredths =
    name ++ codes " " ++ decimal whole ++ fraction_text tenths hundredths

-- the line of a number of hundredths, as a number with two decimals
abbrev pub hundredths_line : (name : List ℕ) → (number : ℕ) → List ℕ
hundredths_line name number = decimals_line name (number / 100) (number / 10 % 10) (number % 10)

-- the same, if there is one
abbrev pub hundredths_text : (name : List ℕ) → Option ℕ → List ℕ
hundredths_text name None = []
hundredths_text name (Some number) = hundredths_line name number

-- the samples of a family with these labels
abbrev pub samples_text : PageValues → (name : List ℕ) → Samples → List (Bor (List ℕ) × Figure) → List ℕ
samples_text reading name (One told) rows = sample_text name [] (figure_of reading told)
samples_text reading name Each rows = each_text reading name rows
samples_text reading name (Slabs told) rows = slabs_text told name reading.slabs.items
samples_text reading name Refused rows = refused_text name reading.refused.items
samples_text reading name (Process told) rows = known_text name (process_figure_of reading.process told)
samples_text reading name Numbers rows = numbers_text reading name rows
samples_text reading name (Hundredths told) rows = hundredths_text name (process_figure_of reading.process told)

-- a family: its type, its name, its help, its samples, and their labels
abbrev pub Family : Type 0
Family = Kind × Bor (List ℕ) × Bor (List ℕ) × Samples × Bor (List (Bor (List ℕ) × Figure))

-- the text of a family
abbrev pub family_text : PageValues → Family → List ℕ
family_text reading family =
    head_text family.0 family.1.now family.2.now ++ samples_text reading family.1.now family.3 family.4.now

-- families, one after another
abbrev pub families_text : PageValues → List Family → List ℕ
families_text reading families = flat_map (family_text reading) families
