-- What Linux reports of a process (proc(5)).
use Rattle.std.specs.Prelude.{ℕ, ◌+◌, ◌*◌, ◌-◌, ◌^◌, min, ◌==◌, List, slice_get, Option, None}
use Rattle.std.specs.List.{after_last, count_by}
use Rattle.std.specs.Option.{option_map, option_and_then}
use Rattle.std.specs.Str.{byte}
use Rattle.mc_protocol.specs.Words.{words}
use Rattle.mc_protocol.specs.Numbers.{number_up_to}
use Rattle.mc_metrics.specs.declared.reading.ProcessReading.{ProcessReading}

-- the fields of /proc/self/stat from the third on: the words behind the program's name, which stands in parentheses
abbrev pub fields : (stat : List ℕ) → List (List ℕ)
fields stat = words (after_last (λ b. b == byte ")") stat)

-- the number in a field, counted from 1, if it is one below 2^64
abbrev pub field_of : (stat : List ℕ) → (field : ℕ) → Option ℕ
field_of stat field = option_and_then (number_up_to (2 ^ 64 - 1)) (slice_get (fields stat) (field - 3))

-- the sum of two numbers, if there are both
abbrev pub sum_of : (one other : Option ℕ) → Option ℕ
sum_of one other = option_and_then (λ n. option_map (λ m. min (n + m) (2 ^ 64 - 1)) other) one

-- the processor time of the process, in hundredths of a second: its own (field 14), and the system's for it (15)
abbrev pub cpu_of : (stat : List ℕ) → Option ℕ
cpu_of stat = sum_of (field_of stat 14) (field_of stat 15)

-- the bytes of the process in memory: pages of 4096 bytes (field 24)
abbrev pub resident_of : (stat : List ℕ) → Option ℕ
resident_of stat = option_map (λ pages. min (pages * 4096) (2 ^ 64 - 1)) (field_of stat 24)

-- the figures in /proc/self/stat that change while the process runs
abbrev pub figures_of : (stat : List ℕ) → ProcessReading
figures_of stat = record {
  resident = resident_of stat;
  virtual_size = field_of stat 23;
  cpu = cpu_of stat;
  started = None;
  open_fds = None;
  most_fds = None;
}

-- how many names a directory has that is read as its names, each ended by a NUL
abbrev pub names_in : (listing : List ℕ) → ℕ
names_in listing = min (count_by (λ b. b == 0) listing) (2 ^ 64 - 1)
