-- Numbers that threads share, and their sums.
use Rattle.std.specs.Prelude.{◌≡◌, ℕ, ◌+◌, ◌%◌, ◌^◌, sum_by, List, Option, Some, None, slice_get}
use Rattle.std.specs.List.{AllZip}
use Rattle.mc_metrics.specs.declared.counts.CountersOf.{CountersOf}

-- this many were added to the number at a place when it was the second one
abbrev pub IsAddedAt : {C : Type 0} (WasAdded : C → ℕ → ℕ → Type 0) (cells : List C) (place count before : ℕ) → Type 0
IsAddedAt {C} WasAdded cells place count before = (cell : C) × (slice_get cells place ≡ Some cell) × WasAdded cell count before

-- a number that was read, or 0 if there is none
abbrev pub IsCountOf : {C : Type 0} (WasRead : C → ℕ → Type 0) → Option C → (number : ℕ) → Type 0
IsCountOf WasRead (Some cell) number = WasRead cell number
IsCountOf WasRead None number = number ≡ 0

-- the number at a place was read so; it is 0 if there is no such place
abbrev pub IsCountAt : {C : Type 0} (WasRead : C → ℕ → Type 0) (cells : List C) (place number : ℕ) → Type 0
IsCountAt WasRead cells place number = IsCountOf WasRead (slice_get cells place) number

-- a worker's counter at a place was read so
abbrev pub Counts : {C : Type 0} (WasRead : C → ℕ → Type 0) (place : ℕ) → CountersOf C → (number : ℕ) → Type 0
Counts WasRead place worker number = IsCountAt WasRead worker.cells place number

-- the refused steps of a class were read so at a worker
abbrev pub Refuses : {C : Type 0} (WasRead : C → ℕ → Type 0) (class : ℕ) → CountersOf C → (number : ℕ) → Type 0
Refuses WasRead class worker number = IsCountAt WasRead worker.refused class number

-- each of a list shows a number, and this is their sum in 64 bits
pub record IsSum {C : Type 0} (Shows : C → ℕ → Type 0) (of : List C) (sum : ℕ) : Type 0 where
  pub numbers : List ℕ
  pub each : AllZip Shows of numbers
  pub total : sum ≡ sum_by (λ n. n) numbers % 2 ^ 64
