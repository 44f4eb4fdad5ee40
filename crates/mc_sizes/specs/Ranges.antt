-- The numbers that a store may be set up by.
use Rattle.std.specs.Prelude.{◌≤◌, ℕ, Bool, ◌==◌, ◌||◌, IsTrue}
use Rattle.mc_sizes.specs.Classes.{page_size}
use Rattle.mc_sizes.specs.Needs.{largest_charge}

-- a number of pages: 1 to 65536
abbrev pub IsPageCount : ℕ → Type 0
IsPageCount n = 1 ≤ n × n ≤ 65536

-- a greatest charge of an item, in bytes: that of one page to that of eight
abbrev pub IsGreatestCharge : ℕ → Type 0
IsGreatestCharge n = page_size ≤ n × n ≤ largest_charge

-- whether a number is a power of two, 1 to 256
abbrev pub is_shelf_count : ℕ → Bool
is_shelf_count n =
    n == 1 || n == 2 || n == 4 || n == 8 || n == 16 || n == 32 || n == 64 || n == 128 || n == 256

-- a number of shelves: a power of two, 1 to 256
abbrev pub IsShelfCount : ℕ → Type 0
IsShelfCount n = IsTrue (is_shelf_count n)

-- a store may be set up with these pages, this greatest charge, and these shelves
abbrev pub AreInRange : (pages greatest shelves : ℕ) → Type 0
AreInRange pages greatest shelves =
    IsPageCount pages × IsGreatestCharge greatest × IsShelfCount shelves
