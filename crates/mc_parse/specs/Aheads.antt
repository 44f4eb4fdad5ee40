-- What is known of the front of unread bytes.
use Rattle.std.specs.Prelude.{◌≢◌, ◌≤◌, ℕ, List, length, take}
use Rattle.std.specs.List.{AllByRecursion}
use Rattle.mc_parse.specs.Notes.{IsNoted}
use Rattle.mc_parse.specs.declared.ahead.Ahead.{Ahead}
use Rattle.mc_parse.specs.declared.ahead.Ahead.TheVariants.{Searched, Line}

-- the first n bytes have no line feed
abbrev pub HasNoFeed : ℕ → List ℕ → Type 0
HasNoFeed n bytes = AllByRecursion (λ b. b ≢ 10) (take n bytes)

-- this was known of a front of the bytes, and still holds
abbrev pub Knew : (greatest : ℕ) → Ahead → List ℕ → Type 0
Knew greatest (Searched n) bytes = HasNoFeed n bytes
Knew greatest (Line note) bytes = IsNoted greatest note bytes

-- everything is known that the bytes show: no line ends, or the first one was parsed
abbrev pub Knows : (greatest : ℕ) → Ahead → List ℕ → Type 0
Knows greatest (Searched n) bytes = HasNoFeed 65537 bytes × (n ≤ length bytes) × (n ≤ 65537)
Knows greatest (Line note) bytes = IsNoted greatest note bytes
