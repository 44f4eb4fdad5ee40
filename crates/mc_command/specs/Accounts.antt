-- What the plain store counts: its pages, and the chunks of a dead item.
use Rattle.std.specs.Prelude.{◌≡◌, ◌≤◌, ℕ, List, length, sum, Option, Some, None}
use Rattle.mc_sizes.specs.Needs.{largest_charge}
use Rattle.mc_protocol.specs.Plain.{Plain, Entry}
use Rattle.std.specs.FinMap.{get}

-- the pages of the classes are counted, and are at most the limit
pub record AreCounted (greatest limit in_use : ℕ) (pages : List ℕ) : Type 0 where
  pub charges : greatest ≤ largest_charge
  pub most : limit ≤ 65536
  pub long : length pages ≡ 40
  pub counted : in_use ≡ sum pages
  pub within : sum pages ≤ limit

-- a key's dead item, if none stands
abbrev pub dead_item : Option Entry → List ℕ → Plain → Option Entry
dead_item None key old = get old.items key
dead_item (Some item) key old = None
