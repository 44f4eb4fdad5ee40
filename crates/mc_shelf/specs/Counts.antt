-- What is counted of a shelf, and how few of its entries a step moves.
use Rattle.std.specs.Prelude.{◌≡◌, ℕ, ◌+◌, ◌-◌, ◌*◌, ◌<◌, ◌≤◌, ◌^◌, ◌⊎◌, true, false, length}
use Rattle.std.specs.FinMap.{len}
use Rattle.mc_grow.specs.Indexes.{IndexState, left}
use Rattle.mc_shelf.specs.States.{EntryState, ShelfState}
use Rattle.mc_shelf.specs.Places.{items_of}
use Rattle.mc_shelf.specs.declared.counts.ShelfCounts.{ShelfCounts}

-- the counts of a shelf
abbrev pub counts_of : ShelfState → ShelfCounts
counts_of shelf = record {
  items = len shelf.content.items;
  homes = shelf.homes;
  growing = shelf.growing;
  left = shelf.left;
  strays = shelf.strays;
}

-- the counts of the shelf that has this index
abbrev pub counts_in : IndexState EntryState → ShelfCounts
counts_in index = record {
  items = len (items_of index);
  homes = 2 ^ index.k;
  growing = index.growing;
  left = left index;
  strays = length index.strays;
}

-- what holds of the counts of each shelf
pub record FitTogether (counts : ShelfCounts) : Type 0 where
  pub homes : (64 ≤ counts.homes) × (counts.homes ≤ 2 ^ 24)
  pub within : counts.left + counts.strays ≤ counts.items
  pub rests : counts.growing ≡ false → counts.left ≡ 0

-- The table is the same, and at most `most` entries left the old one.
pub record KeepsTable (most : ℕ) (old new : ShelfCounts) : Type 0 where
  pub homes : new.homes ≡ old.homes
  pub growing : new.growing ≡ old.growing
  pub less : new.left ≤ old.left
  pub few : old.left ≤ new.left + most

-- The table is the one that it was, and no entry was moved: of those that are left in an old table no more have gone than items
-- have.
pub record DropsAlone (old new : ShelfCounts) : Type 0 where
  pub homes : new.homes ≡ old.homes
  pub growing : new.growing ≡ old.growing
  pub less : new.left ≤ old.left
  pub fewer : new.items ≤ old.items
  pub few : old.left + new.items ≤ new.left + old.items

-- Each item that has gone is counted as reclaimed, or the count is the greatest number of 64 bits.
abbrev pub AreReclaimed : (old new : ShelfState) → Type 0
AreReclaimed old new =
    (new.reclaimed + len new.content.items ≡ old.reclaimed + len old.content.items)
    ⊎ (new.reclaimed ≡ 2 ^ 64 - 1)

-- No growth has begun, and at most `most` entries left the old table.
pub record GoesOn (most : ℕ) (old new : ShelfCounts) : Type 0 where
  pub homes : new.homes ≡ old.homes
  pub none_begins : new.growing ≡ true → old.growing ≡ true
  pub less : new.left ≤ old.left
  pub few : old.left ≤ new.left + most

-- with one item more, there are more than three for every four homes
abbrev pub IsLoaded : ShelfCounts → Type 0
IsLoaded counts = 3 * counts.homes < 4 * (counts.items + 1)

-- A growth is due before one item more comes: by that load, or if none runs, an item is a stray,
-- and there is one for every four homes.
abbrev pub GrowthIsDue : ShelfCounts → Type 0
GrowthIsDue counts =
    IsLoaded counts
    ⊎ ((counts.growing ≡ false) × (0 < counts.strays) × (counts.homes ≤ 4 * (counts.items + 1)))

-- A due growth has begun: the homes have doubled, and at most all items are left to move. A growth that ran before is over;
-- at most its last 8 entries were moved.
pub record Begins (old new : ShelfCounts) : Type 0 where
  pub due : GrowthIsDue old
  pub last : old.left ≤ 8
  pub homes : new.homes ≡ 2 * old.homes
  pub growing : new.growing ≡ true
  pub left : new.left ≤ old.items

-- A growth has begun. All items but the strays were to move, and at most `most` of them have moved.
pub record BeginsToMove (most : ℕ) (old new : ShelfCounts) : Type 0 where
  pub begins : Begins old new
  pub few : old.items ≤ new.left + old.strays + most

-- Of the entries that are left in an old table at most so many have gone, also where a growth has begun; and none has but one that
-- is due.
abbrev pub MovesFew : (most : ℕ) → (old new : ShelfCounts) → Type 0
MovesFew most old new = GoesOn most old new ⊎ BeginsToMove most old new

-- A growth that lags goes on: if one runs, and by the load the next one is due, at least 8 of the
-- entries that are left have gone, or all that were left; the next one may have begun then.
abbrev pub CatchesUp : (old new : ShelfCounts) → Type 0
CatchesUp old new =
    old.growing ≡ true → IsLoaded old → (new.left ≤ old.left - 8) ⊎ Begins old new

-- 8 entries were moved at most, and as many are strays now that weren't. A growth that was ended so was lagging; if none ran, all
-- counts are as they were.
pub record CaughtUp (old new : ShelfCounts) : Type 0 where
  pub items : new.items ≡ old.items
  pub goes : GoesOn 8 old new
  pub ends : old.growing ≡ true → new.growing ≡ false → (old.left ≤ 8) × IsLoaded old
  pub lags : old.growing ≡ true → IsLoaded old → new.left ≤ old.left - 8
  pub none_left : old.growing ≡ false → old.left ≡ 0
  pub rests : old.growing ≡ false → new ≡ old
  pub over : new.growing ≡ false → new.left ≡ 0
  pub strays : new.strays ≤ old.strays + 8
