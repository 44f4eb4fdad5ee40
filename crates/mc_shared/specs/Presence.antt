-- Presence words: for each number of keys, how many keys have it.
use Rattle.std.specs.Prelude.{ℕ, ◌+◌, ◌*◌, ◌/◌, ◌%◌}
use Rattle.mc_shared.specs.Bays.{place}
use Rattle.mc_shelf.specs.Numbers.{numbers}

-- The word of a number. The words of one shelf's numbers are adjacent, behind all bays. Eight words
-- are unused after each shelf's, so that no two shelves' words share a cache line, wherever the
-- table begins; nor do they share one with the desk's word, which has a line of its own.
unfoldable pub word_of : (shelves number : ℕ) → ℕ
word_of shelves number =
    place (shelves + 1) + number % shelves * (numbers / shelves + 8) + number / shelves

-- the number of words of a table
unfoldable pub words_with : (shelves : ℕ) → ℕ
words_with shelves = place (shelves + 1) + shelves * (numbers / shelves + 8)
