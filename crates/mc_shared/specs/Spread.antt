-- Words that count too many keys after many keys were removed at once.
use Rattle.std.specs.Prelude.{ℕ, zero, suc, ◌+◌, List, [], ◌++◌, replicate}
use Rattle.mc_shelf.specs.States.{ShelfState}
use Rattle.mc_shelf.specs.Numbers.{keys_with}
use Rattle.mc_shared.specs.Sums.{total}
use Rattle.mc_shared.specs.Presence.{word_of}

-- the words of `count` numbers from one on, each as often as keys with its number were removed
unfoldable pub spread : (shelves : ℕ) → (gone : ℕ → ℕ) → (number count : ℕ) → List ℕ
spread shelves gone number zero = []
spread shelves gone number (suc count) =
    replicate (gone number) (word_of shelves number) ++ spread shelves gone (number + 1) count

-- how many keys of all these shelves have the number
abbrev pub keys_in : (hash_of : List ℕ → ℕ) → (number : ℕ) → List ShelfState → ℕ
keys_in hash_of number shelves =
    total (λ (shelf : ShelfState). keys_with hash_of number shelf.content.items) shelves
