-- Held shelves, the last one first.
use Rattle.std.specs.Prelude.{ℕ, ◌+◌, List, [], ◌∷◌, None}
use Rattle.mc_shelf.specs.States.{ShelfState}
use Rattle.mc_shared.specs.Bays.{Content, OfShelf, place}
use Rattle.mc_shared.specs.Past.{Past}
use Rattle.mc_shared.specs.Steps.{Slot, Mine}

abbrev pub stacked_on : ℕ → List ShelfState → List (ℕ × Content) → List (ℕ × Content)
stacked_on n [] below = below
stacked_on n (x ∷ xs) below = stacked_on (n + 1) xs ((n, OfShelf x.content) ∷ below)

abbrev pub stacked : List ShelfState → List (ℕ × Content)
stacked xs = stacked_on 0 xs []

-- the slots of held bays, which are empty
abbrev pub hollow : List (ℕ × Content) → List (ℕ × Slot)
hollow [] = []
hollow (x ∷ xs) = (place x.0, None) ∷ hollow xs

abbrev pub holds_all : Past → List ShelfState → Mine
holds_all p xs = (record { past = p; bays = stacked xs; surplus = [] }, hollow (stacked xs))
