-- The content of a bay, as contracts see it.
use Rattle.std.specs.Prelude.{◌≡◌, ℕ, ◌*◌, refl}
use mathlib.Core.Logic.{inl, inr, ◌⊎◌}
use Rattle.std.specs.Coded.{Coded, code_by, coded⊎}
use Rattle.mc_shelf.specs.States.{ShelfContent, DeskState, coded_content, coded_desk}
use Rattle.mc_shared.specs.declared.bay.Bay.{Bay}
use Rattle.mc_shared.specs.declared.bay.Bay.TheVariants.{Shelf, Desk}

-- The place of a bay in the table. Its word and its slot are eight after the previous bay's, so
-- that no two share a cache line; nothing is between.
abbrev pub place : ℕ → ℕ
place b = b * 8

-- the content of a bay: a shelf's content, without its room and growth, or the desk
pub data Content : Type 0 where
  OfShelf : ShelfContent → Content
  OfDesk : DeskState → Content

abbrev pub content_of : Bay → Content
content_of (Shelf shelf) = OfShelf shelf.content
content_of (Desk desk) = OfDesk desk

abbrev content_parts : Content → ShelfContent ⊎ DeskState
content_parts (OfShelf shelf) = inl shelf
content_parts (OfDesk desk) = inr desk

abbrev content_made : ShelfContent ⊎ DeskState → Content
content_made (inl shelf) = OfShelf shelf
content_made (inr desk) = OfDesk desk

pub content_same : (x : Content) → content_made (content_parts x) ≡ x
content_same (OfShelf shelf) = refl
content_same (OfDesk desk) = refl

abbrev pub content_code : Coded Content
content_code = code_by _ (coded⊎ coded_content coded_desk) content_parts content_made content_same
