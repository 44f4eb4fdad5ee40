-- Which links are to come.
use Rattle.std.specs.Prelude.{◌≡◌, List, [], ◌∷◌, Option, Some, None}
use Rattle.mc_links.specs.declared.links.Next.{Next}
use Rattle.mc_links.specs.declared.links.Next.TheVariants.{Link, Later, Closed}

-- what was returned of the links that were to come, and which are still to come: the first one came; none does now; or
-- none was left
abbrev pub IsNext : {L : Type 0} → Option (List L) → Next L → Option (List L) → Type 0
IsNext None next rest = rest ≡ None
IsNext (Some links) (Link link) rest = (later : List _) × (links ≡ link ∷ later) × (rest ≡ Some later)
IsNext (Some links) Later rest = rest ≡ Some links
IsNext (Some links) Closed rest = (links ≡ []) × (rest ≡ Some [])
