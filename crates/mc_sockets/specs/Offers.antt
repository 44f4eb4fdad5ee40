-- What is gathered for a link, and offered to it.
use Rattle.std.specs.Prelude.{◌≡◌, ◌≤◌, [], length, false, Result}
use Rattle.mc_links.specs.declared.link.LinkFault.{LinkFault}
use Rattle.mc_links.specs.Gathered.{GatheringState, Flushes}

-- all that is gathered was offered to the link below by its last call
pub record IsOffered (state : GatheringState) : Type 0 where
  pub takes : (state.gathered ≡ [] → ⊥) → state.link.was_read ≡ false
  pub offers : length state.gathered ≤ state.link.requested

-- The link below took a front of what was gathered, and may have failed then. The rest was offered to it.
pub record OffersAll (old new : GatheringState) : Type 0 where
  pub result : Result (Unit {0}) LinkFault
  pub flushes : Flushes old result new
  pub offered : IsOffered new
