use Rattle.std.proofs.Common.{ap, ◌∙◌}
use Rattle.mc_sizes.specs.declared.settings.Settings.{Settings}
use Rattle.mc_shelf_tests.proofs.PartLemmas.{laid}
use Rattle.mc_shelf_tests.proofs.aside.laid_aside.Goals as goal

pub from_parts-requires : goal.from_parts-requires
from_parts-requires g c =
    let was = c.into_parts-hasher.ensures in
    let new = c.into_parts-shelves.ensures in
    let made = c.in_ok-set_up.ensures in
    laid was.set_up was.parts (ap g.K.KeyHash.hash_of (new.hasher ∙ made.hasher)) (ap (λ (s : Settings). s.shelves) (new.settings ∙ made.settings)) made.plain new.parts
    c.lay_aside.ensures.none
