use Rattle.mc_slab.proofs.RoomLemmas.{pages_enough, pages_least, wanted_when}
use Rattle.mc_slab.proofs.laws.wanted_pages_are_least.Goals as goal

pub returns-clause-enough : goal.returns-clause-enough
returns-clause-enough c = λ slab need back is. pages_enough slab need back is

pub returns-clause-least : goal.returns-clause-least
returns-clause-least c = λ slab need back fewer is below. pages_least slab need back fewer is below

pub returns-clause-left : goal.returns-clause-left
returns-clause-left c = λ slab need back is room. wanted_when slab need back is room
