use Rattle.std.proofs.Common.{◌≡◌, ◌<◌, ◌%◌, Some, slice_get, sym, ap, ◌∙◌, arith}
use Rattle.mc_protocol.specs.Commands.{key_of}
use Rattle.mc_shelf.specs.Parts.{shelf_of}
use Rattle.mc_shelf.proofs.PartLemmas.{is_at}
use Rattle.mc_shelf_tests.proofs.PartLemmas.{shelf_here, stepped}
use Rattle.mc_shelf_tests.proofs.parted.begin_and_finish.Goals as goal
use Rattle.mc_shelf_tests.proofs.parted.begin_and_finish.Goals.{After-index_mut-shelf}

hashed : (g : _) → (c : After-index_mut-shelf g) → c.hash-hash.result ≡ g.K.KeyHash.hash_of c.into_parts-parts.result.hasher (key_of c.args.step.now)
hashed g c = c.hash-hash.ensures ∙ ap (g.K.KeyHash.hash_of c.into_parts-parts.result.hasher) c.key.ensures

-- the shelf at the place is the key's
mine : (g : _) → (c : After-index_mut-shelf g)
    → shelf_of (g.K.KeyHash.hash_of c.into_parts-parts.result.hasher) c.into_parts-parts.result.settings.shelves (key_of c.args.step.now) ≡ c.hash-hash.result % c.from.result
mine g c = λ i. sym (hashed g c) i % sym c.from.ensures i

here : (g : _) → (c : After-index_mut-shelf g) → slice_get c.into_parts-parts.result.shelves.items (c.hash-hash.result % c.from.result) ≡ Some c.index_mut-shelf.result.now
here g c =
    let parts = c.into_parts-parts.ensures.parts in
    let inside : c.hash-hash.result % c.from.result < c.into_parts-parts.result.settings.shelves = omega (arith, c.from.ensures, parts.some_shelf) in
    shelf_here c.into_parts-parts.ensures.set_up parts inside c.index_mut-shelf.ensures.value

pub step_in_parts-answer-requires-clause-stands : goal.step_in_parts-answer-requires-clause-stands
step_in_parts-answer-requires-clause-stands g c =
    let at = (goal.at.step_in_parts-answer-requires-clause-stands g c).After-index_mut-shelf in
    let parts = c.into_parts-parts.ensures.parts in
    record { plain = c.args.store.plain; stands = is_at c.args.step.now (mine g at) (parts.each _ _ (here g at)) parts.account }

pub from_parts-requires : goal.from_parts-requires
from_parts-requires g c =
    let at = (goal.at.from_parts-requires g c).After-index_mut-shelf in
    stepped c.into_parts-parts.ensures.set_up c.into_parts-parts.ensures.parts (here g at) c.args.step.now c.args.now c.step_in_parts-answer.new.shelf c.step_in_parts-answer.new.desk
    (mine g at) (hashed g at) c.requires.on_key c.step_in_parts-answer.result c.step_in_parts-answer.ensures.took c.step_in_parts-answer.ensures.err

pub step_in_parts-answer-requires-clause-look : goal.step_in_parts-answer-requires-clause-look
step_in_parts-answer-requires-clause-look g c =
    let at = (goal.at.step_in_parts-answer-requires-clause-look g c).After-index_mut-shelf in
    let fits = c.into_parts-parts.ensures.parts.each _ _ (here g at) in
    record { on_key = c.requires.on_key; key = c.requires.key; hash = λ stored there. fits.hashes (key_of c.args.step.now) stored there ∙ sym (hashed g at) }
