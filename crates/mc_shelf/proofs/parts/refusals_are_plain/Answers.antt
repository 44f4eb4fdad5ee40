use Rattle.mc_shelf.proofs.Common.{key_of, next_of, refl, sym}
use Rattle.mc_shelf.proofs.TakesLemmas.{is_spent}
use Rattle.mc_shelf.proofs.RefusalLemmas.{can_wants, needs_can, writes_some}
use Rattle.mc_shelf.proofs.parts.refusals_are_plain.Goals as goal

pub returns-clause-spent : goal.returns-clause-spent
returns-clause-spent c step now shelf desk on does none =
    let some = writes_some (next_of shelf step now) does in
    is_spent step now shelf desk on some.0 some.1 some.2 some.3 (sym some.4) none

pub returns-clause-pages : goal.returns-clause-pages
returns-clause-pages c step now shelf desk on slab most needs =
    can_wants step now shelf desk on slab (next_of shelf step now) refl
    (needs_can (next_of shelf step now) shelf (key_of step) now desk needs)
