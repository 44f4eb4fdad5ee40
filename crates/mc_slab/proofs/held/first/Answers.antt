use Rattle.std.proofs.Common.{◌≡◌, length, ℕ, sym, ap, ◌∙◌, arith}
use Rattle.std.proofs.lemmas.List.{length-take-le, take_all}
use Rattle.mc_slab.specs.Classes.{size_of}
use Rattle.mc_slab.specs.Helds.{chunks_in}
use Rattle.mc_slab.proofs.HeldLemmas.{first_is, first_length}
use Rattle.mc_slab.proofs.held.first.Goals as goal

size_is : (c : goal.After-size) → c.size.result ≡ length c.whole.result.now
size_is c =
    c.size.ensures.value
    ∙ ap (λ (k : ℕ). size_of k) c.class.ensures
    ∙ sym (first_length (chunks_in c.args.held.now) c.whole.result.now c.requires c.whole.ensures)

pub slice_bounds-result-end : goal.slice_bounds-result-end
slice_bounds-result-end c = sym (length-take-le c.size.result c.whole.result.now (omega (arith, size_is c)))

pub returns : goal.returns
returns c =
    take_all c.size.result c.whole.result.now (omega (arith, size_is c)) ∙ first_is (chunks_in c.args.held.now) c.whole.result.now c.requires c.whole.ensures
