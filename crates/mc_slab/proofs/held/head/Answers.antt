use Rattle.std.proofs.Common.{◌≡◌, ◌<◌, length, ℕ, List, sym, ap, ◌∙◌, arith}
use Rattle.std.proofs.lemmas.List.{length-take-le, take_all}
use Rattle.mc_slab.specs.Classes.{size_of}
use Rattle.mc_slab.specs.Helds.{chunks_in}
use Rattle.mc_slab.proofs.HeldLemmas.{lone_length}
use Rattle.mc_slab.proofs.held.head.Goals as goal

below : (c : goal.After-size) → (chunks_in c.args.held.now).class < 27
below c = omega (arith, c.if-number-ge-LENT.false, c.class-class.ensures, c.number.ensures.value)

size_is : (c : goal.After-size) → c.size.result ≡ length c.cut_bytes.result.now
size_is c =
    let lent = below c in
    c.size.ensures.value
    ∙ ap (λ (k : ℕ). size_of k) c.class-class.ensures
    ∙ sym (ap (λ (l : List ℕ). length l) c.cut_bytes.ensures ∙ lone_length (chunks_in c.args.held.now) c.requires (omega arith))

pub slice_bounds-result-end : goal.slice_bounds-result-end
slice_bounds-result-end c = sym (length-take-le c.size.result c.cut_bytes.result.now (omega (arith, size_is c)))

pub returns : goal.returns
returns c = take_all c.size.result c.cut_bytes.result.now (omega (arith, size_is c)) ∙ c.cut_bytes.ensures ∙ sym (c.requires.is_head.same (below c))
