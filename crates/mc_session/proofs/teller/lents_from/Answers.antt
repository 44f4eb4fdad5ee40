use Rattle.std.proofs.Common.{◌≡◌, ◌+◌, ◌++◌, take, List, ℕ, refl, sym, ap, ◌∙◌, append_assoc}
use Rattle.std.specs.List.{concat}
use Rattle.mc_reply.proofs.PartLemmas.{concat-more}
use Rattle.mc_session.proofs.teller.lents_from.Goals as goal

pub loop-part-preserved : goal.loop-part-preserved
loop-part-preserved c =
    let first : List ℕ = c.args.first.now in
    let others : List (List ℕ) = c.args.others.now in
    let done : List ℕ = concat (take c.loop-part.part-index others) in
    let part : List ℕ = c.part-item.result in
    let more : concat (take (c.loop-part.part-index + 1) others) ≡ done ++ part = concat-more others c.loop-part.part-index part c.loop-part-test.true c.part-item.is in
    c.if-not-keep.ensures refl ∙ ap (λ (l : List ℕ). l ++ part) c.loop-part.invariant ∙ append_assoc first done part ∙ ap (λ (l : List ℕ). first ++ l) (sym more)
