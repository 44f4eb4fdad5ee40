use Rattle.mc_shared.proofs.Words.{◌≡◌, ℕ, List, sym, ◌∙◌, subst, IfSome, flushed, ArePartsOf, ShelfState}
use Rattle.mc_shared.proofs.Stacked.{written_back}
use Rattle.mc_shared.proofs.flush.flush_held.Goals as goal

pub returns-in-Some-clause-parts : goal.returns-in-Some-clause-parts
returns-in-Some-clause-parts c hash_of state count parts =
    let at_once : c.args.delay ≡ 0 = subst (λ o. IfSome o (λ _. c.args.delay ≡ 0)) c.in-Some.is c.requires.at_once in
    subst (λ (d : ℕ). ArePartsOf hash_of (flushed d state c.args.now) c.flush_at_once.new.held.items count c.flush_at_once.new.desk) (sym at_once)
    (c.flush_at_once.ensures.parts c.args.now hash_of state count parts)

pub flush_boxes-requires : goal.flush_boxes-requires
flush_boxes-requires c =
    let parts = c.requires.parts in
    (parts.0, parts.1, parts.2, subst (λ (l : List ShelfState). ArePartsOf parts.0 parts.1 l parts.2 c.args.desk.now) (sym c.as_mut_slice.ensures.value) parts.3)

pub returns-in-None-clause-parts : goal.returns-in-None-clause-parts
returns-in-None-clause-parts c hash_of state count parts =
    written_back c.args.held.now.items (c.args.held.now.ok.0 ∙ parts.number)
    (c.flush_boxes.ensures.parts hash_of state count (subst (λ (l : List ShelfState). ArePartsOf hash_of state l count c.args.desk.now) (sym c.as_mut_slice.ensures.value) parts))
