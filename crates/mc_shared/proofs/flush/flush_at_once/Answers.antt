use Rattle.mc_shared.proofs.Words.{List, sym, ◌∙◌, subst, ShelfState, ArePartsOf}
use Rattle.mc_protocol.proofs.CountLemmas.{count-empty}
use Rattle.mc_shared.proofs.EmptyLemmas.{emptied}
use Rattle.mc_shared.proofs.Stacked.{written_back}
use Rattle.mc_shared.proofs.flush.flush_at_once.Goals as goal

pub lay_aside-requires : goal.lay_aside-requires
lay_aside-requires c =
    let parts = c.requires.parts in (
      parts.0,
      parts.1,
      parts.2,
      subst (λ (l : List ShelfState). ArePartsOf parts.0 parts.1 l parts.2 c.args.desk.now) (sym (c.empty_boxes-aside.ensures.1 ∙ c.as_mut_slice.ensures.value)) parts.3,
    )

pub returns-clause-parts : goal.returns-clause-parts
returns-clause-parts c now hash_of state count parts =
    let before = subst (λ (l : List ShelfState). ArePartsOf hash_of state l count c.args.desk.now) (sym c.as_mut_slice.ensures.value) parts in
    written_back c.args.held.now.items (c.args.held.now.ok.0 ∙ parts.number)
    (emptied now count-empty before c.empty_boxes-aside.ensures.0 c.lay_aside.ensures.none)
