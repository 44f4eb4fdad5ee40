use Rattle.std.proofs.Common.{ap, sym, ◌∙◌, ◌∷◌, get_or, set, Option, Some, None, List, is_some}
use Rattle.std.specs.FinMap.{insert}
use Rattle.mc_hop.specs.Cells.{CellsState}
use Rattle.mc_hop.specs.Contents.{content}
use Rattle.mc_hop.specs.Tables.{HopState}
use Rattle.mc_hop.proofs.ListLemmas.{entry_of}
use Rattle.mc_hop.proofs.TableLemmas.{IsTable-over, IsTagged-changed}
use Rattle.mc_hop.proofs.ContentLemmas.{content-over}
use Rattle.mc_hop.proofs.table.Hop.update.Goals as goal

pub update-requires-clause-may : goal.update-requires-clause-may
update-requires-clause-may g c value there =
    (c.requires.keeps value (ap (λ (s : HopState g.row.T.Denot). get_or s.items c.args.at None) (sym c.self.view_is) ∙ there)).may_call

pub invariant_of-self : goal.invariant_of-self
invariant_of-self g c =
    let seen = ap (λ (s : HopState g.row.T.Denot). get_or s.items c.args.at None) c.self.view_is in
    let here = entry_of (get_or c.self.inside.cells.items c.args.at None) (ap (λ (o : Option g.row.T.Denot). is_some o) seen ∙ c.requires.filled) in
    let keeps = c.requires.keeps here.0 (sym seen ∙ here.1) in
    let changed = c.update.ensures here.0 here.1 in
    rw (changed.3)
    (IsTagged-changed _ _ _ _ c.self.invariant c.args.at here.0 changed.0.0 here.1 (keeps.same_hash changed.0 changed.1)
    (IsTable-over _ _ _ _ _ c.self.invariant.table _ _ _ here.1 (keeps.same_hash changed.0 changed.1) (keeps.same_key changed.0 changed.1)))

pub returns : goal.returns
returns g c entry there =
    let items = ap (λ (s : HopState g.row.T.Denot). s.items) c.self.view_is in
    let here = ap (λ (l : List (Option g.row.T.Denot)). get_or l c.args.at None) items ∙ there in
    let keeps = c.requires.keeps entry there in
    let changed = c.update.ensures entry here in
    let put = ap (λ (s : CellsState g.row.T.Denot). s.items) changed.3 in
    let over = content-over g.T.Keyed.hash_of g.T.Keyed.key_of c.self.inside.cells.items c.args.at entry changed.0.0 c.self.invariant.table.apart here
    (keeps.same_hash changed.0 changed.1) (keeps.same_key changed.0 changed.1) in (
      changed.0,
      changed.1,
      changed.2,
      λ i. record { k = ap (λ (s : HopState g.row.T.Denot). s.k) c.self.view_is i; items = (put ∙ ap (λ (l : List (Option g.row.T.Denot)). set l c.args.at (Some changed.0.0)) items) i },
      ap (content g.T.Keyed.hash_of g.T.Keyed.key_of) put ∙ over ∙ (λ i. insert (content g.T.Keyed.hash_of g.T.Keyed.key_of (items i)) (g.T.Keyed.hash_of entry ∷ g.T.Keyed.key_of entry) changed.0.0),
    )
