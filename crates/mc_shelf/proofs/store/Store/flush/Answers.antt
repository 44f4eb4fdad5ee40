use Rattle.mc_shelf.proofs.Common.{◌∙◌, Answered, ap, ArePartsOf, Flushed, List, plain_of, refl, ShelfState, subst, sym}
use Rattle.mc_shelf.proofs.PartLemmas.{are_kept, plain_is}
use Rattle.mc_shelf.proofs.FlushLemmas.{flushed_back, flushed_greatest, flushed_limit}
use Rattle.mc_shelf.proofs.LeftLemmas.{rises_back}
use Rattle.mc_shelf.proofs.store.Store.flush.Goals as goal

pub flush_parts-requires : goal.flush_parts-requires
flush_parts-requires g c =
    let s = c.self.inside.parts in
    let hash_of = g.K.KeyHash.hash_of s.hasher in
    let state = plain_of s.settings s.shelves.items s.desk in
    (hash_of, state, s.settings.shelves, subst (λ (l : List ShelfState). ArePartsOf hash_of state l s.settings.shelves s.desk) (sym c.deref_mut.ensures.value) c.self.invariant.parts)

pub invariant_of-self : goal.invariant_of-self
invariant_of-self g c =
    let s = c.self.inside.parts in
    let hash_of = g.K.KeyHash.hash_of s.hasher in
    let state = plain_of s.settings s.shelves.items s.desk in
    let given = subst (λ (l : List ShelfState). ArePartsOf hash_of state l s.settings.shelves s.desk) (sym c.deref_mut.ensures.value) c.self.invariant.parts in
    record {
      parts = are_kept s.settings (flushed_greatest c.args.delay c.args.now state) (flushed_limit c.args.delay c.args.now state)
          (flushed_back s.shelves.items (s.shelves.ok.0 ∙ c.self.invariant.parts.number) (c.flush_parts.ensures.parts hash_of state s.settings.shelves given));
      divides = c.self.invariant.divides;
    }

pub returns : goal.returns
returns g c =
    let s = c.self.inside.parts in
    let hash_of = g.K.KeyHash.hash_of s.hasher in
    let state = plain_of s.settings s.shelves.items s.desk in
    let given = subst (λ (l : List ShelfState). ArePartsOf hash_of state l s.settings.shelves s.desk) (sym c.deref_mut.ensures.value) c.self.invariant.parts in
    let same =
    plain_is s.settings (flushed_greatest c.args.delay c.args.now state) (flushed_limit c.args.delay c.args.now state)
    (flushed_back s.shelves.items (s.shelves.ok.0 ∙ c.self.invariant.parts.number) (c.flush_parts.ensures.parts hash_of state s.settings.shelves given)) in
    let left =
    rises_back s.shelves.items _ _ (s.shelves.ok.0 ∙ c.self.invariant.parts.number ∙ sym (c.flush_parts.ensures.parts hash_of state s.settings.shelves given).number) c.deref_mut.ensures.value
    c.flush_parts.ensures.left in
    rw (← c.self.view_is) (ap (Answered Flushed) (sym same), (refl, refl), left)
