-- What an exchange of chunks for those of an item leaves.
use Rattle.mc_shelf.proofs.Common.{◌∙◌, ◌≡◌, ◌≤◌, ap, AreChunks, Bool, ChunksState, DeskState, Entry, get, GivesBack, has_need, IsClass, IsNeed, IsOut, IsSlab, List, need_in, NeedState}
use Rattle.mc_shelf.proofs.Common.{Option, ShelfContent, subst, sym, true, ℕ}
use Rattle.mc_shelf.proofs.TakesLemmas.{need_of_found}
use Rattle.mc_slab.specs.Slabs as slabs

-- chunks of the need of a key's item go back in exchange for the item's own
pub gives_alike : {asked key : List ℕ} → asked ≡ key → (shelf : ShelfContent) (desk : DeskState) (chunks : ChunksState) {need : NeedState} {found : Option Entry} {has : Bool} → IsOut key shelf desk → AreChunks chunks
    → need ≡ need_in chunks → found ≡ get shelf.items asked → has ≡ has_need asked found need → has ≡ true
    → (chunks.count ≤ slabs.out_of desk.slab chunks.class)
    × ((new : DeskState) → IsSlab desk.slab → new ≡ record desk { slab = slabs.given desk.slab chunks.class chunks.count } → GivesBack key (get shelf.items key) desk new)
gives_alike {key = key} same shelf desk chunks {need} {found} out are need_is found_is has_is has =
    let there = need_of_found key (get shelf.items key) (need_in chunks)
    (subst (λ (t : Option Entry × NeedState). has_need key t.0 t.1 ≡ true) (λ i. ((found_is ∙ ap (get shelf.items) same) i, need_is i))
    (ap (λ (k : List ℕ). has_need k found need) (sym same) ∙ sym has_is ∙ has)) in (
      subst (λ (n : NeedState). n.count ≤ slabs.out_of desk.slab n.class) there.2
          (out there.0 there.1 (subst (λ (n : NeedState). IsClass n.class) (sym there.2) are.is_need.is_class)),
      λ new is_slab given. subst (λ (o : Option Entry). GivesBack key o desk new) (sym there.1) record {
        given_is = given ∙ ap (λ (n : NeedState). record desk { slab = slabs.given desk.slab n.class n.count }) (sym there.2);
        is_need = subst IsNeed (sym there.2) are.is_need;
        is_slab = is_slab;
      },
    )
