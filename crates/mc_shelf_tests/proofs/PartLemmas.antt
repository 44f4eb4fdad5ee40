-- Parts of a state that tests have in their hands: after a step at one shelf, and after the desk laid all shelves aside.
use Rattle.std.proofs.Common.{◌≡◌, ℕ, ◌-◌, ◌<◌, List, Some, get_or, slice_get, slice_index_or, slice_set, refl, sym, ap, subst, ◌∙◌, arith, Result, Ok, Err, IfOk, OnErr}
use Rattle.mc_protocol.specs.Plain.{opening}
use Rattle.mc_shelf.proofs.Common.{count-empty, DeskState, get_or-replicate, IsOnKey, key_of, KeyStep, Plain, Reply, ShelfState, slice_get_read, StepFault}
use Rattle.mc_shelf.proofs.PartLemmas.{goes_by_step, parts_go}
use Rattle.mc_shelf.specs.Asides.{none_out}
use Rattle.mc_shelf.specs.Parts.{shelf_of, IsShelfOf, IsDeskOf, ArePartsOf, GoesTo}
use Rattle.mc_shelf.specs.Plans.{StepTaken}
use Rattle.mc_shelf.specs.Stores.{IsSetUp}
use Rattle.mc_sizes.specs.declared.settings.Settings.{Settings}

-- they are parts of some state that the settings fit
abbrev pub ArePartsOfSome : (hash_of : List ℕ → ℕ) → Settings → List ShelfState → DeskState → Type 0
ArePartsOfSome hash_of settings shelves desk = (state : Plain) × IsSetUp settings state × ArePartsOf hash_of state shelves settings.shelves desk

module _ {hash_of : List ℕ → ℕ} {settings : Settings} {state : Plain} {list : List ShelfState} {desk : DeskState} (set_up : IsSetUp settings state)
    (parts : ArePartsOf hash_of state list settings.shelves desk) where
  pub shelf_here : {at : ℕ} {shelf : ShelfState} → at < settings.shelves → shelf ≡ slice_index_or list at shelf → slice_get list at ≡ Some shelf
  shelf_here {at} {shelf} inside read = slice_get_read list settings.shelves at shelf (sym parts.number) inside read

  kept : {at : ℕ} {new : Plain} {desk' : DeskState} (shelf' : ShelfState) → GoesTo hash_of settings.shelves at state new shelf'.content desk'
      → ArePartsOfSome hash_of settings (slice_set list at shelf') desk'
  kept {new = new} shelf' goes = (
    new,
    record { greatest = goes.greatest ∙ set_up.greatest; limit = goes.limit ∙ set_up.limit; divides = set_up.divides },
    parts_go shelf' parts goes,
  )

  -- a step was taken on one of the shelf's keys, or not
  module _ {at hash : ℕ} {shelf : ShelfState} (here : slice_get list at ≡ Some shelf) (step : KeyStep) (now : ℕ) (shelf' : ShelfState) (desk' : DeskState)
      (mine : shelf_of hash_of settings.shelves (key_of step) ≡ at) (hashed : hash ≡ hash_of (key_of step)) (on : IsOnKey step) where
    pub stepped : (result : Result Reply StepFault) → IfOk result (λ reply. StepTaken step now hash shelf.content desk reply shelf'.content desk')
        → OnErr result ((shelf'.content ≡ shelf.content) × (desk' ≡ desk)) → ArePartsOfSome hash_of settings (slice_set list at shelf') desk'
    stepped (Ok reply) took same =
        kept shelf' (goes_by_step step mine (parts.each at shelf here) parts.account on
        (subst (λ (h : ℕ). StepTaken step now h shelf.content desk reply shelf'.content desk') hashed took)).goes
    stepped (Err fault) took same = kept shelf' (record {
      greatest = refl;
      limit = refl;
      own = subst (IsShelfOf hash_of settings.shelves state at) (sym same.0) (parts.each at shelf here);
      account = subst (IsDeskOf state) (sym same.1) parts.account;
      others = λ k still other part. part;
    })

  -- all shelves were laid aside, and those of a new store are in their places
  pub laid : {own_hash : List ℕ → ℕ} {count : ℕ} {new : Plain} {others : List ShelfState} {fresh desk' : DeskState} → own_hash ≡ hash_of → count ≡ settings.shelves
      → new ≡ opening settings.pages settings.greatest → ArePartsOf own_hash new others count fresh → desk' ≡ record desk { slab = none_out desk.slab } → ArePartsOfSome hash_of settings others desk'
  laid {own_hash} {count} {new} {others} {fresh} {desk'} same_hash same_count opens bare is =
      let opened = subst (λ (p : (List ℕ → ℕ) × (ℕ × Plain)). ArePartsOf p.0 p.1.1 others p.1.0 fresh) (λ i. (same_hash i, (same_count i, opens i))) bare in (
        record (opening settings.pages settings.greatest) { next_unique = state.next_unique; pages = state.pages },
        record { greatest = refl; limit = refl; divides = set_up.divides },
        record {
          number = opened.number;
          some_shelf = opened.some_shelf;
          each = λ at shelf there.
              let part = opened.each at shelf there in
              record { greatest = part.greatest; cut = part.cut; items = part.items; apart = part.apart; hashes = part.hashes };
          account = record {
            next_unique = ap (λ (d : DeskState). d.next_unique) is ∙ parts.account.next_unique;
            limit = ap (λ (d : DeskState). d.slab.limit) is ∙ parts.account.limit ∙ set_up.limit;
            pages = ap (λ (d : DeskState). d.slab.pages) is ∙ parts.account.pages;
            out = λ class is_class.
                ap (λ (d : DeskState). get_or d.slab.out (class - 1) 0) is
                ∙ get_or-replicate 40 (class - 1) 0 0 (omega (arith, is_class.0, is_class.1))
                ∙ sym (count-empty class);
          };
        },
      )
