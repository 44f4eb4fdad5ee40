-- Parts of a state: what they are together, and what a change of one of them makes of the state.
use Rattle.mc_shelf.proofs.Common.{[], ⊎_elim, ◌++◌, ◌+◌, ◌-◌, ◌<◌, ◌∙◌, ◌∷◌, ◌≡◌, ◌≢◌, ◌⊎◌, Answered, ap, ArePartsOf, arith, Bool, cases_Bool, cond, cond_both, count-parted, count_of}
use Rattle.mc_shelf.proofs.Common.{DeskState, entries, Entry, eq_by_cmp, eqb, eqb-false, eqb-true, false, find, get, get-entries, get-from_entries, GoesByStep, GoesTo, inl, inr, IsDeskOf}
use Rattle.mc_shelf.proofs.Common.{IsHash, IsOnKey, IsShelfOf, Items, key_of, KeyStep, length, length-set, List, map, nat_list_cmp_total, None, not, Option, option_or, other_keys, Plain}
use Rattle.mc_shelf.proofs.Common.{plain, plain_of, PlanIsSettled, range_with_len, refl, Reply, retain_keys, same_Some, Settings, shelf_of, ShelfContent, ShelfState, slice_set, Some}
use Rattle.mc_shelf.proofs.Common.{StandsAt, StepTaken, subst, suc, sym, true, true≢false, zero, ℕ}
use Rattle.std.proofs.Common.{slice_get}
use Rattle.std.proofs.lemmas.List.FromFn.{get_or-map-range_with_len}
use Rattle.mc_protocol.proofs.PageLemmas.{limit_stays}
use Rattle.mc_shelf.specs.Parts.{GoesWithoutDesk}
use Rattle.mc_shelf.specs.Unions.{all_entries, all_items, cut_of}
use Rattle.mc_shelf.proofs.KeyLemmas.{order, same_maps, get_kept}
use Rattle.mc_shelf.proofs.LabelLemmas.{same, same_itself, same_list}

key_or_not : (q key : List ℕ) → (q ≡ key) ⊎ (q ≢ key)
key_or_not q key = elim (cases_Bool (same q key)) [ inl t ↦ inl (same_list q key t) | inr f ↦ inr (λ e. true≢false (sym (ap (λ k. same k key) e ∙ same_itself key) ∙ f)) ]

-- ---- what parts are together

module _ (q : List ℕ) where
  find_beside : (xs ys : List (List ℕ × Entry)) → find order q (xs ++ ys) ≡ option_or (find order q xs) (find order q ys)
  find_beside [] ys = refl
  find_beside (x ∷ xs) ys =
      elim (eq_by_cmp order q x.0) as (λ b. cond b (Some x.1) (find order q (xs ++ ys)) ≡ option_or (cond b (Some x.1) (find order q xs)) (find order q ys)) [
        | true ↦ refl
        | false ↦ find_beside xs ys
      ]

  -- the item of the key on the first shelf that has one
  abbrev first_of : List ShelfState → Option Entry
  first_of [] = None
  first_of (shelf ∷ shelves) = option_or (get shelf.content.items q) (first_of shelves)

  find_first : (shelves : List ShelfState) → find order q (all_entries shelves) ≡ first_of shelves
  find_first [] = refl
  find_first (shelf ∷ shelves) =
      find_beside (entries shelf.content.items) (all_entries shelves)
      ∙ (λ i. option_or (sym (get-entries shelf.content.items q) i) (find_first shelves i))

  -- no shelf has an item of the key
  first_none : (shelves : List ShelfState) → ((at : ℕ) (shelf : ShelfState) → slice_get shelves at ≡ Some shelf → get shelf.content.items q ≡ None) → first_of shelves ≡ None
  first_none [] none = refl
  first_none (shelf ∷ shelves) none = λ i. option_or (none 0 shelf refl i) (first_none shelves (λ at s. none (suc at) s) i)

  or_none : (o : Option Entry) → option_or o None ≡ o
  or_none None = refl
  or_none (Some item) = refl

  -- only this one has
  first_own : (shelves : List ShelfState) (at : ℕ) (shelf : ShelfState) → slice_get shelves at ≡ Some shelf
      → ((k : ℕ) (s : ShelfState) → slice_get shelves k ≡ Some s → k ≢ at → get s.content.items q ≡ None) → first_of shelves ≡ get shelf.content.items q
  first_own [] at shelf here apart = cc
  first_own (first ∷ shelves) zero shelf here apart =
      ap (option_or (get first.content.items q)) (first_none shelves (λ k s there. apart (suc k) s there (λ e. omega arith)))
      ∙ or_none (get first.content.items q) ∙ ap (λ (s : ShelfState). get s.content.items q) (same_Some first shelf here)
  first_own (first ∷ shelves) (suc at) shelf here apart =
      λ i. option_or (apart 0 first refl (λ e. omega arith) i) (first_own shelves at shelf here (λ k s there other. apart (suc k) s there (λ e. other (omega arith))) i)

-- a shelf stands at each place
some_there : (shelves : List ShelfState) (at : ℕ) → at < length shelves → (shelf : ShelfState) × (slice_get shelves at ≡ Some shelf)
some_there [] at inside = absurd (omega arith)
some_there (shelf ∷ shelves) zero inside = (shelf, refl)
some_there (shelf ∷ shelves) (suc at) inside = some_there shelves at (omega arith)

module _ {hash_of : List ℕ → ℕ} {state : Plain} {list : List ShelfState} {count : ℕ} {desk : DeskState}
    (settings : Settings) (greatest : state.greatest ≡ settings.greatest) (limit : state.limit ≡ settings.pages) (parts : ArePartsOf hash_of state list count desk) where
  same_all : all_items list ≡ state.items
  same_all = same_maps (all_items list) state.items (λ q.
      let own = some_there list (shelf_of hash_of count q) (omega (arith, parts.number, parts.some_shelf)) in
      get-from_entries nat_list_cmp_total (all_entries list) q ∙ find_first q list
      ∙ first_own q list (shelf_of hash_of count q) own.0 own.1 (λ k t there other. (parts.each k t there).apart q (λ same. other (sym same)))
      ∙ (parts.each (shelf_of hash_of count q) own.0 own.1).items q refl)

  same_cut : cut_of list ≡ state.cut
  same_cut =
      let first = some_there list 0 (omega (arith, parts.number, parts.some_shelf)) in
      cut_first list first.0 first.1 ∙ (parts.each 0 first.0 first.1).cut
    where
      cut_first : (list : List ShelfState) (shelf : ShelfState) → slice_get list 0 ≡ Some shelf → cut_of list ≡ shelf.content.cut
      cut_first [] shelf there = cc
      cut_first (first ∷ list) shelf there = ap (λ (s : ShelfState). s.content.cut) (same_Some first shelf there)

  -- the state is the one that they are together
  pub plain_is : plain_of settings list desk ≡ state
  plain_is = λ i. record {
    greatest = sym greatest i;
    limit = sym limit i;
    items = same_all i;
    cut = same_cut i;
    next_unique = parts.account.next_unique i;
    pages = parts.account.pages i;
  }

  pub are_kept : ArePartsOf hash_of (plain_of settings list desk) list count desk
  are_kept = subst (λ (s : Plain). ArePartsOf hash_of s list count desk) (sym plain_is) parts

-- ---- a change of one shelf and the desk

pub put_cases : (shelves : List ShelfState) (at : ℕ) (new : ShelfState) (k : ℕ) (s : ShelfState) → slice_get (slice_set shelves at new) k ≡ Some s
    → ((k ≡ at) × (s ≡ new)) ⊎ ((k ≢ at) × (slice_get shelves k ≡ Some s))
put_cases [] at new k s there = cc
put_cases (first ∷ shelves) zero new zero s there = inl (refl, sym (same_Some new s there))
put_cases (first ∷ shelves) zero new (suc k) s there = inr ((λ e. omega arith), there)
put_cases (first ∷ shelves) (suc at) new zero s there = inr ((λ e. omega arith), there)
put_cases (first ∷ shelves) (suc at) new (suc k) s there = ⊎_elim (λ h. inl (ap suc h.0, h.1)) (λ h. inr ((λ e. h.0 (omega arith)), h.1)) (put_cases shelves at new k s there)

-- it changes all parts so
pub parts_go : {hash_of : List ℕ → ℕ} {count at : ℕ} {old new : Plain} {list : List ShelfState} {desk desk' : DeskState} (shelf : ShelfState)
    → ArePartsOf hash_of old list count desk → GoesTo hash_of count at old new shelf.content desk' → ArePartsOf hash_of new (slice_set list at shelf) count desk'
parts_go {hash_of} {count} {at} {old} {new} {list} shelf parts goes = record {
  number = length-set list at shelf ∙ parts.number;
  some_shelf = parts.some_shelf;
  each = λ k s there.
      ⊎_elim
      (λ h. subst (λ (p : ℕ × ShelfState). IsShelfOf hash_of count new p.0 p.1.content) (λ i. (sym h.0 i, sym h.1 i)) goes.own)
      (λ h. goes.others k s.content h.0 (parts.each k s h.1))
      (put_cases list at shelf k s there);
  account = goes.account;
}

-- a step on one of the shelf's keys
module _ {hash_of : List ℕ → ℕ} {count at : ℕ} {state : Plain} {shelf : ShelfContent} {desk : DeskState} (step : KeyStep)
    (mine : shelf_of hash_of count (key_of step) ≡ at) (fits : IsShelfOf hash_of count state at shelf) (account : IsDeskOf state desk) where
  pub is_at : StandsAt (key_of step) shelf desk state
  is_at = record {
    greatest = sym fits.greatest;
    cut = sym fits.cut;
    item = sym (fits.items (key_of step) mine);
    next_unique = sym account.next_unique;
    limit = sym account.limit;
    pages = sym account.pages;
    out = account.out;
  }

  module _ {now : ℕ} {reply : Reply} {shelf' : ShelfContent} {desk' : DeskState} (on : IsOnKey step)
      (taken : StepTaken step now (hash_of (key_of step)) shelf desk reply shelf' desk') where
    abbrev new : Plain
    new = (taken.takes state is_at).0

    answered : plain state step now ≡ Answered reply new
    answered = (taken.takes state is_at).1

    stands : StandsAt (key_of step) shelf' desk' new
    stands = (taken.takes state is_at).2

    same_greatest : state.greatest ≡ new.greatest
    same_greatest = sym fits.greatest ∙ sym taken.others.greatest ∙ sym stands.greatest

    same_item : (q : List ℕ) → q ≢ key_of step → get state.items q ≡ get new.items q
    same_item q other = sym (other_keys state new step now reply q on answered other)

    elsewhere : (q : List ℕ) → shelf_of hash_of count q ≢ at → q ≢ key_of step
    elsewhere q other same = other (ap (shelf_of hash_of count) same ∙ mine)

    own : IsShelfOf hash_of count new at shelf'
    own = record {
      greatest = sym stands.greatest;
      cut = sym stands.cut;
      items = λ q is.
          ⊎_elim
          (λ same. subst (λ (k : List ℕ). get shelf'.items k ≡ get new.items k) (sym same) (sym stands.item))
          (λ other. taken.others.items q other ∙ fits.items q is ∙ same_item q other)
          (key_or_not q (key_of step));
      apart = λ q other. taken.others.items q (elsewhere q other) ∙ fits.apart q other;
      hashes = λ q.
          ⊎_elim
          (λ same. subst (λ (k : List ℕ). IsHash shelf' k (hash_of k)) (sym same) taken.hash)
          (λ other stored found. fits.hashes q stored (sym (taken.others.hashes q other) ∙ found))
          (key_or_not q (key_of step));
    }

    pub goes_by_step : GoesByStep hash_of count at step now state reply shelf' desk'
    goes_by_step = record {
      new = new;
      answered = answered;
      goes = record {
        greatest = sym same_greatest;
        limit = limit_stays state new step now reply answered;
        own = own;
        account = record { next_unique = sym stands.next_unique; limit = sym stands.limit; pages = sym stands.pages; out = stands.out };
        others = λ k still other part. record {
          greatest = part.greatest ∙ same_greatest;
          cut = part.cut ∙ sym fits.cut ∙ sym taken.others.cut ∙ sym stands.cut;
          items = λ q is. part.items q is ∙ same_item q (elsewhere q (λ same. other (sym is ∙ same)));
          apart = part.apart;
          hashes = part.hashes;
        };
      };
    }

-- a desk that keeps a state's account
a_desk : (state : Plain) → (desk : DeskState) × IsDeskOf state desk
a_desk state =
    let out_at = λ (class : ℕ). count_of state.items class in (
      record { slab = record { limit = state.limit; pages = state.pages; out = map out_at (range_with_len 1 40) }; next_unique = state.next_unique },
      record {
        next_unique = refl;
        limit = refl;
        pages = refl;
        out = λ class is. get_or-map-range_with_len out_at 1 40 (class - 1) class 0 (omega (arith, is.0, is.1)) (omega (arith, is.0));
      },
    )

same_answer : (reply : Reply) (a b : Plain) → Answered reply a ≡ Answered reply b → a ≡ b
same_answer reply a b same = cc

pub goes_without_desk : {hash_of : List ℕ → ℕ} {shelves at now : ℕ} {state : Plain} {reply : Reply} {old new : ShelfContent} (step : KeyStep) → IsOnKey step
    → shelf_of hash_of shelves (key_of step) ≡ at
    → IsShelfOf hash_of shelves state at old → PlanIsSettled step now (hash_of (key_of step)) old reply new → GoesWithoutDesk hash_of shelves at step now state reply new
goes_without_desk {hash_of} {shelves} {at} {now} {state} {reply} {old} {new} step on mine fits settled =
    let by = λ (desk : DeskState) (account : IsDeskOf state desk).
    goes_by_step step mine fits account on (record { takes = settled.takes desk; others = settled.others; hash = settled.hash }) in
    let first = by (a_desk state).0 (a_desk state).1 in
    record {
      new = first.new;
      answered = first.answered;
      goes = λ desk account.
          let this = by desk account in
          subst (λ (s : Plain). GoesTo hash_of shelves at state s new desk) (same_answer reply this.new first.new (sym this.answered ∙ first.answered)) this.goes;
      some_desk = a_desk state;
    }

-- ---- items that are dropped

-- two maps part a third by a test on keys
pub parted : (whole part rest : Items) (meant : List ℕ → Bool) → ((q : List ℕ) → get part q ≡ cond (meant q) (get whole q) None)
    → ((q : List ℕ) → get rest q ≡ cond (not (meant q)) (get whole q) None) → (class : ℕ) → count_of whole class ≡ count_of part class + count_of rest class
parted whole part rest meant own others class =
    let part_is = same_maps (retain_keys whole meant) part (λ q. get_kept whole meant q ∙ sym (own q)) in
    let rest_is = same_maps (retain_keys whole (λ q. not (meant q))) rest (λ q. get_kept whole (λ q. not (meant q)) q ∙ sym (others q)) in
    count-parted class whole meant ∙ (λ i. count_of (part_is i) class + count_of (rest_is i) class)

module _ {hash_of : List ℕ → ℕ} {count at : ℕ} {state : Plain} {shelf : ShelfContent} (fits : IsShelfOf hash_of count state at shelf) where
  -- of the state's items the shelf has those of its keys
  pub own_items : (q : List ℕ) → get shelf.items q ≡ cond (eqb (shelf_of hash_of count q) at) (get state.items q) None
  own_items q =
      cond_both (eqb (shelf_of hash_of count q) at) (get state.items q) None (λ o. get shelf.items q ≡ o)
      (λ h. fits.items q (eqb-true (shelf_of hash_of count q) at h)) (λ h. fits.apart q (eqb-false (shelf_of hash_of count q) at h))

  -- items are kept of the shelf, and so of the state
  pub shelf_kept : {new : Plain} {shelf' : ShelfContent} (kept : Option Entry → Option Entry) → kept None ≡ None → shelf'.greatest ≡ new.greatest → shelf'.cut ≡ new.cut
      → ((q : List ℕ) → get shelf'.items q ≡ kept (get shelf.items q)) → ((q : List ℕ) → shelf_of hash_of count q ≡ at → get new.items q ≡ kept (get state.items q))
      → ((q : List ℕ) (stored : ℕ) → get shelf'.hashes q ≡ Some stored → get shelf.hashes q ≡ Some stored) → IsShelfOf hash_of count new at shelf'
  shelf_kept kept none greatest cut items own hashes = record {
    greatest = greatest;
    cut = cut;
    items = λ q is. items q ∙ ap kept (fits.items q is) ∙ sym (own q is);
    apart = λ q other. items q ∙ ap kept (fits.apart q other) ∙ none;
    hashes = λ q stored found. fits.hashes q stored (hashes q stored found);
  }
