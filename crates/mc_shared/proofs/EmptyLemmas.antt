-- Shelves to whose places others of no items came are the parts of the state that a flush at once leaves.
use Rattle.mc_shared.proofs.Words.{◌≡◌, ◌≢◌, ◌≤◌, ◌<◌, ℕ, zero, suc, ◌+◌, ◌-◌, List, [], ◌∷◌, ◌++◌, length, length-set, get_or, take, Some, None, slice_get, slice_set, refl, sym, ap, subst}
use Rattle.mc_shared.proofs.Words.{◌∙◌, arith, ⊎_elim, none-some, empty, get, get-empty, Plain, flushed, DeskState, ShelfContent, ShelfState, ArePartsOf, IsShelfOf, order, get_or-replicate}
use Rattle.mc_shared.proofs.Words.{take_more, take_all, get_or_from_slice_get, slice_get_within, Option, option_to_list, count_of, nothing_held, put_cases, AreEmptied, IsEmptied}
use Rattle.mc_shelf.specs.Asides.{none_out}

bare_part : {hash_of : List ℕ → ℕ} {count at : ℕ} {state : Plain} {old new : ShelfContent} → IsShelfOf hash_of count state at old → new ≡ nothing_held old.greatest
    → IsShelfOf hash_of count (record state { items = empty; cut = None }) at new
bare_part part is = record {
  greatest = ap (λ (s : ShelfContent). s.greatest) is ∙ part.greatest;
  cut = ap (λ (s : ShelfContent). s.cut) is;
  items = λ key mine. ap (λ (s : ShelfContent). get s.items key) is;
  apart = λ key other. ap (λ (s : ShelfContent). get s.items key) is ∙ get-empty order key;
  hashes = λ key stored found. absurd (none-some stored (sym (ap (λ (s : ShelfContent). get s.hashes key) is ∙ get-empty order key) ∙ found));
}

-- the shelves are empty, and no chunk is out
pub emptied : {hash_of : List ℕ → ℕ} {state : Plain} {old new : List ShelfState} {count : ℕ} {desk desk' : DeskState} (now : ℕ) → ((class : ℕ) → count_of empty class ≡ 0)
    → ArePartsOf hash_of state old count desk → AreEmptied old new → desk' ≡ record desk { slab = none_out desk.slab } → ArePartsOf hash_of (flushed 0 state now) new count desk'
emptied {hash_of} {state} {old} {new} {count} {desk} {desk'} now none parts are is = record {
  number = are.number ∙ parts.number;
  some_shelf = parts.some_shelf;
  each = λ at shelf there. let one = are.each at shelf there in bare_part (parts.each at one.was one.there) one.holds;
  account = record {
    next_unique = ap (λ (d : DeskState). d.next_unique) is ∙ parts.account.next_unique;
    limit = ap (λ (d : DeskState). d.slab.limit) is ∙ parts.account.limit;
    pages = ap (λ (d : DeskState). d.slab.pages) is ∙ parts.account.pages;
    out = λ class is_class.
        ap (λ (d : DeskState). get_or d.slab.out (class - 1) 0) is
        ∙ get_or-replicate 40 (class - 1) 0 0 (omega (arith, is_class.0, is_class.1)) ∙ sym (none class);
  };
}

-- ---- one after another

-- The shelves below a place are emptied, those from it on stand as they stood, and those that were emptied are these.
pub record AreEmptiedTo (old : List ShelfState) (at : ℕ) (new aside : List ShelfState) : Type 0 where
  pub number : length new ≡ length old
  pub gone : (k : ℕ) (shelf : ShelfState) → k < at → slice_get new k ≡ Some shelf → IsEmptied old k shelf
  pub still : (k : ℕ) → at ≤ k → slice_get new k ≡ slice_get old k
  pub aside_is : aside ≡ take at old

pub emptied_more : {old : List ShelfState} {at : ℕ} {new aside : List ShelfState} → AreEmptiedTo old at new aside
    → {was : ShelfState} (bare : ShelfState) {more : List ShelfState} → slice_get new at ≡ Some was
    → bare.content ≡ nothing_held was.content.greatest → more ≡ aside ++ was ∷ [] → AreEmptiedTo old (at + 1) (slice_set new at bare) more
emptied_more {old} {at} {new} {aside} to {was} bare {more} here holds more_is =
    let there : slice_get old at ≡ Some was = sym (to.still at (omega arith)) ∙ here in
    record {
      number = length-set new at bare ∙ to.number;
      gone = λ k shelf less stands.
          ⊎_elim
          (λ h. subst (λ (p : ℕ × ShelfState). IsEmptied old p.0 p.1) (λ i. (sym h.0 i, sym h.1 i)) (record { was = was; there = there; holds = holds }))
          (λ h. to.gone k shelf (let apart = h.0 in omega (arith, less, apart)) h.1) (put_cases new at bare k shelf stands);
      still = λ k from. other_stays new at bare k (λ same. omega (arith, from, same)) ∙ to.still k (omega (arith, from));
      aside_is = more_is ∙ ap (λ l. l ++ was ∷ []) to.aside_is
          ∙ sym (take_more old at was (slice_get_within old at was there) ∙ ap (λ x. take at old ++ x ∷ []) (get_or_from_slice_get old at was was there));
    }
  where
    other_stays : (xs : List ShelfState) (at : ℕ) (x : ShelfState) (k : ℕ) → k ≢ at → slice_get (slice_set xs at x) k ≡ slice_get xs k
    other_stays [] at x k apart = refl
    other_stays (y ∷ ys) zero x zero apart = absurd (apart refl)
    other_stays (y ∷ ys) zero x (suc k) apart = refl
    other_stays (y ∷ ys) (suc at) x zero apart = refl
    other_stays (y ∷ ys) (suc at) x (suc k) apart = other_stays ys at x k (λ same. apart (ap suc same))

pub emptied_all : {old : List ShelfState} {at : ℕ} {new aside : List ShelfState} → AreEmptiedTo old at new aside → length new ≤ at → AreEmptied old new × (aside ≡ old)
emptied_all {old} {at} {new} to past = (
  record { number = to.number; each = λ k shelf there. to.gone k shelf (omega (arith, past, slice_get_within new k shelf there)) there },
  to.aside_is ∙ take_all at old (omega (arith, past, to.number)),
)

pub at_most_one : (r : Option ShelfState) → length (option_to_list r) ≤ 1
at_most_one None = omega arith
at_most_one (Some x) = omega arith
