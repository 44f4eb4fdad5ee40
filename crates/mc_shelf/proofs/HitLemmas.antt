-- A read of a key that has no dead item is the plain machine's.
use Rattle.mc_shelf.proofs.Common.{◌∙◌, ◌≡◌, Action, alive, Answer, ap, cond_both, Entry, Expire, Expiry, false, get, hit_of, is_dead, is_gone, is_none, is_some, IsKnown, IsOnKey, IsPut}
use Rattle.mc_shelf.proofs.Common.{key_of, KeyStep, next_by, next_of, None, Option, Place, PlanIsSettled, refl, row_of, ShelfContent, Some, stood, subst, sym, true, true≢false, ℕ}
use Rattle.mc_protocol.specs.declared.step.KeyStep.TheVariants.{Read, ReadTouch}
use Rattle.mc_shelf.specs.Hits.{is_read, read_expiry}
use Rattle.mc_shelf.proofs.ShelfLemmas.{others_same}
use Rattle.mc_shelf.proofs.TakesLemmas.{takes_answer, takes_expire}

-- ---- what comes next in a read

on_key : (step : KeyStep) → is_read step ≡ true → IsOnKey step
on_key (Read key) is = tt
on_key (ReadTouch key exptime) is = tt
on_key step is = absurd (cc is)

-- what comes next where no dead item is found, by the item that stands
abbrev reading : Option Expiry → Option Entry → Action
reading None item = Answer (hit_of item)
reading (Some expiry) None = Answer (hit_of None)
reading (Some expiry) (Some item) = Expire expiry (hit_of (Some item))

next_by_read : (greatest : ℕ) (step : KeyStep) (now : ℕ) (item : Option Entry) → is_read step ≡ true
    → next_by false greatest step item (row_of step now item) ≡ reading (read_expiry step now) item
next_by_read greatest (Read key) now None is = refl
next_by_read greatest (Read key) now (Some item) is = refl
next_by_read greatest (ReadTouch key exptime) now None is = refl
next_by_read greatest (ReadTouch key exptime) now (Some item) is = refl
next_by_read greatest step now item is = absurd (cc is)

-- an item that is found and isn't dead stands
stands_found : (cut : Option ℕ) (now : ℕ) (item : Entry) → is_gone cut now (Some item) ≡ false
    → alive cut now (Some item) ≡ Some item
stands_found cut now item =
    cond_both (is_dead item.expiry item.updated cut now) None (Some item) (λ o. is_none o ≡ false → o ≡ Some item) (λ _ e. absurd (true≢false e)) (λ _ e. refl)

module _ (step : KeyStep) (now own : ℕ) (old : ShelfContent) (place : Option Place)
    (read : is_read step ≡ true) (known : IsKnown old (key_of step) own place) (lives : is_gone old.cut now (get old.items (key_of step)) ≡ false) where
  abbrev stands : Option Entry
  stands = stood old step now

  next_is : next_of old step now ≡ reading (read_expiry step now) stands
  next_is =
      (λ i. next_by (lives i) old.greatest step stands (row_of step now stands))
      ∙ next_by_read old.greatest step now stands read

  answers_so : reading (read_expiry step now) stands ≡ Answer (hit_of stands) → PlanIsSettled step now own old (hit_of stands) old
  answers_so is = record {
    takes = λ desk. takes_answer step now old desk (on_key step read) (hit_of stands) (sym (next_is ∙ is));
    stands = refl;
    others = others_same (key_of step) old;
    hash = known.hash;
  }

  -- a read that sets no expiry
  pub settled_plain : read_expiry step now ≡ None → PlanIsSettled step now own old (hit_of stands) old
  settled_plain none = answers_so (ap (λ (e : Option Expiry). reading e stands) none)

  nothing_read : (e : Option Expiry) → reading e None ≡ Answer (hit_of None)
  nothing_read None = refl
  nothing_read (Some expiry) = refl

  nothing_there : (found : Option Entry) → is_some found ≡ false → found ≡ None
  nothing_there None e = refl
  nothing_there (Some item) e = absurd (true≢false e)

  -- a read of a key that has no item
  pub settled_miss : is_some place ≡ false → PlanIsSettled step now own old (hit_of stands) old
  settled_miss none =
      let found = nothing_there (get old.items (key_of step)) (sym known.place ∙ none) in
      let nothing : stands ≡ None = ap (alive old.cut now) found in
      answers_so (subst (λ (o : Option Entry). reading (read_expiry step now) o ≡ Answer (hit_of o)) (sym nothing) (nothing_read (read_expiry step now)))

  some_there : (found : Option Entry) → is_some found ≡ true → (item : Entry) × (found ≡ Some item)
  some_there None e = absurd (true≢false (sym e))
  some_there (Some item) e = (item, refl)

  -- a read that sets the expiry of the item that it finds
  pub settled_expiring : (expiry : Expiry) (new : ShelfContent) → read_expiry step now ≡ Some expiry → is_some place ≡ true
      → ((item : Entry) → get old.items (key_of step) ≡ Some item → IsPut (key_of step) own old new (record item { expiry = expiry }))
      → PlanIsSettled step now own old (hit_of stands) new
  settled_expiring expiry new sets some puts =
      let there = some_there (get old.items (key_of step)) (sym known.place ∙ some) in
      let item = there.0 in
      let stood_is : stands ≡ Some item = ap (alive old.cut now) there.1 ∙ stands_found old.cut now item (ap (is_gone old.cut now) (sym there.1) ∙ lives) in
      let next : Expire expiry (hit_of stands) ≡ next_of old step now =
      ap (λ (o : Option Entry). Expire expiry (hit_of o)) stood_is ∙ sym (next_is ∙ (λ i. reading (sets i) (stood_is i))) in
      let put = puts item there.1 in
      record {
        takes = λ desk. takes_expire step now old desk (on_key step read) expiry (hit_of stands) own new puts next;
        stands = ap is_some put.item ∙ sym (ap is_some there.1);
        others = put.others;
        hash = put.hash;
      }
