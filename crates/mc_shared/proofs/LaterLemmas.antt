-- Shelves whose flush comes later: where none of their items is dead, they all stay.
use Rattle.mc_shared.proofs.Words.{◌≡◌, ◌≢◌, ◌≤◌, ℕ, zero, suc, ◌+◌, List, [], ◌∷◌, cond, eqb, length, map, slice_get, slice_set, Option, Some, None, refl, sym, ap, ◌∙◌, arith, ne_eqb, none-some}
use Rattle.mc_shared.proofs.Words.{get, Entry, alive, moment_named, ShelfContent, ShelfState, keys_with, keys_in}
use Rattle.mc_shelf.specs.Deaths.{NoneIsDead}
use Rattle.mc_shelf.specs.Unions.{IsFlushed}
use Rattle.mc_shared.specs.Emptied.{AreCutLater, cut_later}

-- a shelf that was cut alone was flushed
pub cut_alone : {delay now : ℕ} {old new : ShelfContent} {cut : Option ℕ} → delay ≢ 0 → NoneIsDead now old.cut old.items
    → cut ≡ cond (eqb delay 0) None (Some (moment_named delay now)) → new ≡ record old { cut = cut } → IsFlushed delay now old new
cut_alone {delay} {now} {old} {new} {cut} later lives cut_is new_is = record {
  greatest = ap (λ (s : ShelfContent). s.greatest) new_is;
  cut = ap (λ (s : ShelfContent). s.cut) new_is ∙ cut_is;
  items = λ key.
      ap (λ (s : ShelfContent). get s.items key) new_is ∙ stays key (get old.items key) refl
      ∙ ap (λ b. cond b None (alive old.cut now (get old.items key))) (sym (ne_eqb delay 0 later));
  hashes = λ key stored found. sym (ap (λ (s : ShelfContent). get s.hashes key) new_is) ∙ found;
}
  where
    stays : (key : List ℕ) (o : Option Entry) → get old.items key ≡ o → o ≡ alive old.cut now o
    stays key None is = refl
    stays key (Some item) is = ap (λ b. cond b None (Some item)) (sym (lives key item is))

-- ---- one after another

module _ {A : Type 0} (f : A → A) where
  -- the first ones were changed so
  abbrev pub first_changed : ℕ → List A → List A
  first_changed zero xs = xs
  first_changed (suc n) [] = []
  first_changed (suc n) (x ∷ xs) = f x ∷ first_changed n xs

  some_inside : (x y : A) → ◌≡◌ {A = Option A} (Some x) (Some y) → x ≡ y
  some_inside x y is = ap (λ (o : Option A). inside o) is where
    inside : Option A → A
    inside None = x
    inside (Some z) = z

  changed_next : (n : ℕ) (xs : List A) (x : A) → slice_get (first_changed n xs) n ≡ Some x → slice_set (first_changed n xs) n (f x) ≡ first_changed (suc n) xs
  changed_next zero [] x here = absurd (none-some x here)
  changed_next zero (y ∷ ys) x here = ap (λ z. f z ∷ ys) (sym (some_inside y x here))
  changed_next (suc n) [] x here = absurd (none-some x here)
  changed_next (suc n) (y ∷ ys) x here = ap (λ zs. f y ∷ zs) (changed_next n ys x here)

  -- one more was
  pub changed_more : (old : List A) {now : List A} (n : ℕ) (x new : A) → now ≡ first_changed n old → slice_get now n ≡ Some x → new ≡ f x
      → slice_set now n new ≡ first_changed (n + 1) old
  changed_more old {now} n x new so here is =
      let next : suc n ≡ n + 1 = omega arith in
      (λ i. slice_set (so i) n (is i)) ∙ changed_next n old x (sym (ap (λ l. slice_get l n) so) ∙ here) ∙ ap (λ k. first_changed k old) next

  pub changed_all : (n : ℕ) (xs : List A) → length xs ≤ n → first_changed n xs ≡ map f xs
  changed_all zero [] all = refl
  changed_all zero (x ∷ xs) all = absurd (omega (arith, all))
  changed_all (suc n) [] all = refl
  changed_all (suc n) (x ∷ xs) all = ap (λ ys. f x ∷ ys) (changed_all n xs (omega (arith, all)))

-- each number has as many keys as before
pub keys_stay : (hash_of : List ℕ → ℕ) (number delay now : ℕ) (old new : List ShelfState) → AreCutLater delay now old new → keys_in hash_of number new ≡ keys_in hash_of number old
keys_stay hash_of number delay now old new are = ap (keys_in hash_of number) are ∙ so old where
  so : (xs : List ShelfState) → keys_in hash_of number (map (cut_later delay now) xs) ≡ keys_in hash_of number xs
  so [] = refl
  so (x ∷ xs) = ap (λ n. keys_with hash_of number x.content.items + n) (so xs)
