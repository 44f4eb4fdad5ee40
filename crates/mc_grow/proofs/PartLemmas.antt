-- Strays in a list: how they stand in buckets, and what changing one or taking one out does.
use Rattle.mc_grow.proofs.Words.{◌≡◌, ◌≢◌, ℕ, zero, suc, ◌+◌, ◌-◌, ◌<◌, ◌⊎◌, List, [], ◌∷◌, ◌++◌, Some, None, map, length, get_or, set, refl, sym, ap, subst, ◌∙◌, arith}
use Rattle.mc_grow.proofs.Words.{SwappedAt, cases_eq, ext_get_or, get_or-map, length-map, length_push, set-get_or, IsSwapped, filled_inside, reads, same_Some}

pub stray_there : {X : Type 0} (xs : List X) (at : ℕ) (x : X) → at < length xs → x ≡ get_or xs at x → get_or (map Some xs) at None ≡ Some x
stray_there xs at x l e = get_or-map Some xs at x None l ∙ ap Some (sym e)

pub stray_inside : {X : Type 0} (xs : List X) (at : ℕ) (x : X) → get_or (map Some xs) at None ≡ Some x → at < length xs
stray_inside xs at x e = subst (λ (n : ℕ). at < n) (length-map xs Some) (filled_inside (map Some xs) at x e)

pub stray_is : {X : Type 0} (xs : List X) (at : ℕ) (x d : X) → get_or (map Some xs) at None ≡ Some x → get_or xs at d ≡ x
stray_is xs at x d e = same_Some (get_or xs at d) x (sym (get_or-map Some xs at d None (stray_inside xs at x e)) ∙ e)

pub some_stray : {X : Type 0} (xs : List X) (n : ℕ) → n < length xs → (x : X) × (get_or (map Some xs) n None ≡ Some x)
some_stray [] n l = absurd (omega arith)
some_stray (x ∷ xs) zero l = (x, refl)
some_stray (x ∷ xs) (suc n) l = some_stray xs n (omega arith)

-- ---- a stray is taken out, and the last one stands in its place

pub map-swapped : {A B : Type 0} (f : A → B) {items fewer : List A} {at : ℕ} (x : A) → at < length items → IsSwapped items fewer at → IsSwapped (map f items) (map f fewer) at
map-swapped f {items} {fewer} {at} x l swap =
    let a = length-map items f in
    let b = length-map fewer f in
    record {
      shorter = omega (arith, a, b, swap.shorter);
      last = λ d m. grind (arith, a, b, swap.shorter, swap.last x, get_or-map f fewer at x d, get_or-map f items (length items - 1) x d);
      others = λ k d apart m. grind (arith, a, b, swap.shorter, swap.others k x, get_or-map f fewer k x d, get_or-map f items k x d);
    }

module _ {X : Type 0} (strays less : List X) (at : ℕ) (swap : IsSwapped strays less at) where
  pub less_other : (j : ℕ) → j ≢ at → j < length less → get_or (map Some less) j None ≡ get_or (map Some strays) j None
  less_other j d l = let x = (some_stray less j l).0 in grind (arith, swap.shorter, swap.others j x, get_or-map Some less j x None, get_or-map Some strays j x None)

  pub less_at : at < length less → get_or (map Some less) at None ≡ get_or (map Some strays) (length less) None
  less_at l = let x = (some_stray less at l).0 in grind (arith, swap.shorter, swap.last x, get_or-map Some less at x None, get_or-map Some strays (length less) x None)

  -- where each stood
  pub stood_less : (j : ℕ) (z : X) → get_or (map Some less) j None ≡ Some z
      → ((j ≢ at) × (get_or (map Some strays) j None ≡ Some z)) ⊎ ((j ≡ at) × (get_or (map Some strays) (length less) None ≡ Some z))
  stood_less j z e = grind (arith, cases_eq j at, less_other j, less_at, stray_inside less j z e)

-- what was taken out, changed and pushed stands at its old place again once it is swapped with the last
pub put_back : {X : Type 0} (old less more new : List X) (at last : ℕ) (y : X) → at < length old → length old ≡ last + 1 → IsSwapped old less at
    → more ≡ less ++ y ∷ [] → SwappedAt more new at last → length new ≡ length more → new ≡ set old at y
put_back {X} old less more new at last y l many swap pushed back len =
    let size : length more ≡ last + 1 = ap length pushed ∙ length_push less y ∙ omega (arith, swap.shorter) in
    ext_get_or y new (set old at y) (grind (arith, reads)) (λ k below.
    grind (arith, reads, cases_eq k at, cases_eq k last, back.0 y, back.1 y, back.2 k y, swap.shorter, swap.last y, swap.others k y))

-- and where it wasn't changed all stand where they stood
pub put_back_again : {X : Type 0} (old less more new : List X) (at last : ℕ) (x : X) → at < length old → x ≡ get_or old at x → IsSwapped old less at
    → more ≡ less ++ (x ∷ []) → last ≡ length less → SwappedAt more new at last → length new ≡ length old → new ≡ old
put_back_again old less more new at last x l there swap pushed ends back len =
    put_back old less more new at last x l (omega (arith, swap.shorter)) swap pushed back (omega (arith, swap.shorter, ap length pushed ∙ length_push less x))
    ∙ ap (set old at) there ∙ set-get_or old at x
