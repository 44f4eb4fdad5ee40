-- What becomes of a round with one guest more.
use Rattle.std.proofs.Common.{◌≡◌, ℕ, ◌<◌, ◌+◌, List, [], ◌∷◌, ◌++◌, length, take, drop, refl, sym, ap, ◌∙◌, subst, arith, get_or, suc}
use Rattle.std.proofs.Math.ListN.{set}
use Rattle.std.proofs.lemmas.List.{take_more, take_more_set, drop-set-lt, get_or-drop}
use Rattle.std.proofs.lemmas.Grind.{drop_more_same}
use Rattle.mc_guests.specs.Visits.{OneByOne}

-- a front and one more, where the rest is as it was
pub front_more : {A : Type 0} (olds news : List A) (i : ℕ) (x : A) → length news ≡ length olds → i < length news → x ≡ get_or news i x
    → drop i news ≡ drop i olds → take (i + 1) olds ≡ take i olds ++ x ∷ []
front_more {A} olds news i x long inside is rest =
    let within : i < length olds = subst (λ n. i < n) long inside in
    let heads : get_or (drop i olds) 0 x ≡ get_or (drop i news) 0 x = ap (λ l. get_or l 0 x) (sym rest) in
    let none : i + 0 ≡ i = omega arith in
    let same : get_or olds i x ≡ x = cc (get_or-drop i olds 0 x, get_or-drop i news 0 x, heads, is, none) in
    take_more olds i x within ∙ ap (λ (z : A). take i olds ++ z ∷ []) same

-- a step more for one guest more, behind the others
module _ {S G : Type 0} (Step : S → G × G → S → Type 0) where
  one_behind : (olds news : List G) (x y : G) (first before after : S) → OneByOne Step olds news first before → Step before (x, y) after
      → OneByOne Step (olds ++ x ∷ []) (news ++ y ∷ []) first after
  one_behind [] [] x y first before after (long, same) one = (refl, (after, subst (λ (s : S). Step s (x, y) after) same one, refl))
  one_behind [] (n ∷ news) x y first before after (long, goes) one = absurd (omega (arith, long))
  one_behind (o ∷ olds) [] x y first before after (long, goes) one = absurd (omega (arith, long))
  one_behind (o ∷ olds) (n ∷ news) x y first before after (long, (mid, step, goes)) one =
      let rest = one_behind olds news x y mid before after (omega (arith, long), goes) one in
      (ap suc rest.0, (mid, step, rest.1))

  pub round_more : (olds news : List G) (i : ℕ) (x y : G) (first before after : S) → length news ≡ length olds → i < length news → x ≡ get_or news i x
      → OneByOne Step (take i olds) (take i news) first before → drop i news ≡ drop i olds → Step before (x, y) after
      → OneByOne Step (take (i + 1) olds) (take (i + 1) (set news i y)) first after × (drop (i + 1) (set news i y) ≡ drop (i + 1) olds)
  round_more olds news i x y first before after long inside is goes rest one = (
    subst (λ l. OneByOne Step l (take (i + 1) (set news i y)) first after) (sym (front_more olds news i x long inside is rest))
        (subst (λ l. OneByOne Step (take i olds ++ x ∷ []) l first after) (sym (take_more_set news i y inside))
        (one_behind (take i olds) (take i news) x y first before after goes one)),
    drop-set-lt (i + 1) news i y (omega arith) ∙ drop_more_same news olds i rest,
  )
