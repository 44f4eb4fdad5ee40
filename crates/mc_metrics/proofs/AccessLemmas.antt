-- A test of what is made of each element.
use Rattle.std.proofs.Common.{◌≡◌, Bool, true, not, ◌&&◌, ◌||◌, List, [], ◌∷◌, map, refl, sym, ap, ◌∙◌}
use Rattle.std.specs.List.{list_any}

-- a test finds among what is made of the elements what it finds among the elements
pub list_any_map : {X Y : Type 0} (p : Y → Bool) (f : X → Y) (xs : List X)
    → list_any p (map f xs) ≡ list_any (λ x. p (f x)) xs
list_any_map p f [] = refl
list_any_map p f (x ∷ xs) = ap (λ rest. p (f x) || rest) (list_any_map p f xs)

-- what holds here, and isn't found
pub and_not : {X Y : Type 0} (p : Y → Bool) (f : X → Y) (xs : List X) → (here found : Bool)
    → here ≡ true → found ≡ list_any (λ x. p (f x)) xs → not found ≡ (here && not (list_any p (map f xs)))
and_not p f xs here found holds is =
    ap not (is ∙ sym (list_any_map p f xs)) ∙ sym (ap (λ t. t && not (list_any p (map f xs))) holds)
