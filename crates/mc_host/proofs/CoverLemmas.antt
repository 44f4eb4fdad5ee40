-- Endpoints that need a listener of their own.
use Rattle.std.proofs.Common.{◌≡◌, refl, sym, ap, ◌∙◌, subst, ℕ, zero, suc, List, [], ◌∷◌, Bool, true, false, not, ◌&&◌, ◌||◌, Some, inl, inr, cond, length, Result, Ok, Err, IfErr, arith}
use Rattle.std.specs.Prelude.{slice_get, ◌==◌}
use Rattle.std.specs.List.{filter, list_any}
use Rattle.std.specs.declared.net.ip_addr.IpAddr.{IpAddr}
use Rattle.std.specs.declared.net.ip_addr.IpAddr.TheVariants.{V4, V6}
use Rattle.mc_options.specs.declared.endpoints.ListenAddress.{ListenAddress}
use Rattle.mc_options.specs.declared.endpoints.Endpoints.{Endpoints}
use Rattle.mc_host.specs.declared.end.End.{End}
use Rattle.mc_host.specs.declared.end.End.TheVariants as end
use Rattle.mc_host.specs.Ends.{IsOneOf, EndsUnbound}
use Rattle.mc_host.specs.Covers.{all_of, bound_among, bound_of, is_covered, is_wide_at, is_all_of_version_4, is_all_of_version_6}

-- an element stands at some place of a list
abbrev pub Stands : {X : Type 0} → List X → X → Type 0
Stands xs x = (i : ℕ) × (slice_get xs i ≡ Some x)

one-more : {X : Type 0} (kept : Bool) (rest all : List X) (y x : X) → (Stands rest x → Stands all x)
    → Stands (cond kept (y ∷ rest) rest) x → Stands (y ∷ all) x
one-more true rest all y x go (zero, is) = (zero, is)
one-more true rest all y x go (suc i, is) = let found = go (i, is) in (suc found.0, found.1)
one-more false rest all y x go is = let found = go is in (suc found.0, found.1)

-- what stands among those that pass a test stands among all
filtered-stands : {X : Type 0} (p : X → Bool) (xs : List X) (x : X) → Stands (filter p xs) x → Stands xs x
filtered-stands p [] x is = is
filtered-stands p (y ∷ ys) x is = one-more (p y) (filter p ys) ys y x (filtered-stands p ys x) is

to-stands : (all : Endpoints) (one : ListenAddress) → IsOneOf all one → Stands (all_of all) one
to-stands all one (inl is) = (zero, ap Some (sym is))
to-stands all one (inr found) = (suc found.0, found.1)

some-is : {X : Type 0} (x y : X) → Some x ≡ Some y → y ≡ x
some-is x y is = grind (arith, is)

from-stands : (all : Endpoints) (one : ListenAddress) → Stands (all_of all) one → IsOneOf all one
from-stands all one (zero, is) = inl (some-is all.first one is)
from-stands all one (suc i, is) = inr (i, is)

pub bound-each : (bound asked : Endpoints) (is_dual : Bool) → all_of bound ≡ bound_of is_dual (all_of asked)
    → (one : ListenAddress) → IsOneOf bound one → IsOneOf asked one
bound-each bound asked is_dual same one is =
    from-stands asked one (filtered-stands (λ it. not (is_dual && is_covered (all_of asked) it)) (all_of asked) one
    (subst (λ xs. Stands xs one) same (to-stands bound one is)))

-- 0.0.0.0 isn't ::
not-both : (address : IpAddr) → is_all_of_version_4 address ≡ true → is_all_of_version_6 address ≡ false
not-both (V4 it) is = refl
not-both (V6 it) is = grind (arith, is)

not-both-wide : (address : IpAddr) → is_all_of_version_6 address ≡ true → is_all_of_version_4 address ≡ false
not-both-wide (V4 it) is = grind (arith, is)
not-both-wide (V6 it) is = refl

and-parts : (a b : Bool) → (a && b) ≡ true → (a ≡ true) × (b ≡ true)
and-parts true b is = (refl, is)
and-parts false b is = grind (arith, is)

not-and : (d a b : Bool) → a ≡ false → not (d && (a && b)) ≡ true
not-and true a b is = ap (λ it. not (it && b)) is
not-and false a b is = refl

-- one at :: is bound
wide-is-bound : (is_dual : Bool) (all : List ListenAddress) (port : ℕ) (one : ListenAddress) → is_wide_at port one ≡ true
    → not (is_dual && is_covered all one) ≡ true
wide-is-bound is_dual all port one wide =
    not-and is_dual (is_all_of_version_4 one.address) (list_any (is_wide_at one.port) all)
    (not-both-wide one.address (and-parts (is_all_of_version_6 one.address) (one.port == port) wide).0)

kept-none : {X : Type 0} (kept : Bool) (x : X) (rest : List X) → cond kept (x ∷ rest) rest ≡ [] → rest ≡ []
kept-none true x rest none = grind (arith, none)
kept-none false x rest none = none

module _ (keep : ListenAddress → Bool) (port : ℕ) (all : (one : ListenAddress) → is_wide_at port one ≡ true → keep one ≡ true) where
  wide-here : (x : ListenAddress) (xs : List ListenAddress) (wide : Bool) → is_wide_at port x ≡ wide
      → (list_any (is_wide_at port) xs ≡ true → filter keep xs ≡ [] → ⊥)
      → (is_wide_at port x || list_any (is_wide_at port) xs) ≡ true
      → cond (keep x) (x ∷ filter keep xs) (filter keep xs) ≡ [] → ⊥
  wide-here x xs true is later any none =
      let kept : (x ∷ filter keep xs) ≡ [] = subst (λ b. cond b (x ∷ filter keep xs) (filter keep xs) ≡ []) (all x is) none in
      grind (arith, kept)
  wide-here x xs false is later any none =
      later (subst (λ b. (b || list_any (is_wide_at port) xs) ≡ true) is any) (kept-none (keep x) x (filter keep xs) none)

  wide-kept : (xs : List ListenAddress) → list_any (is_wide_at port) xs ≡ true → filter keep xs ≡ [] → ⊥
  wide-kept [] any none = grind (arith, any)
  wide-kept (x ∷ xs) any none = wide-here x xs (is_wide_at port x) refl (wide-kept xs) any none

-- where the first is covered, one behind it is bound
one-is-bound : (asked : Endpoints) → is_covered (all_of asked) asked.first ≡ true
    → filter (λ one. not (true && is_covered (all_of asked) one)) asked.others.items ≡ [] → ⊥
one-is-bound asked covered none =
    let parts = and-parts (is_all_of_version_4 asked.first.address)
    (is_wide_at asked.first.port asked.first || list_any (is_wide_at asked.first.port) asked.others.items) covered in
    let narrow : is_wide_at asked.first.port asked.first ≡ false =
    ap (λ it. it && (asked.first.port == asked.first.port)) (not-both asked.first.address parts.0) in
    wide-kept (λ one. not (true && is_covered (all_of asked) one)) asked.first.port
    (λ one wide. wide-is-bound true (all_of asked) asked.first.port one wide) asked.others.items
    (subst (λ b. (b || list_any (is_wide_at asked.first.port) asked.others.items) ≡ true) narrow parts.1) none

empty : {X : Type 0} (xs : List X) → length xs ≡ 0 → xs ≡ []
empty [] is = refl
empty (x ∷ xs) is = grind (arith, is)

first-or-not : (asked : Endpoints) (others : List ListenAddress) → others ≡ bound_among true (all_of asked) asked.others.items
    → (covered : Bool) → is_covered (all_of asked) asked.first ≡ covered → (covered ≡ true → length others ≡ 0)
    → (asked.first ∷ others) ≡ bound_of true (all_of asked)
first-or-not asked others same true is none = absurd (one-is-bound asked is (sym same ∙ empty others (none refl)))
first-or-not asked others same false is none =
    subst (λ b. (asked.first ∷ others) ≡ cond (not (true && b)) (asked.first ∷ bound_among true (all_of asked) asked.others.items)
    (bound_among true (all_of asked) asked.others.items)) (sym is) (ap (λ xs. asked.first ∷ xs) same)

-- the first is bound, unless it is covered and others are
pub first-bound : (asked : Endpoints) (is_dual : Bool) (others : List ListenAddress)
    → others ≡ bound_among is_dual (all_of asked) asked.others.items
    → (is_dual ≡ true → is_covered (all_of asked) asked.first ≡ true → length others ≡ 0)
    → (asked.first ∷ others) ≡ bound_of is_dual (all_of asked)
first-bound asked true others same none =
    first-or-not asked others same (is_covered (all_of asked) asked.first) refl (none refl)
first-bound asked false others same none = ap (λ xs. asked.first ∷ xs) same

-- a program that can't listen at one of the endpoints that are bound can't at one that it was to listen at
unbound-among : (bound asked : Endpoints) (e : End) → ((one : ListenAddress) → IsOneOf bound one → IsOneOf asked one)
    → EndsUnbound bound e → EndsUnbound asked e
unbound-among bound asked (end.CannotListen it) each ends = each it.endpoint ends
unbound-among bound asked end.NoMemory each ends = tt
unbound-among bound asked _ each ends = absurd ends

pub unbound-if : {T : Type 0} (bound asked : Endpoints) (result : Result T End)
    → ((one : ListenAddress) → IsOneOf bound one → IsOneOf asked one) → IfErr result (EndsUnbound bound)
    → IfErr result (EndsUnbound asked)
unbound-if bound asked (Ok it) each ends = tt
unbound-if bound asked (Err e) each ends = unbound-among bound asked e each ends
