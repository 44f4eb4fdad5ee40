-- What a charge needs.
use Rattle.mc_shelf.proofs.Common.{◌&&◌, ◌*◌, ◌+◌, ◌-◌, ◌/◌, ◌<◌, ◌∙◌, ◌≡◌, ◌≤◌, ap, arith, cases_lt, class_holding, cond_both, dead_chunks, Entry, eq-eqb, eqb, eqb-true, false, get_or}
use Rattle.mc_shelf.proofs.Common.{gives_way, has_need, inl, inr, is_gone, IsClass, item_need, le-leb, leb, leb-false, leb-true, length, length-chunk_sizes, List, ltb, need_for, NeedState}
use Rattle.mc_shelf.proofs.Common.{None, not, of_class, Option, position_or_len, refl, same_need, size_in, size_of, size_of-last, Some, subst, sym, true, true≢false, ℕ}
use Rattle.std.proofs.lemmas.List.Sums.{fails_before_first, passes_at_first}
use Rattle.mc_sizes.specs.Classes.{chunk_sizes}

pub by_charge : (P : NeedState → Type 0) (charge : ℕ) → (charge ≤ 1048576 → P (record { class = class_holding charge; count = 1 }))
    → (1048576 < charge → P (record { class = 40; count = (charge + 1048575) / 1048576 })) → P (need_for charge)
by_charge P charge small large =
    cond_both (leb charge 1048576) (record { class = class_holding charge; count = 1 }) (record { class = 40; count = (charge + 1048575) / 1048576 }) P
    (λ e. small (leb-true charge 1048576 e)) (λ e. large (leb-false charge 1048576 e))

last_but_one : get_or chunk_sizes 38 0 ≡ 493552
unfolding chunk_sizes
last_but_one = refl

-- two needs that are the same
pub needs_same : (a b : NeedState) → a ≡ b → same_need a b ≡ true
needs_same a b e = subst (λ (n : NeedState). same_need a n ≡ true) e (λ i. eq-eqb a.class a.class refl i && eq-eqb a.count a.count refl i)

-- a charge of at most a class's size has this class, or one before it
holding_most : (charge last size : ℕ) → get_or chunk_sizes last 0 ≡ size → charge ≤ size → class_holding charge ≤ last + 1
holding_most charge last size is most =
    let place : ℕ = position_or_len (λ size. leb charge size) chunk_sizes in
    elim (cases_lt last place) as (λ _. class_holding charge ≤ last + 1) [
      | inl behind ↦ absurd (true≢false (sym (le-leb charge size most) ∙ ap (leb charge) (sym is) ∙ fails_before_first (λ size. leb charge size) chunk_sizes last 0 behind))
      | inr within ↦ omega arith
    ]

-- one of at most a page has a class, and fits it
class_least : (charge : ℕ) → charge ≤ 1048576 → IsClass (class_holding charge)
class_least charge most = let low = holding_most charge 39 1048576 size_of-last most in (omega arith, omega arith)

class_fits : (charge : ℕ) → IsClass (class_holding charge) → charge ≤ size_of (class_holding charge)
class_fits charge is =
    let smaller : ℕ = position_or_len (λ size. leb charge size) chunk_sizes in
    let inside : smaller < length chunk_sizes = rw length-chunk_sizes (omega (arith, is)) in
    let one_back : smaller ≡ smaller + 1 - 1 = omega arith in
    leb-true _ _ (subst (λ n. leb charge (get_or chunk_sizes n 0) ≡ true) one_back (passes_at_first (λ size. leb charge size) chunk_sizes 0 inside))

-- what is needed is of a class
pub need_class : (charge : ℕ) → IsClass (need_for charge).class
need_class charge = by_charge (λ need. IsClass need.class) charge (class_least charge) (λ above. (omega arith, omega arith))

-- and a charge fits what it needs
pub need_fits : (charge : ℕ) → charge ≤ size_in (need_for charge)
need_fits charge =
    by_charge (λ need. charge ≤ size_in need) charge
    (λ most. let fits = class_fits charge (class_least charge most) in omega (arith, fits))
    (λ above. let pages : ℕ = (charge + 1048575) / 1048576 in
    let fits : charge ≤ pages * 1048576 = omega arith in
    subst (λ (k : ℕ). charge ≤ pages * k) (sym size_of-last) fits)

-- a charge fits the chunks of an item whose own charge needs the same
pub same_need_fits : (need : NeedState) (own other : ℕ) → need ≡ need_for own → need_for own ≡ need_for other → other ≤ size_in need
same_need_fits need own other serves same = subst (λ (n : NeedState). other ≤ size_in n) (sym (serves ∙ same)) (need_fits other)

-- ---- small charges

-- what needs chunks of a small charge's class needs the same
small_same : (charge other : ℕ) → charge ≤ 493552 → (need_for other).class ≡ (need_for charge).class → need_for other ≡ need_for charge
small_same charge other small =
    by_charge (λ need. (need_for other).class ≡ need.class → need_for other ≡ need) charge
    (λ most. by_charge (λ need. need.class ≡ class_holding charge → need ≡ record { class = class_holding charge; count = 1 }) other
    (λ most same. λ i. record { class = same i; count = 1 })
    (λ above same. let low = holding_most charge 38 493552 last_but_one small in absurd (omega (arith, same, low))))
    (λ above. absurd (omega (arith, small, above)))

pub small_stays : (cut : Option ℕ) (now : ℕ) (key : List ℕ) (f : Option Entry) (charge : ℕ) → charge ≤ 493552 → gives_way cut now key f (need_for charge) ≡ false
small_stays cut now key None charge small = refl
small_stays cut now key (Some old) charge small =
    elim (has_need key (Some old) (need_for charge)) as (λ b. has_need key (Some old) (need_for charge) ≡ b → not b && ltb 0 (dead_chunks cut now key (Some old) (need_for charge).class) ≡ false) [
      | true ↦ λ same. refl
      | false ↦ λ other. ap (ltb 0) (none other)
    ] refl
  where
    none : has_need key (Some old) (need_for charge) ≡ false → dead_chunks cut now key (Some old) (need_for charge).class ≡ 0
    none other =
        cond_both (is_gone cut now (Some old)) (of_class key (Some old) (need_for charge).class) 0 (λ n. n ≡ 0)
        (λ _. cond_both (eqb (item_need key old).class (need_for charge).class) (item_need key old).count 0 (λ n. n ≡ 0)
        (λ same. absurd (true≢false (sym (needs_same (item_need key old) (need_for charge)
        (small_same charge (48 + length key + length old.block) small (eqb-true (item_need key old).class (need_for charge).class same))) ∙ other)))
        (λ _. refl))
        (λ _. refl)
