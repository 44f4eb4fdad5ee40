-- What keeps the bays in step with the items.
use Rattle.mc_shared.proofs.Words.{◌≡◌, ◌≢◌, ℕ, ◌+◌, ◌≤◌, ◌<◌, Option, Some, List, [], ◌∷◌, ◌++◌, length, get_or, set, cond, sym, refl, ap, ◌∙◌, subst, ⊎_elim, arith, length-set}
use Rattle.mc_shared.proofs.Words.{get_or-set_other, get_or-set_same, eq-eqb, ne_eqb, dite, none, some, ℕ_discrete, get_elem?, at_set, set_here, Bay, Content, OfShelf, OfDesk, content_of}
use Rattle.mc_shared.proofs.Words.{place, total, Plain, Beginning, SeatView, FitsBay, AllFit, KeepsLimits, holds_bay, times, Stocked, set_else}
use Rattle.mc_shared.proofs.Sums.{sum_set, sum_one, sum_two, total-append, each_set, each_snoc}
use Rattle.mc_shared.proofs.WordLemmas.{bays_inside}
use mathlib.Core.Option as maybe

pub here : (b : ℕ) (x : Content) → holds_bay b (b, x) ≡ 1
here b x = ap (λ t. cond t 1 0) (eq-eqb b b refl)

pub elsewhere : (b c : ℕ) (x : Content) → c ≢ b → holds_bay c (b, x) ≡ 0
elsewhere b c x ne = ap (λ t. cond t 1 0) (ne_eqb c b ne)

pub inside : (began : Beginning) (m : Plain) (b : ℕ) (x : Content) → FitsBay began m b x → b < began.shelves + 1
inside began m b (OfShelf f) h = let l = h.0 in omega (arith, l)
inside began m b (OfDesk n) h = let l = h.0 in omega (arith, l)

-- different bays lie in different places
pub places_apart : (c b : ℕ) → c ≢ b → place c ≢ place b
places_apart c b ne e = ne (omega (arith, e))

-- what fits still fits, where each bay in the list may be told so
pub all_still : (began : Beginning) (m m' : Plain) (xs : List (ℕ × Content))
    → ((b : ℕ) (x : Content) → 1 ≤ total (holds_bay b) xs → FitsBay began m b x → FitsBay began m' b x) → AllFit began m xs → AllFit began m' xs
all_still began m m' [] keep h = tt
all_still began m m' (x ∷ xs) keep h = (
  keep x.0 x.1 (let one = here x.0 x.1 in omega (arith, one)) h.0,
  all_still began m m' xs (λ b y l. keep b y (omega (arith, l))) h.1,
)

-- the bays of one seat are no other's
pub apart : (began : Beginning) (m : Plain) (words : List ℕ) (homes : List (maybe.Option (Option Bay))) (views : List SeatView) (id j : ℕ) (v u : SeatView) (b : ℕ) → Stocked began m words homes views
    → id ≢ j → get_elem? views id ≡ some v → get_elem? views j ≡ some u → b < began.shelves + 1 → 1 ≤ times b u → times b v ≡ 0
apart began m words homes views id j v u b s ne at other l has = let two = sum_two (times b) views id j v u ne at other in let t = s.taken b l in let low = s.low b l in omega (arith, two, t, low, has)

-- a free bay is taken: its word was 0
pub stocked_take : (began : Beginning) (m : Plain) (words : List ℕ) (homes : List (maybe.Option (Option Bay))) (views : List SeatView) (id b : ℕ)
    (v w : SeatView) (x : Content) → Stocked began m words homes views
    → get_elem? views id ≡ some v → b < began.shelves + 1 → get_or words (place b) 0 ≡ 0 → w.bays ≡ (b, x) ∷ v.bays → FitsBay began m b x
    → Stocked began m (set words (place b) 1) (set homes (place b) none) (set views id w)
stocked_take began m words homes views id b v w x s at l zero_here is fits = record {
  wide = length-set words (place b) 1 ∙ s.wide;
  deep = length-set homes (place b) none ∙ s.deep;
  low = λ c lc. dite (ℕ_discrete c b)
      (λ e. subst (λ k. get_or (set words (place b) 1) (place k) 0 ≤ 1) (sym e) (let lw : place b < length words = let e2 = s.wide in
      let room = bays_inside began.shelves in omega arith in rw get_or-set_same (omega arith)))
      (λ ne. let ne' : b ≢ c = (λ h. ne (sym h)) in rw (get_or-set_other words (place b) (place c) 1 0 (places_apart c b ne)) (s.low c lc));
  taken = λ c lc. let t = s.taken c lc in let moved = sum_set (times c) views id v w at in let grows : times c w ≡ holds_bay c (b, x) + times c v = ap (total (holds_bay c)) is in
      dite (ℕ_discrete c b)
      (λ e. let lw : place c < length words = let e2 = s.wide in let room = bays_inside began.shelves in omega arith in let one : holds_bay c (b, x) ≡ 1 =
      ap (λ k. holds_bay c (k, x)) (sym e) ∙ here c x in
      let was : get_or words (place c) 0 ≡ 0 = ap (λ k. get_or words (place k) 0) e ∙ zero_here in
      let now : get_or (set words (place b) 1) (place c) 0 ≡ 1 = ap (λ k. get_or (set words (place k) 1) (place c) 0) (sym e)
      ∙ get_or-set_same words (place c) 1 0 lw in omega (arith, t, moved, grows, one, was, now))
      (λ ne. let none_here = elsewhere b c x ne in let now = get_or-set_other words (place b) (place c) 1 0 (places_apart c b ne) in omega (arith, t, moved, grows, none_here, now));
  home = λ c lc free. dite (ℕ_discrete c b)
      (λ e. let lw : place c < length words = let e2 = s.wide in let room = bays_inside began.shelves in omega arith in
      let now : get_or (set words (place b) 1) (place c) 0 ≡ 1 = ap (λ k. get_or (set words (place k) 1) (place c) 0) (sym e)
      ∙ get_or-set_same words (place c) 1 0 lw in absurd (omega (arith, now, free)))
      (λ ne. let was = s.home c lc (sym (get_or-set_other words (place b) (place c) 1 0 (places_apart c b ne)) ∙ free) in
      (was.0, set_else homes (place b) (place c) none (places_apart c b ne) ∙ was.1, was.2));
  limits = s.limits;
  out = each_set (λ (z : SeatView). AllFit began m z.bays) views id w s.out (subst (AllFit began m) (sym is) (fits, s.out id v at));
}

-- a bay is given back, perhaps with a decision: the items are m' from then on
pub stocked_give : (began : Beginning) (m m' : Plain) (words : List ℕ) (homes : List (maybe.Option (Option Bay))) (views : List SeatView) (id b : ℕ)
    (v w : SeatView) (x : Content) (x' : Bay) (xs : List (ℕ × Content)) → Stocked began m words homes views
    → get_elem? views id ≡ some v → v.bays ≡ (b, x) ∷ xs → ((c : ℕ) → times c w ≡ total (holds_bay c) xs) → FitsBay began m' b (content_of x') → AllFit began m' w.bays
    → ((c : ℕ) (y : Content) → times c v ≡ 0 → FitsBay began m c y → FitsBay began m' c y) → KeepsLimits began m'
    → Stocked began m' (set words (place b) 0) (set homes (place b) (some (Some x'))) (set views id w)
stocked_give began m m' words homes views id b v w x x' xs s at is rests fits kept others limits = let l : b < began.shelves + 1 =
    inside began m' b (content_of x') fits in let lw : place b < length words = let e2 = s.wide in let room = bays_inside began.shelves in omega arith in
    let lh : place b < length homes = let e2 = s.deep in omega arith in
    let gone : get_or (set words (place b) 0) (place b) 0 ≡ 0 = get_or-set_same words (place b) 0 0 lw in
    let falls = λ (c : ℕ) (lc : c < began.shelves + 1). (let t = s.taken c lc in let moved = sum_set (times c) views id v w at in
    let shrinks : times c v ≡ holds_bay c (b, x) + times c w = ap (total (holds_bay c)) is ∙ ap (λ k. holds_bay c (b, x) + k) (sym (rests c)) in
    let is_sum : total (times c) (set views id w) + holds_bay c (b, x) ≡ get_or words (place c) 0 = omega (arith, t, moved, shrinks) in is_sum) in record {
      wide = length-set words (place b) 0 ∙ s.wide;
      deep = length-set homes (place b) (some (Some x')) ∙ s.deep;
      low = λ c lc. dite (ℕ_discrete c b) (λ e. let z : get_or (set words (place b) 0) (place c) 0 ≡ 0 = ap (λ k. get_or (set words (place b) 0) (place k) 0) e ∙ gone in omega (arith, z))
          (λ ne. rw (get_or-set_other words (place b) (place c) 0 0 (places_apart c b ne)) (s.low c lc));
      taken = λ c lc. let f = falls c lc in let low = s.low c lc in dite (ℕ_discrete c b)
          (λ e. let one : holds_bay c (b, x) ≡ 1 = ap (λ k. holds_bay c (k, x)) (sym e) ∙ here c x in
          let z : get_or (set words (place b) 0) (place c) 0 ≡ 0 = ap (λ k. get_or (set words (place b) 0) (place k) 0) e ∙ gone in omega (arith, f, low, one, z))
          (λ ne. let none_here = elsewhere b c x ne in let now = get_or-set_other words (place b) (place c) 0 0 (places_apart c b ne) in omega (arith, f, none_here, now));
      home = λ c lc free. dite (ℕ_discrete c b) (λ e. (
        x',
        ap (λ k. get_elem? (set homes (place b) (some (Some x'))) (place k)) e ∙ set_here homes (place b) (some (Some x')) lh,
        subst (λ k. FitsBay began m' k (content_of x')) (sym e) fits,
      ))
          (λ ne. let free' : get_or words (place c) 0 ≡ 0 = sym (get_or-set_other words (place b) (place c) 0 0 (places_apart c b ne)) ∙ free in let was = s.home c lc free' in
          let not_mine : times c v ≡ 0 = (let o = sum_one (times c) views id v at in let t = s.taken c lc in omega (arith, o, t, free')) in
          (was.0, set_else homes (place b) (place c) (some (Some x')) (places_apart c b ne) ∙ was.1, others c (content_of was.0) not_mine was.2));
      limits = limits;
      out = λ j u e. ⊎_elim (λ (t : (j ≡ id) × (w ≡ u)). subst (λ (z : SeatView). AllFit began m' z.bays) t.1 kept)
          (λ (t : (j ≢ id) × (get_elem? views j ≡ some u)). all_still began m m' u.bays
          (λ c y has fc. others c y (apart began m words homes views id j v u c s (λ h. t.0 (sym h)) at t.1 (inside began m c y fc) has) fc) (s.out j u t.1)) (at_set views id j w u e);
    }

-- the word of a bay that is held is 1
pub held_word : (began : Beginning) (m : Plain) (words : List ℕ) (homes : List (maybe.Option (Option Bay))) (views : List SeatView) (id b : ℕ) (v : SeatView)
    (x : Content) (xs : List (ℕ × Content)) → Stocked began m words homes views
    → get_elem? views id ≡ some v → v.bays ≡ (b, x) ∷ xs → get_or words (place b) 0 ≡ 1
held_word began m words homes views id b v x xs s at is = let fit : FitsBay began m b x = (subst (AllFit began m) is (s.out id v at)).0 in let l =
    inside began m b x fit in let t = s.taken b l in let low = s.low b l in let o = sum_one (times b) views id v at in
    let has : times b v ≡ holds_bay b (b, x) + total (holds_bay b) xs = ap (total (holds_bay b)) is in let one = here b x in omega (arith, t, low, o, has, one)

-- a seat goes on with the same bays, and another may begin with none
pub stocked_same : (began : Beginning) (m : Plain) (words : List ℕ) (homes : List (maybe.Option (Option Bay))) (views : List SeatView) (id : ℕ) (v w : SeatView) → Stocked began m words homes views
    → get_elem? views id ≡ some v → w.bays ≡ v.bays → Stocked began m words homes (set views id w)
stocked_same began m words homes views id v w s at same = record {
  wide = s.wide;
  deep = s.deep;
  low = s.low;
  taken = λ c lc. let t = s.taken c lc in let moved = sum_set (times c) views id v w at in let e : times c w ≡ times c v = ap (total (holds_bay c)) same in omega (arith, t, moved, e);
  home = s.home;
  limits = s.limits;
  out = each_set (λ (z : SeatView). AllFit began m z.bays) views id w s.out (subst (AllFit began m) (sym same) (s.out id v at));
}

pub stocked_snoc : (began : Beginning) (m : Plain) (words : List ℕ) (homes : List (maybe.Option (Option Bay))) (views : List SeatView) (u : SeatView)
    → Stocked began m words homes views → u.bays ≡ [] → Stocked began m words homes (views ++ u ∷ [])
stocked_snoc began m words homes views u s bare = record {
  wide = s.wide;
  deep = s.deep;
  low = s.low;
  taken = λ c lc. let t = s.taken c lc in let e : times c u ≡ 0 = ap (total (holds_bay c)) bare in omega (arith, t, e, total-append (times c) views (u ∷ []));
  home = s.home;
  limits = s.limits;
  out = each_snoc (λ (z : SeatView). AllFit began m z.bays) views u s.out (subst (AllFit began m) (sym bare) tt);
}

-- a word that is no bay's may change
pub stocked_word : (began : Beginning) (m : Plain) (views : List SeatView) (homes : List (maybe.Option (Option Bay))) (words : List ℕ) (i n : ℕ)
    → place (began.shelves + 1) ≤ i → Stocked began m words homes views → Stocked began m (set words i n) homes views
stocked_word began m views homes words i n behind s =
    let still : (b : ℕ) → b < began.shelves + 1 → get_or (set words i n) (place b) 0 ≡ get_or words (place b) 0 =
    λ b l. get_or-set_other words i (place b) n 0 (λ e. omega (arith, behind, l, e)) in record {
      wide = length-set words i n ∙ s.wide;
      deep = s.deep;
      low = λ b l. rw (still b l) (s.low b l);
      taken = λ b l. s.taken b l ∙ sym (still b l);
      home = λ b l free. s.home b l (sym (still b l) ∙ free);
      limits = s.limits;
      out = s.out;
    }
