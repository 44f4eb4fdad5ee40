-- By how much the keys of each number change where many go at once.
use Rattle.mc_shared.proofs.Words.{◌≡◌, ◌≢◌, ◌==◌, ℕ, suc, ◌+◌, ◌-◌, ◌*◌, ◌/◌, ◌%◌, ◌≤◌, ◌<◌, Bool, true, false, ◌||◌, cond, eqb, if◌then◌else◌, Option, Some, None, is_some, List, [], ◌∷◌}
use Rattle.mc_shared.proofs.Words.{length, slice_get, slice_index, refl, sym, ap, ◌∙◌, subst, arith, mod-lt, none-some, dite, ℕ_discrete, get, len, retain_keys, empty, get-empty}
use Rattle.mc_shared.proofs.Words.{moment_named, Plain, Items, Entry, alive, flushed, living, Flush, Flushed, ShelfContent, ShelfState, DeskState, keys_with, number_of, IsShelfOf}
use Rattle.mc_shared.proofs.Words.{ArePartsOf, GoesTo, order, same_maps, get_kept, total, Content, OfShelf, OfDesk, word_of, spread, keys_in, Beginning, Operation, Purged, Stepped, shelf_in}
use Rattle.mc_shared.proofs.Words.{next, after, SeatView, AllFit, holds_bay, times, named, Past, AreCountsBy, Mine, Counts, MayCount, Fitted, stacked, holds_all, holds_one, AreKeyCounts}
use Rattle.std.proofs.Common.{not}
use Rattle.mc_shared.proofs.WordLemmas.{number_inside}
use Rattle.mc_shared.proofs.StockedKept.{here}
use Rattle.mc_shared.proofs.NumberLemmas.{count_most, count_none}
use Rattle.mc_shared.proofs.NumberSteps.{of_shelf, own_at, others_stay, bare_names}
use Rattle.mc_shared.proofs.SpreadLemmas.{AreApart, spread_names, spread_within}
use Rattle.mc_shared.proofs.Stacked.{parts_held, has_on, all_fit}

-- ---- what stands in one map stands in another

abbrev pub IsWithin : Items → Items → Type 0
IsWithin b a = (key : List ℕ) → get b key ≡ cond (is_some (get b key)) (get a key) None

swapped : (a b : Bool) (o : Option Entry) → ◌≡◌ {A = Option Entry} (cond a (cond b o None) None) (cond b (cond a o None) None)
swapped true true o = refl
swapped true false o = refl
swapped false true o = refl
swapped false false o = refl

-- no more keys pass a test there
pub fewer : (test : List ℕ → Bool) (a b : Items) → IsWithin b a → len (retain_keys b test) ≤ len (retain_keys a test)
fewer test a b within =
    let stands : List ℕ → Bool = λ key. is_some (get b key) in
    let same : retain_keys b test ≡ retain_keys (retain_keys a test) stands = same_maps _ _ (λ q.
    get_kept b test q
    ∙ (ap (λ (o : Option Entry). cond (test q) o None) (within q)
    ∙ (swapped (test q) (stands q) (get a q)
    ∙ sym (get_kept (retain_keys a test) stands q ∙ ap (λ (o : Option Entry). cond (stands q) o None) (get_kept a test q))))) in
    let most = count_most stands (retain_keys a test) in
    let count : len (retain_keys b test) ≡ len (retain_keys (retain_keys a test) stands) = ap (λ (m : Items). len m) same in
    omega (arith, most, count)

narrow : (b : Bool) (x o : Option Entry) → x ≡ cond b o None → x ≡ cond (is_some x) o None
narrow b None o is = refl
narrow true (Some e) o is = is
narrow false (Some e) o is = absurd (none-some e (sym is))

flushed_within : (delay now : ℕ) (m : Plain) → IsWithin (flushed delay m now).items m.items
flushed_within delay now m key = either (delay == 0) where
  left : Bool → Plain
  left b = if b then record m { items = empty; cut = None } else record m { items = living m.items m.cut now; cut = Some (moment_named delay now) }

  either : (b : Bool) → get (left b).items key ≡ cond (is_some (get (left b).items key)) (get m.items key) None
  either true = narrow false (get empty key) (get m.items key) (get-empty order key)
  either false = narrow (is_some (alive m.cut now (get m.items key))) (get (living m.items m.cut now) key) (get m.items key) (get_kept m.items (λ k. is_some (alive m.cut now (get m.items k))) key)

-- ---- a decision by which so many keys of each number go

pub counts_gone : (start : Beginning) → AreApart start.shelves → (gone : ℕ → ℕ) (v w : SeatView) (what : Operation)
    → v.surplus ≡ [] → w.surplus ≡ spread start.shelves gone 0 4096 → ((n : ℕ) → n < 4096 → 1 ≤ gone n → 1 ≤ times (n % start.shelves) w)
    → ((m : Plain) → AllFit start m v.bays → (n : ℕ) → n < 4096 → keys_with start.hash_of n m.items ≡ keys_with start.hash_of n (next start m what).items + gone n)
    → Counts start v what w
counts_gone start apart gone v w what had has held weighed =
    let named_is : (n : ℕ) → n < 4096 → named (word_of start.shelves n) w ≡ gone n = λ n low.
    ap (total (λ x. cond (eqb (word_of start.shelves n) x) 1 0)) has
    ∙ spread_names start.shelves gone apart 0 4096 n (omega arith) (omega arith) (omega (arith, low)) in
    record {
      weighs = λ m fits n low.
          let was = bare_names v (word_of start.shelves n) had in
          let is = named_is n low in
          let e = weighed m fits n low in
          omega (arith, was, is, e);
      owned = λ word some.
          let names : named word w ≡ total (λ x. cond (eqb word x) 1 0) (spread start.shelves gone 0 4096) = ap (total (λ x. cond (eqb word x) 1 0)) has in
          let inside = spread_within start.shelves gone 0 4096 word (omega (arith, some, names)) in
          let high = inside.2 in
          let below : inside.0 < 4096 = omega (arith, high) in
          let is = named_is inside.0 below in
          let same : named word w ≡ named (word_of start.shelves inside.0) w = ap (λ (x : ℕ). named x w) inside.3 in
          record { number = inside.0; below = below; is = inside.3; held = held inside.0 below (omega (arith, is, same, some)) };
    }

-- ---- a shelf is purged

module _ (start : Beginning) (at : ℕ) (divides : 4096 / start.shelves * start.shelves ≡ 4096) (now : ℕ) (f f' : ShelfContent) where
  abbrev what : Operation
  what = Purged at now

  abbrev Goes : Plain → Type 0
  Goes m = IsShelfOf start.hash_of start.shelves m at f × ((d : DeskState) × GoesTo start.hash_of start.shelves at m (next start m what) f' d)

  -- what is left of it stood there
  purged_within : (m : Plain) → Goes m → IsWithin f'.items f.items
  purged_within m goes key =
      let keep : List ℕ → Bool = λ q. not (shelf_in start q == at) || is_some (alive m.cut now (get m.items q)) in
      dite (ℕ_discrete (shelf_in start key) at)
      (λ own. narrow (keep key) (get f'.items key) (get f.items key)
      (goes.1.1.own.items key own ∙ (get_kept m.items keep key ∙ ap (λ (o : Option Entry). cond (keep key) o None) (sym (goes.0.items key own)))))
      (λ other. narrow false (get f'.items key) (get f.items key) (goes.1.1.own.apart key other))

  -- a number of another shelf has no key there
  pub off_shelf : (m : Plain) → IsShelfOf start.hash_of start.shelves m at f → (n : ℕ) → n % start.shelves ≢ at → keys_with start.hash_of n f.items ≡ 0
  off_shelf m part n other = count_none (λ key. number_of start.hash_of key == n) f.items
      (λ key passes. part.apart key (λ own. other (sym (of_shelf start at (4096 / start.shelves) divides n key passes) ∙ own)))

  pub counts_swept : AreApart start.shelves → (before : ℕ → ℕ) → ((n : ℕ) → n < 4096 → before n ≡ keys_with start.hash_of n f.items)
      → (v w : SeatView) (below_it : List (ℕ × Content)) → v.surplus ≡ []
      → w.surplus ≡ spread start.shelves (λ n. before n - keys_with start.hash_of n f'.items) 0 4096 → w.bays ≡ (at, OfShelf f') ∷ below_it
      → (some : Plain) → AllFit start some v.bays → ((m : Plain) → AllFit start m v.bays → Goes m) → Counts start v what w
  counts_swept apart before counted v w below_it had has holds some fit goes =
      counts_gone start apart (λ n. before n - keys_with start.hash_of n f'.items) v w what had has
      (λ n low gone.
      let was = counted n low in
      let own : n % start.shelves ≡ at = dite (ℕ_discrete (n % start.shelves) at) (λ e. e)
      (λ other. absurd (let none = off_shelf some (goes some fit).0 n other in omega (arith, none, was, gone))) in
      let first : holds_bay (n % start.shelves) (at, OfShelf f') ≡ 1 = ap (λ b. holds_bay b (at, OfShelf f')) own ∙ here at (OfShelf f') in
      let all : times (n % start.shelves) w ≡ holds_bay (n % start.shelves) (at, OfShelf f') + total (holds_bay (n % start.shelves)) below_it = ap (total (holds_bay (n % start.shelves))) holds in
      omega (arith, first, all))
      (λ m fits n low.
      let g = goes m fits in
      let was = counted n low in
      let less = fewer (λ key. number_of start.hash_of key == n) f.items f'.items (purged_within m g) in
      dite (ℕ_discrete (n % start.shelves) at)
      (λ own.
      let old = own_at start at (4096 / start.shelves) divides m f g.0 n own in
      let new = own_at start at (4096 / start.shelves) divides (next start m what) f' g.1.1.own n own in
      omega (arith, was, less, old, new))
      (λ other.
      let none = off_shelf m g.0 n other in
      let same = others_stay start at (4096 / start.shelves) divides m (next start m what) f f' g.1.0 g.0 g.1.1 n other in
      omega (arith, was, none, same)))

-- ---- all shelves are flushed

module _ (start : Beginning) (divides : 4096 / start.shelves * start.shelves ≡ 4096) (m : Plain) where
  -- none of the shelves from one on has keys of the number of another
  sum_none : (from n : ℕ) (xs : List ShelfState) → ((at : ℕ) (x : ShelfState) → slice_get xs at ≡ Some x → IsShelfOf start.hash_of start.shelves m (from + at) x.content)
      → n % start.shelves < from → keys_in start.hash_of n xs ≡ 0
  sum_none from n [] each low = refl
  sum_none from n (x ∷ xs) each low =
      let first = off_shelf start from divides 0 x.content x.content m
      (let same : from + 0 ≡ from = omega arith in subst (λ k. IsShelfOf start.hash_of start.shelves m k x.content) same (each 0 x refl)) n (λ own. omega (arith, own, low)) in
      let rest = sum_none (from + 1) n xs
      (λ at y is. let same : from + suc at ≡ from + 1 + at = omega arith in subst (λ k. IsShelfOf start.hash_of start.shelves m k y.content) same (each (suc at) y is)) (omega (arith, low)) in
      omega (arith, first, rest)

  -- those of a number are the keys of its shelf
  sum_one : (from n : ℕ) (xs : List ShelfState) → ((at : ℕ) (x : ShelfState) → slice_get xs at ≡ Some x → IsShelfOf start.hash_of start.shelves m (from + at) x.content)
      → from ≤ n % start.shelves → n % start.shelves < from + length xs → keys_in start.hash_of n xs ≡ keys_with start.hash_of n m.items
  sum_one from n [] each low high = absurd (omega (arith, low, high))
  sum_one from n (x ∷ xs) each low high =
      let part : IsShelfOf start.hash_of start.shelves m from x.content =
      (let same : from + 0 ≡ from = omega arith in subst (λ k. IsShelfOf start.hash_of start.shelves m k x.content) same (each 0 x refl)) in
      let others : (at : ℕ) (y : ShelfState) → slice_get xs at ≡ Some y → IsShelfOf start.hash_of start.shelves m (from + 1 + at) y.content =
      λ at y is. let same : from + suc at ≡ from + 1 + at = omega arith in subst (λ k. IsShelfOf start.hash_of start.shelves m k y.content) same (each (suc at) y is) in
      dite (ℕ_discrete (n % start.shelves) from)
      (λ own.
      let first = own_at start from (4096 / start.shelves) divides m x.content part n own in
      let rest = sum_none (from + 1) n xs others (omega (arith, own)) in
      omega (arith, first, rest))
      (λ other.
      let first = off_shelf start from divides 0 x.content x.content m part n other in
      let rest = sum_one (from + 1) n xs others (omega (arith, low, other)) (omega (arith, high)) in
      omega (arith, first, rest))

  -- shelves that are parts of a state have its keys
  pub parts_counted : (xs : List ShelfState) (d : DeskState) → ArePartsOf start.hash_of m xs start.shelves d → (n : ℕ) → keys_in start.hash_of n xs ≡ keys_with start.hash_of n m.items
  parts_counted xs d parts n =
      let inside : n % start.shelves < start.shelves = mod-lt n parts.some_shelf in
      let all = parts.number in
      sum_one 0 n xs (λ at x is. let same : at ≡ 0 + at = omega arith in subst (λ k. IsShelfOf start.hash_of start.shelves m k x.content) same (parts.each at x is))
      (omega arith) (omega (arith, inside, all))

pub counts_flushed : (start : Beginning) → 4096 / start.shelves * start.shelves ≡ 4096 → AreApart start.shelves → (xs ys : List ShelfState) (d d' : DeskState) (delay now : ℕ) (before : ℕ → ℕ)
    → length xs ≡ start.shelves → 0 < start.shelves → length ys ≡ length xs
    → ((m : Plain) → ArePartsOf start.hash_of m xs start.shelves d → (n : ℕ) → n < 4096 → before n ≡ keys_with start.hash_of n m.items)
    → ((m : Plain) → ArePartsOf start.hash_of m xs start.shelves d → ArePartsOf start.hash_of (flushed delay m now) ys start.shelves d')
    → (v w : SeatView) → v.surplus ≡ [] → v.bays ≡ (start.shelves, OfDesk d) ∷ stacked xs
    → w.surplus ≡ spread start.shelves (λ n. before n - keys_in start.hash_of n ys) 0 4096 → w.bays ≡ stacked ys
    → Counts start v (Stepped (Flush delay) now Flushed) w
counts_flushed start divides apart xs ys d d' delay now before all some same counted parts v w had holds has held =
    counts_gone start apart (λ n. before n - keys_in start.hash_of n ys) v w (Stepped (Flush delay) now Flushed) had has
    (λ n low gone.
    let inside : n % start.shelves < start.shelves = mod-lt n some in
    let one = has_on 0 (n % start.shelves) ys [] (omega arith) (omega (arith, inside, all, same)) in
    let is : times (n % start.shelves) w ≡ total (holds_bay (n % start.shelves)) (stacked ys) = ap (total (holds_bay (n % start.shelves))) held in
    omega (arith, one, is))
    (λ m fits n low.
    let old = parts_held start m xs d all some (subst (AllFit start m) holds fits) in
    let was = counted m old n low in
    let is = parts_counted start divides (flushed delay m now) ys d' (parts m old) n in
    let less = fewer (λ key. number_of start.hash_of key == n) m.items (flushed delay m now).items (flushed_within delay now m) in
    omega (arith, was, is, less))

-- ---- all shelves are held, and the words are read

pub may_count_all : (start : Beginning) → 4096 / start.shelves * start.shelves ≡ 4096 → (p : Past) (xs : List ShelfState) (me : Mine)
    → me ≡ holds_all p xs → length xs ≡ start.shelves → (n : ℕ) → n < 4096 → MayCount start me.0 n
may_count_all start divides p xs me is all n low =
    let at : ℕ = n % start.shelves in
    let inside = number_inside start.shelves n divides in
    let one = has_on 0 at xs [] (omega arith) (omega (arith, inside, all)) in
    let same : times at me.0 ≡ total (holds_bay at) (stacked xs) = ap (λ (m : Mine). total (holds_bay at) m.0.bays) is in
    record { below = low; inside = inside; held = omega (arith, one, same); bare = ap (λ (m : Mine). m.0.surplus) is }

-- what they told is so of each state whose parts the shelves are
pub words_counted : (start : Beginning) (p : Past) (xs : List ShelfState) (d : DeskState) (me : Mine) (counts : List ℕ) → me ≡ holds_all p xs → AreKeyCounts start me.0 1 0 counts
    → (m : Plain) → ArePartsOf start.hash_of m xs start.shelves d → (n : ℕ) → n < 4096 → slice_index counts n ≡ keys_with start.hash_of n m.items
words_counted start p xs d me counts is keys m parts n low =
    let all = parts.number in
    let first : n % 1 < 1 = mod-lt n (omega arith) in
    keys.counted n low (omega (arith, first)) m (subst (AllFit start m) (sym (ap (λ (z : Mine). z.0.bays) is))
    (all_fit start m 0 xs [] (omega (arith, all))
    (λ at x e. let same : at ≡ 0 + at = omega arith in subst (λ k. IsShelfOf start.hash_of start.shelves m k x.content) same (parts.each at x e)) tt))

-- ---- one shelf is held, and the words of its numbers are read

pub may_count_one : (start : Beginning) → 4096 / start.shelves * start.shelves ≡ 4096 → (p : Past) (at : ℕ) (x : Content) (me : Mine)
    → me ≡ holds_one p at x → (n : ℕ) → n < 4096 → n % start.shelves ≡ at → MayCount start me.0 n
may_count_one start divides p at x me is n low own =
    let all : times (n % start.shelves) me.0 ≡ holds_bay (n % start.shelves) (at, x) + 0 = ap (λ (m : Mine). total (holds_bay (n % start.shelves)) m.0.bays) is in
    let one : holds_bay (n % start.shelves) (at, x) ≡ 1 = ap (λ b. holds_bay b (at, x)) own ∙ here at x in
    record { below = low; inside = number_inside start.shelves n divides; held = omega (arith, all, one); bare = ap (λ (m : Mine). m.0.surplus) is }

pub shelf_counted : (start : Beginning) → 4096 / start.shelves * start.shelves ≡ 4096 → (p : Past) (at : ℕ) (f : ShelfContent) (me : Mine) (counts : List ℕ)
    → me ≡ holds_one p at (OfShelf f) → Fitted start me.0 → AreKeyCounts start me.0 start.shelves at counts → AreCountsBy start.hash_of f counts
shelf_counted start divides p at f me counts is fitted keys =
    let m : Plain = after start start.plain fitted.log in
    let fit : AllFit start m ((at, OfShelf f) ∷ []) = subst (AllFit start m) (ap (λ (z : Mine). z.0.bays) is) fitted.fits in
    let part = fit.0.1 in
    record {
      many = keys.many;
      counted = λ n low. dite (ℕ_discrete (n % start.shelves) at)
          (λ own. keys.counted n low own m fitted.fits ∙ own_at start at (4096 / start.shelves) divides m f part n own)
          (λ other. keys.none n low other ∙ sym (off_shelf start at divides 0 f f m part n other));
    }
