-- What a budget counts.
use Rattle.std.specs.Prelude.{◌&&◌, ◌||◌, not, swap, IsPermutation}
use Rattle.std.specs.List.{sum_by}
use Rattle.std.proofs.Common.{◌≡◌, ◌⊎◌, inl, inr, ℕ, ◌+◌, ◌-◌, ◌*◌, ◌<◌, ◌≤◌, Bool, true, false, List, [], ◌∷◌, ◌++◌, length, take, drop, get_or, refl, sym, ap, ◌∙◌}
use Rattle.std.proofs.Common.{subst, arith, IsTrue, IsFalse, length-append}
use Rattle.std.proofs.Math.ListN.{set}
use Rattle.std.proofs.Math.Nat.{min-eq_left}
use Rattle.std.proofs.lemmas.List.{take-append-drop, length-set}
use Rattle.std.proofs.lemmas.List.Sums.{sum_by-le, sum_by-set, sum_by_more_le, sum_by_push, sum_by-take-drop}
use Rattle.std.proofs.lemmas.List.Sorted.{sum_by-IsPermutation, IsPermutation-swap}
use Rattle.mc_guests.specs.Asks.{little, most}
use Rattle.mc_guests.specs.Guests.{GuestState, RowGuest, newcomer}
use Rattle.mc_guests.specs.Budgets.{plus, one_if, is_large, uncounted, rest_of, with_left, CountsLeft, Recounts, RecountsAll, AreSums, CountsAll, held_by, waiting_of, large_of, left_by, fits, is_kept_for_one, IsHeldBack}
use Rattle.mc_guests.specs.declared.budget.Budget.{Budget}

pub at_most_one : (test : Bool) → one_if test ≤ 1
at_most_one true = omega arith
at_most_one false = omega arith

-- a count loses what was counted, and gains what is counted now
goes_over : (others lost gained before mid after : ℕ) → gained ≤ 1 → others < most → mid ≡ before - lost → after ≡ plus mid gained → before ≡ others + lost → after ≡ others + gained
goes_over others lost gained before mid after one few out puts is =
    let gone : mid ≡ others = omega (arith, out, is) in
    let fits : mid + gained ≤ most = omega (arith, gone, one, few) in
    let put : after ≡ mid + gained = puts ∙ min-eq_left fits in
    omega (arith, gone, put)

-- one that isn't counted any more is counted anew
pub recounts : (old new : RowGuest) (before mid after : Budget) → mid ≡ uncounted old.counted old.waits before → after.held ≡ mid.held + new.counted
    → after.waiting ≡ plus mid.waiting (one_if new.waits) → after.large ≡ plus mid.large (one_if (is_large new.counted new.waits)) → rest_of after ≡ rest_of mid
    → new.left ≡ old.left → after.left ≡ mid.left → Recounts old new before after
recounts old new before mid after out held waiting large rest same stays = record {
  held = λ others is. (let gone : mid.held ≡ before.held - old.counted = ap (λ (b : Budget). b.held) out in omega (arith, gone, is, held));
  waiting = λ others few is. goes_over others (one_if old.waits) (one_if new.waits) before.waiting mid.waiting after.waiting (at_most_one new.waits) few
      (ap (λ (b : Budget). b.waiting) out) waiting is;
  large = λ others few is. goes_over others (one_if (is_large old.counted old.waits)) (one_if (is_large new.counted new.waits)) before.large mid.large after.large
      (at_most_one (is_large new.counted new.waits)) few (ap (λ (b : Budget). b.large) out) large is;
  left = λ others is. stays ∙ ap (λ (b : Budget). b.left) out ∙ is ∙ ap (λ (n : ℕ). others + n) (sym same);
  rest = rest ∙ ap rest_of out;
}

-- one that is counted as it was
pub recounts_none : (old new : RowGuest) (before after : Budget) → new.counted ≡ old.counted → new.waits ≡ old.waits → new.left ≡ old.left → after ≡ before
    → Recounts old new before after
recounts_none old new before after bytes waits lefts same = record {
  held = λ others is. ap (λ (b : Budget). b.held) same ∙ is ∙ ap (λ (n : ℕ). others + n) (sym bytes);
  waiting = λ others few is. ap (λ (b : Budget). b.waiting) same ∙ is ∙ ap (λ (w : Bool). others + one_if w) (sym waits);
  large = λ others few is. ap (λ (b : Budget). b.large) same ∙ is ∙ (λ i. others + one_if (is_large (sym bytes i) (sym waits i)));
  left = λ others is. ap (λ (b : Budget). b.left) same ∙ is ∙ ap (λ (n : ℕ). others + n) (sym lefts);
  rest = ap rest_of same;
}

-- one that is counted as it was, but for what it reads that has left
pub recounts_left : (old new : RowGuest) (before after : Budget) → new.counted ≡ old.counted → new.waits ≡ old.waits → CountsLeft old.left new.left before after
    → Recounts old new before after
recounts_left old new before after bytes waits counts = record {
  held = λ others is. ap (λ (b : Budget). b.held) counts.rest ∙ is ∙ ap (λ (n : ℕ). others + n) (sym bytes);
  waiting = λ others few is. ap (λ (b : Budget). b.waiting) counts.rest ∙ is ∙ ap (λ (w : Bool). others + one_if w) (sym waits);
  large = λ others few is. ap (λ (b : Budget). b.large) counts.rest ∙ is ∙ (λ i. others + one_if (is_large (sym bytes i) (sym waits i)));
  left = counts.sum;
  rest = ap rest_of counts.rest;
}

-- what has left is counted as before, or anew
pub counts_left_none : (was left : ℕ) (budget : Budget) → left ≡ was → CountsLeft was left budget budget
counts_left_none was left budget same = record { sum = λ others is. is ∙ ap (λ (n : ℕ). others + n) (sym same); rest = refl }

pub counts_left_anew : (was left : ℕ) (before after : Budget) → after ≡ with_left (before.left - was + left) before → CountsLeft was left before after
counts_left_anew was left before after same =
    let put : after.left ≡ before.left - was + left = ap (λ (b : Budget). b.left) same in record {
      sum = λ others is. omega (arith, put, is);
      rest = same ∙ ap (λ (n : ℕ). with_left n before) (sym put);
    }

-- one that is counted anew, and then once more
pub recounts_again : (old mid again new : RowGuest) (before between after : Budget) → again.counted ≡ mid.counted → again.waits ≡ mid.waits → again.left ≡ mid.left
    → Recounts old mid before between → Recounts again new between after → Recounts old new before after
recounts_again old mid again new before between after bytes waits lefts first second = record {
  held = λ others is. second.held others (first.held others is ∙ ap (λ (n : ℕ). others + n) (sym bytes));
  waiting = λ others few is. second.waiting others few (first.waiting others few is ∙ ap (λ (w : Bool). others + one_if w) (sym waits));
  large = λ others few is. second.large others few (first.large others few is ∙ (λ i. others + one_if (is_large (sym bytes i) (sym waits i))));
  left = λ others is. second.left others (first.left others is ∙ ap (λ (n : ℕ). others + n) (sym lefts));
  rest = second.rest ∙ first.rest;
}

-- one that isn't tried again finds no room where others wait for the oldest, or where so much isn't left
closed_or_full : (tried kept left : Bool) → ((tried || not kept) && left) ≡ false → IsTrue kept ⊎ IsFalse left
closed_or_full tried kept false is = inr refl
closed_or_full true kept true is = absurd (cc)
closed_or_full false true true is = inl refl
closed_or_full false false true is = absurd (cc)

pub lacks_room : (guest : GuestState) (wanted : ℕ) (budget : Budget) (tried kept left : Bool) → little < wanted → wanted ≤ most
    → kept ≡ is_kept_for_one budget → left ≡ fits wanted budget → ((tried || not kept) && left) ≡ false → IsHeldBack guest budget
lacks_room guest wanted budget tried kept left much number waits room is = inr (record {
  wanted = wanted;
  much = much;
  number = number;
  full = elim (closed_or_full tried kept left is) [ inl closed ↦ inl (sym waits ∙ closed) | inr full ↦ inr (sym room ∙ full) ];
})

-- a guest is held back beside the others as they are counted
pub held_beside : (guest later : GuestState) (counted bytes : ℕ) (waits waited : Bool) (budget others : Budget) → later ≡ guest → counted ≡ bytes → waits ≡ waited
    → others ≡ uncounted counted waits budget → IsHeldBack guest others → IsHeldBack later (uncounted bytes waited budget)
held_beside guest later counted bytes waits waited budget others same is so out held =
    let beside : others ≡ uncounted bytes waited budget = out ∙ ap (λ (n : ℕ). uncounted n waits budget) is ∙ ap (λ (w : Bool). uncounted bytes w budget) so in
    subst (λ (b : Budget). IsHeldBack later b) beside (subst (λ (g : GuestState). IsHeldBack g others) (sym same) held)

-- what goes over of one goes over of all
counts_over : (others sum later lost gained before after : ℕ) → lost ≤ sum → later + lost ≡ sum + gained → before ≡ others + sum
    → ((beside : ℕ) → before ≡ beside + lost → after ≡ beside + gained) → after ≡ others + later
counts_over others sum later lost gained before after within set is goes =
    let put : after ≡ others + (sum - lost) + gained = goes (others + (sum - lost)) (omega (arith, within, is)) in omega (arith, within, set, put)

-- the same of a count that doesn't go beyond the greatest number
few_over : (others sum later lost gained before after all : ℕ) → lost ≤ sum → sum - lost < all → others + all ≤ most → later + lost ≡ sum + gained → before ≡ others + sum
    → ((beside : ℕ) → beside < most → before ≡ beside + lost → after ≡ beside + gained) → after ≡ others + later
few_over others sum later lost gained before after all within few fits set is goes =
    counts_over others sum later lost gained before after within set is
    (λ beside at. goes beside (omega (arith, within, few, fits, is, at)) at)

-- a guest of a list, which is counted
module _ (f : RowGuest → ℕ) (guests : List RowGuest) (at : ℕ) (old : RowGuest) (inside : at < length guests) (is : old ≡ get_or guests at old) where
  is_counted : f old ≤ sum_by f guests
  is_counted =
      let some : sum_by f (take at guests) + f (get_or guests at old) ≤ sum_by f guests = sum_by_more_le f guests at old inside in
      let same : f (get_or guests at old) ≡ f old = ap f (sym is) in
      omega (arith, some, same)

  is_recounted : (new : RowGuest) → sum_by f (set guests at new) + f old ≡ sum_by f guests + f new
  is_recounted new =
      let all : sum_by f (set guests at new) + f (get_or guests at old) ≡ sum_by f guests + f new = sum_by-set f guests at new old inside in
      let same : f (get_or guests at old) ≡ f old = ap f (sym is) in
      omega (arith, all, same)

  -- each of the others counts as one at most
  others_few : ((guest : RowGuest) → f guest ≤ 1) → (full : RowGuest) → f full ≡ 1 → sum_by f guests - f old < length guests
  others_few small full one =
      let all : sum_by f (set guests at full) + f old ≡ sum_by f guests + f full = is_recounted full in
      let few : sum_by f (set guests at full) ≤ length (set guests at full) * 1 = sum_by-le f 1 (set guests at full) (λ k d _. small (get_or (set guests at full) k d)) in
      let long : length (set guests at full) ≡ length guests = length-set guests at full in
      omega (arith, all, few, long, one)

abbrev bytes_of : RowGuest → ℕ
bytes_of guest = guest.counted

abbrev waits_as : RowGuest → ℕ
waits_as guest = one_if guest.waits

abbrev large_as : RowGuest → ℕ
large_as guest = one_if (is_large guest.counted guest.waits)

abbrev left_as : RowGuest → ℕ
left_as guest = guest.left

-- guests are counted as they were
pub recounts_nobody : (guests : List RowGuest) (budget : Budget) → RecountsAll guests guests budget budget
recounts_nobody guests budget = record { held = λ others is. is; waiting = λ others few is. is; large = λ others few is. is; left = λ others is. is; rest = refl }

-- one guest more is counted anew
pub recounts_more : (olds mids : List RowGuest) (at : ℕ) (old new : RowGuest) (first before after : Budget) → length mids ≡ length olds → at < length mids → old ≡ get_or mids at old
    → RecountsAll olds mids first before → Recounts old new before after → RecountsAll olds (set mids at new) first after
recounts_more olds mids at old new first before after long inside is all one = record {
  held = λ others counts. counts_over others (held_by mids) (held_by (set mids at new)) old.counted new.counted before.held after.held
      (is_counted bytes_of mids at old inside is) (is_recounted bytes_of mids at old inside is new) (all.held others counts) one.held;
  waiting = λ others few counts. few_over others (waiting_of mids) (waiting_of (set mids at new)) (waits_as old) (waits_as new) before.waiting after.waiting (length mids)
      (is_counted waits_as mids at old inside is) (others_few waits_as mids at old inside is (λ guest. at_most_one guest.waits) (record old { waits = true }) refl)
      (omega (arith, few, long)) (is_recounted waits_as mids at old inside is new) (all.waiting others few counts) one.waiting;
  large = λ others few counts. few_over others (large_of mids) (large_of (set mids at new)) (large_as old) (large_as new) before.large after.large (length mids)
      (is_counted large_as mids at old inside is)
      (others_few large_as mids at old inside is (λ guest. at_most_one (is_large guest.counted guest.waits)) (record old { waits = false; counted = 16385 }) refl)
      (omega (arith, few, long)) (is_recounted large_as mids at old inside is new) (all.large others few counts) one.large;
  left = λ others counts. counts_over others (left_by mids) (left_by (set mids at new)) old.left new.left before.left after.left
      (is_counted left_as mids at old inside is) (is_recounted left_as mids at old inside is new) (all.left others counts) one.left;
  rest = one.rest ∙ all.rest;
}

-- what is counted of a list is counted of its front and of its rest
module _ (f : RowGuest → ℕ) (count : ℕ) (olds news : List RowGuest) (stays : drop count news ≡ drop count olds) where
  front_over : (before after : ℕ) → before ≡ sum_by f olds
      → ((others : ℕ) → others ≡ sum_by f (drop count olds) → before ≡ others + sum_by f (take count olds) → after ≡ others + sum_by f (take count news))
      → after ≡ sum_by f news
  front_over before after is goes =
      let old : sum_by f (take count olds) + sum_by f (drop count olds) ≡ sum_by f olds = sum_by-take-drop f olds count in
      let new : sum_by f (take count news) + sum_by f (drop count news) ≡ sum_by f news = sum_by-take-drop f news count in
      let same : sum_by f (drop count news) ≡ sum_by f (drop count olds) = ap (sum_by f) stays in
      let put : after ≡ sum_by f (drop count olds) + sum_by f (take count news) = goes (sum_by f (drop count olds)) refl (omega (arith, is, old)) in
      omega (arith, put, new, same)

  -- as many as there are
  front_fits : ((guest : RowGuest) → f guest ≤ 1) → length olds ≤ most → sum_by f (drop count olds) + length (take count olds) ≤ most
  front_fits small fits =
      let few : sum_by f (drop count olds) ≤ length (drop count olds) * 1 = sum_by-le f 1 (drop count olds) (λ k d _. small (get_or (drop count olds) k d)) in
      let all : length (take count olds) + length (drop count olds) ≡ length olds = sym (length-append (take count olds) (drop count olds)) ∙ ap length (take-append-drop count olds) in
      omega (arith, few, all, fits)

-- the first guests of a row were counted anew, and the others stay
pub counts_front : (count : ℕ) (olds news : List RowGuest) (before after : Budget) → length olds ≤ most → drop count news ≡ drop count olds
    → RecountsAll (take count olds) (take count news) before after → CountsAll before olds → CountsAll after news
counts_front count olds news before after fits stays all counts = record {
  bytes = front_over bytes_of count olds news stays before.held after.held counts.bytes (λ others _ is. all.held others is);
  waits = front_over waits_as count olds news stays before.waiting after.waiting counts.waits (λ others rest is.
      all.waiting others (let fit = front_fits waits_as count olds news stays (λ guest. at_most_one guest.waits) fits in omega (arith, rest, fit)) is);
  larges = front_over large_as count olds news stays before.large after.large counts.larges (λ others rest is.
      all.large others (let fit = front_fits large_as count olds news stays (λ guest. at_most_one (is_large guest.counted guest.waits)) fits in omega (arith, rest, fit)) is);
  lefts = front_over left_as count olds news stays before.left after.left counts.lefts (λ others _ is. all.left others is);
}

-- the last guest of a list is uncounted
pub counts_popped : (guests : List RowGuest) (last : RowGuest) (before after : Budget) → after.held ≡ before.held - last.counted
    → after.waiting ≡ before.waiting - one_if last.waits → after.large ≡ before.large - one_if (is_large last.counted last.waits) → after.left ≡ before.left - last.left
    → CountsAll before (guests ++ last ∷ []) → CountsAll after guests
counts_popped guests last before after held waiting large left counts = record {
  bytes = let all : held_by (guests ++ last ∷ []) ≡ held_by guests + last.counted = sum_by_push bytes_of guests last in omega (arith, held, all, counts.bytes);
  waits = let all : waiting_of (guests ++ last ∷ []) ≡ waiting_of guests + waits_as last = sum_by_push waits_as guests last in omega (arith, waiting, all, counts.waits);
  larges = let all : large_of (guests ++ last ∷ []) ≡ large_of guests + large_as last = sum_by_push large_as guests last in omega (arith, large, all, counts.larges);
  lefts = let all : left_by (guests ++ last ∷ []) ≡ left_by guests + left_as last = sum_by_push left_as guests last in omega (arith, left, all, counts.lefts);
}

-- one that comes isn't counted yet
pub counts_come : (guests : List RowGuest) (guest : GuestState) (held waiting large left : ℕ) → AreSums held waiting large left guests
    → AreSums held waiting large left (guests ++ newcomer guest ∷ [])
counts_come guests guest held waiting large left counts = record {
  bytes = let all : held_by (guests ++ newcomer guest ∷ []) ≡ held_by guests + 0 = sum_by_push bytes_of guests (newcomer guest) in omega (arith, all, counts.bytes);
  waits = let all : waiting_of (guests ++ newcomer guest ∷ []) ≡ waiting_of guests + 0 = sum_by_push waits_as guests (newcomer guest) in omega (arith, all, counts.waits);
  larges = let all : large_of (guests ++ newcomer guest ∷ []) ≡ large_of guests + 0 = sum_by_push large_as guests (newcomer guest) in omega (arith, all, counts.larges);
  lefts = let all : left_by (guests ++ newcomer guest ∷ []) ≡ left_by guests + 0 = sum_by_push left_as guests (newcomer guest) in omega (arith, all, counts.lefts);
}

-- two that change places are counted as before
pub counts_swapped : (guests : List RowGuest) (one other held waiting large left : ℕ) → one < length guests → other < length guests
    → AreSums held waiting large left guests → AreSums held waiting large left (swap guests one other)
counts_swapped guests one other held waiting large left first second counts =
    let shuffled : IsPermutation guests (swap guests one other) = IsPermutation-swap guests (swap guests one other) one other first second refl in record {
      bytes = counts.bytes ∙ sym (sum_by-IsPermutation bytes_of guests (swap guests one other) shuffled);
      waits = counts.waits ∙ sym (sum_by-IsPermutation waits_as guests (swap guests one other) shuffled);
      larges = counts.larges ∙ sym (sum_by-IsPermutation large_as guests (swap guests one other) shuffled);
      lefts = counts.lefts ∙ sym (sum_by-IsPermutation left_as guests (swap guests one other) shuffled);
    }
