-- Each atomic step keeps the rule.
use Rattle.mc_shared.proofs.Words.{◌≡◌, ◌≢◌, ◌==◌, ℕ, zero, suc, ◌+◌, ◌-◌, ◌%◌, ◌^◌, ◌≤◌, ◌<◌, cond, eq-eqb, ◌∙◌, None, Some, List, [], ◌∷◌, ◌++◌, length, drop, replicate, get_or, set, eqb}
use Rattle.mc_shared.proofs.Words.{sym, refl, ap, subst, inl, inr, ⊎_elim, arith, dite, ℕ_discrete, none, some, some-ne-none, get_elem?, either, get, Plain, Items, Answered, alive, changed}
use Rattle.mc_shared.proofs.Words.{plain, row_of, without_dead, Read, Miss, step, Allows, rest, at_set, set_here, Bay, Shelf, Desk, Content, content_of, place, total, Beginning}
use Rattle.mc_shared.proofs.Words.{HistoryEntry, Operation, Stepped, after, next, left_by, name_of, Lives, Whole, SeatView, FitsBay, AllFit, holds_bay, times, named, Stocked}
use Rattle.mc_shared.proofs.Words.{Present, Kept, Slot, Mine, holding, entry_of, without, decided_by, Agrees, took, gave, decided, added, counted, sought, Shows, MayAdd, Decides}
use Rattle.mc_shared.proofs.Words.{Counts, next_name, newcomer, met, number_of, keys_with, word_of, State, Act, keeps, takes, gives, carried_after, Valid, Splits, Joins, set_again}
use Rattle.mc_shared.proofs.Words.{exchanged, BelongsAt, called, lowered, maker, gone, Fitted}
use lib.Seq.{set-get_or}
use Rattle.mc_shared.proofs.Sums.{sum_one, total-append}
use Rattle.atomic_table.specs.Table.{Step, stepped}
use Rattle.mc_shared.proofs.StoryKept.{after_snoc, story_same, story_call, story_made, story_both}
use Rattle.mc_shared.proofs.NamedKept.{total_one, alone, kept_by, named_same, named_call, named_made, named_both}
use Rattle.mc_shared.proofs.StockedKept.{stocked_take, stocked_give, stocked_same, stocked_snoc, stocked_word, held_word, inside}
use Rattle.mc_shared.proofs.WordLemmas.{word_behind, word_inside}
use Rattle.mc_shared.proofs.PresentKept.{present_take, present_give, present_same, present_snoc, present_gone, present_counted, named_here, named_by_none}
use Rattle.mc_shared.proofs.NumberLemmas.{nothing_out, none_counted}
use Rattle.mc_shared.proofs.NumberSteps.{named_so, keys_alike, bare_names}

pub at_home : (began : Beginning) (m : Plain) (b : ℕ) (x : Bay) → FitsBay began m b (content_of x) → BelongsAt began.shelves b x
at_home began m b (Shelf f) h = h.0
at_home began m b (Desk n) h = h.0

-- a seat's past is kept, and what it holds fits
agrees : (began : Beginning) (s : State Slot SeatView) (k : Kept began s) (id : ℕ) (v : SeatView) → get_elem? s.views id ≡ some v → Agrees began v.past
agrees began s k id v at = record { log = k.log; legal = k.story.legal; keeps = kept_by began k.log s.views k.story k.named id v at }

fitted : (began : Beginning) (s : State Slot SeatView) (k : Kept began s) (id : ℕ) (v : SeatView) → get_elem? s.views id ≡ some v → Fitted began v
fitted began s k id v at =
    record { log = k.log; legal = k.story.legal; keeps = kept_by began k.log s.views k.story k.named id v at; limits = k.stocked.limits; fits = k.stocked.out id v at }

get_below : (views : List SeatView) (id : ℕ) (v : SeatView) → get_elem? views id ≡ some v → id < length views
get_below [] id v e = absurd (some-ne-none v (sym e))
get_below (x ∷ xs) zero v e = omega arith
get_below (x ∷ xs) (suc id) v e = let l = get_below xs id v e in omega (arith, l)

-- a word was read
still : (began : Beginning) (s : State Slot SeatView) (id i : ℕ) (v : SeatView) → get_elem? s.views id ≡ some v → Kept began s
    → Kept began record { words = set s.words i (get_or s.words i 0); homes = s.homes; views = set s.views id v }
still began s id i v at = subst (λ (z : List ℕ × List SeatView). Kept began record { words = z.0; homes = s.homes; views = z.1 })
    (λ j. (sym (set-get_or s.words i 0) j, sym (set_again s.views id v at) j))

-- where the past is whole, a bay that is taken is held by this seat
pub whole_holds : (began : Beginning) (s : State Slot SeatView) (k : Kept began s) (id : ℕ) (v : SeatView) → get_elem? s.views id ≡ some v → Whole v.past
    → (b : ℕ) → b < began.shelves + 1 → get_or s.words (place b) 0 ≢ 0 → 1 ≤ times b v
whole_holds began s k id v at whole b l busy = let t = k.stocked.taken b l in
    let mine : total (times b) s.views ≡ times b v = total_one (times b) s.views id v at (λ j u ne a. ⊎_elim
    (λ (lives : Lives u.past). absurd (alone began k.log s.views k.story k.named id v at whole (name_of u.past) j u ne a lives))
    (λ (none : u.bays ≡ []). ap (total (holds_bay b)) none) (k.named.idle j u a)) in omega (arith, t, mine, busy)

-- A bay is taken
pub takes_bay : (began : Beginning) (slots id b : ℕ) (me : Mine) → b < began.shelves + 1 → Lives me.0.past
    → Allows (Kept began) slots id me (place b) (λ n. either (eqb n 0) 1 n) (took began b (step slots (place b) 0 1 none) me)
takes_bay began slots id b me l lives s k deep at small = let n : ℕ = get_or s.words (place b) 0 in let v : SeatView = me.0 in
    let F : ℕ → Type 0 = λ y. (w : SeatView) × (a : Act Slot) × Valid s.homes me.1 a × Kept began (stepped s (place b) y id me.1 w a)
    × took began b (step slots (place b) 0 1 none) me n (w, carried_after me.1 a) in
    exchanged n 0 1 F
    (λ free. let was = k.stocked.home b l free in let x : Bay = was.0 in let w : SeatView = holding v b (content_of x) in let m : Plain = after began began.plain k.log in
    let kept : Kept began (stepped s (place b) 1 id me.1 w (takes (place b) (Some x))) = record {
      log = k.log;
      story = story_same began k.log s.views id v w k.story at refl;
      named = named_same k.log s.views id v w k.named at refl (inl lives);
      stocked = stocked_take began m s.words s.homes s.views id b v w (content_of x) k.stocked at l free refl was.2;
      present = present_take began m s.words s.views id b 1 v w k.present at l refl (λ c. omega arith);
    } in
    let fits = fitted began _ kept id w (set_here s.views id w (get_below s.views id v at)) in
    (w, takes (place b) (Some x), was.1, kept, ((λ _. (x, at_home began m b x was.2, refl, fits)), (λ ne. absurd (ne free)))))
    (λ busy. let low = k.stocked.low b l in let agreed = agrees began s k id v at in
    (v, keeps, tt, still began s id (place b) v at k, ((λ free. absurd (busy free)), (λ ne. (omega (arith, low, ne), refl, λ whole. whole_holds began s k id v at whole b l ne, agreed)))))

-- A bay is given back, and nothing is decided
pub gives_bay : (began : Beginning) (slots id b : ℕ) (x : Bay) (me : Mine) → me.0.bays ≡ (b, content_of x) ∷ rest me.0.bays → me.1 ≡ (place b, Some x) ∷ rest me.1 → me.0.surplus ≡ []
    → Allows (Kept began) slots id me (place b) (λ _. 0) (λ _. gave began (step slots (place b) 0 0 none) me 0)
gives_bay began slots id b x me is out bare s k deep at small = let v : SeatView = me.0 in let m : Plain = after began began.plain k.log in let w : SeatView = (without me).0 in
    let fits : AllFit began m ((b, content_of x) ∷ rest v.bays) = subst (AllFit began m) is (k.stocked.out id v at) in
    let kept : Kept began record { words = set s.words (place b) 0; homes = set s.homes (place b) (some (Some x)); views = set s.views id w } = record {
      log = k.log;
      story = story_same began k.log s.views id v w k.story at refl;
      named = named_same k.log s.views id v w k.named at refl (⊎_elim (λ (h : Lives v.past). inl h) (λ (none : v.bays ≡ []). inr (ap rest none)) (k.named.idle id v at));
      stocked = stocked_give began m m s.words s.homes s.views id b v w (content_of x) x (rest v.bays) k.stocked at is (λ c. refl) fits.0 fits.1 (λ c y _ f. f) k.stocked.limits;
      present = present_give began m m s.words s.views id b 0 v w k.present at (inside began m b (content_of x) fits.0) (λ n low. refl)
          (λ word has. absurd (let z = bare_names w word bare in omega (arith, z, has)));
    } in
    (w, gives, tt, subst (λ (z : List (ℕ × Slot)). Kept began (stepped s (place b) 0 id z w gives)) (sym out) kept, (refl, fitted began s k id v at))

-- A bay is given back, and a step is decided
pub decides_bay : (began : Beginning) (slots id b : ℕ) (x : Content) (y : Bay) (d : Operation) (still : List (ℕ × Content)) (surplus : List ℕ) (me : Mine)
    → me.0.bays ≡ (b, x) ∷ rest me.0.bays → me.1 ≡ (place b, Some y) ∷ rest me.1 → Decides began me.0.bays b (content_of y) d still
    → Counts began me.0 d (decided_by me d still surplus).0 → Lives me.0.past
    → Allows (Kept began) slots id me (place b) (λ n. either (eqb n 1) 0 n) (decided began d still surplus (step slots (place b) 1 0 none) me)
decides_bay began slots id b x y d still surplus me is out right counts lives s k deep at small = let v : SeatView = me.0 in let m : Plain =
    after began began.plain k.log in let m' : Plain = next began m d in
    let w : SeatView = (decided_by me d still surplus).0 in let e : HistoryEntry = entry_of v.past d in let n : ℕ = get_or s.words (place b) 0 in
    let fits : AllFit began m v.bays = k.stocked.out id v at in
    let one : n ≡ 1 = held_word began m s.words s.homes s.views id b v x (rest v.bays) k.stocked at is in
    let F : ℕ → Type 0 = λ z. (w : SeatView) × (a : Act Slot) × Valid s.homes me.1 a × Kept began (stepped s (place b) z id me.1 w a)
    × decided began d still surplus (step slots (place b) 1 0 none) me n (w, carried_after me.1 a) in
    exchanged n 1 0 F (λ _. let now : State Slot SeatView = record { words = set s.words (place b) 0; homes = set s.homes (place b) (some (Some y)); views = set s.views id w } in
    let kept : Kept began now = record {
      log = k.log ++ e ∷ [];
      story = story_call began k.log s.views id v w e k.story at refl (right.right m fits);
      named = named_call began k.log s.views id v w d k.story k.named at refl lives;
      stocked = subst (λ (z : Plain). Stocked began z now.words now.homes now.views) (sym (after_snoc began began.plain k.log e))
          (stocked_give began m m' s.words s.homes s.views id b v w x y (rest v.bays) k.stocked at is right.places (right.given m fits) (right.kept m fits)
          (right.others m fits) (right.limits m fits k.stocked.limits));
      present = subst (λ (z : Plain). Present began z now.words now.views) (sym (after_snoc began began.plain k.log e))
          (present_give began m m' s.words s.views id b 0 v w k.present at (inside began m' b (content_of y) (right.given m fits)) (counts.weighs m fits) counts.owned);
    } in
    let there = set_here s.views id w (get_below s.views id v at) in
    (w, gives, tt, subst (λ (z : List (ℕ × Slot)). Kept began (stepped s (place b) 0 id z w gives)) (sym out) kept, (refl, agrees began now kept id w there, fitted began now kept id w there)))
    (λ ne. absurd (ne one))

-- A seat is split
pub splits_seat : (began : Beginning) (id : ℕ) (v : SeatView) → Lives v.past → Splits (Kept began) id v (maker v) (newcomer v)
splits_seat began id v lives s k at = let w : SeatView = maker v in let u : SeatView = newcomer v in record {
  log = k.log;
  story = story_made began k.log s.views id v w u (next_name v.past) k.story at refl refl;
  named = named_made began k.log s.views id v w u k.story k.named at refl refl lives refl;
  stocked = stocked_snoc began (after began began.plain k.log) s.words s.homes (set s.views id w) u
      (stocked_same began (after began began.plain k.log) s.words s.homes s.views id v w k.stocked at refl) refl;
  present = present_snoc began (after began began.plain k.log) s.words (set s.views id w) u (present_same began (after began began.plain k.log) s.words s.views id v w k.present at refl refl) refl;
}

-- Two seats meet, and the second holds no bay
pub joins_seats : (began : Beginning) (id other : ℕ) (v o : SeatView) → o.bays ≡ [] → Joins (Kept began) id v other o (met v o) gone
joins_seats began id other v o bare s k at ne far = let w : SeatView = met v o in let u : SeatView = gone in
    let far' : get_elem? s.views other ≡ some o =
    ⊎_elim (λ (t : (other ≡ id) × (w ≡ o)). absurd (ne t.0)) (λ (t : (other ≢ id) × (get_elem? s.views other ≡ some o)). t.1) (at_set s.views id other w o far) in record {
      log = k.log;
      story = story_both began k.log s.views id other v w o u k.story at far far' refl refl;
      named = named_both k.log s.views id other v w o u k.named at far far' refl refl refl refl;
      stocked = stocked_same began (after began began.plain k.log) s.words s.homes (set s.views id w) other o u
          (stocked_same began (after began began.plain k.log) s.words s.homes s.views id v w k.stocked at refl) far (sym bare);
      present = present_gone began (after began began.plain k.log) s.words (set s.views id w) other o u
          (present_same began (after began began.plain k.log) s.words s.views id v w k.present at refl refl) far bare refl;
    }

-- nothing changed
abbrev pub reloaded : Beginning → Step Slot → Mine → ℕ → Mine → Type 0
reloaded began st m n m' = (m' ≡ m) × Agrees began m.0.past

-- a load that changes nothing, and tells that a history keeps the past
pub reloads : (began : Beginning) (slots id b : ℕ) (me : Mine) → Allows (Kept began) slots id me b (λ n. n) (reloaded began (step slots b 0 0 none) me)
reloads began slots id b me s k deep at small = (me.0, keeps, tt, still began s id b me.0 at k, (refl, agrees began s k id me.0 at))

-- ---- the words of numbers

-- Of a key that isn't there a read tells a miss, and leaves the state
misses : (m : Plain) (key : List ℕ) (now : ℕ) → get m.items key ≡ None → plain m (Read key) now ≡ Answered Miss m
misses m key now is =
    ap (λ item. changed (row_of (Read key) now item) (Read key) item (without_dead item key m) now) (ap (alive m.cut now) is)
    ∙ ap (λ (items : Items). Answered Miss (record m { items = items })) (nothing_out m.items key is)

-- a word changes with what the seat names
word_moves : (began : Beginning) (s : State Slot SeatView) (id n j c d : ℕ) (v : SeatView) (surplus : List ℕ) → Kept began s → get_elem? s.views id ≡ some v → n < 4096
    → replicate j (word_of began.shelves n) ++ surplus ≡ replicate c (word_of began.shelves n) ++ v.surplus
    → (1 ≤ c → 1 ≤ times (n % began.shelves) v) → get_or s.words (word_of began.shelves n) 0 + c ≡ d + j
    → Kept began record { words = set s.words (word_of began.shelves n) d; homes = s.homes; views = set s.views id (record v { surplus = surplus }) }
word_moves began s id n j c d v surplus k at low same holds is = let m : Plain = after began began.plain k.log in let w : SeatView = record v { surplus = surplus } in record {
  log = k.log;
  story = story_same began k.log s.views id v w k.story at refl;
  named = named_same k.log s.views id v w k.named at refl (k.named.idle id v at);
  stocked = stocked_word began m (set s.views id w) s.homes s.words (word_of began.shelves n) d (word_behind began.shelves n)
      (stocked_same began m s.words s.homes s.views id v w k.stocked at refl);
  present = present_counted began m s.words s.views id n j c d v w k.present at low
      (let wide = k.stocked.wide in let inside = word_inside began.shelves n k.present.divides low in omega (arith, wide, inside)) refl same holds is;
}

-- one is added to a word
pub adds_one : (began : Beginning) (slots id n : ℕ) (me : Mine) → MayAdd began me.0 n
    → Allows (Kept began) slots id me (word_of began.shelves n) (λ k. (k + 1) % 2 ^ 64) (added (step slots (word_of began.shelves n) 1 0 none) me)
adds_one began slots id n me may s k deep at small = let v : SeatView = me.0 in let m : Plain = after began began.plain k.log in let word : ℕ =
    word_of began.shelves n in let c : ℕ = get_or s.words word 0 in
    let w : SeatView = record v { surplus = word ∷ v.surplus } in
    let own = may.own in
    let counts = k.present.counts n own.below in
    let few = may.few m (k.stocked.out id v at) in
    let here : total (named word) s.views ≡ named word v = named_here began m s.words s.homes s.views id v n k.present k.stocked at own.below own.inside own.held in
    let bare : named word v ≡ 0 = bare_names v word own.bare in
    let more : c + 1 ≡ (c + 1) % 18446744073709551616 = omega (arith, counts, few, here, bare) in
    let kept = word_moves began s id n 0 1 (c + 1) v w.surplus k at own.below refl (λ _. own.held) (omega arith) in
    (w, keeps, tt, subst (λ (z : ℕ). Kept began (stepped s word z id me.1 w keeps)) more kept, refl)

-- so many are taken from the word that is named first as often
drop_front : (k word : ℕ) (more : List ℕ) → drop k (replicate k word ++ more) ≡ more
drop_front zero word more = refl
drop_front (suc k) word more = drop_front k word more

pub takes_many : (began : Beginning) (slots id word k : ℕ) (more : List ℕ) (me : Mine) → 0 < k → me.0.surplus ≡ replicate k word ++ more
    → Allows (Kept began) slots id me word (λ n. (n + (2 ^ 64 - k)) % 2 ^ 64) (lowered (step slots word k 0 none) me)
takes_many began slots id word k more me positive is s kept deep at small = let v : SeatView = me.0 in let m : Plain = after began began.plain kept.log in let c : ℕ = get_or s.words word 0 in
    let w : SeatView = record v { surplus = drop k v.surplus } in
    let mine : named word v ≡ k + total (λ x. cond (eqb word x) 1 0) more = ap (total (λ x. cond (eqb word x) 1 0)) is
    ∙ (total-append (λ x. cond (eqb word x) 1 0) (replicate k word) more ∙ ap (λ (j : ℕ). j + total (λ x. cond (eqb word x) 1 0) more) (named_so word k)) in
    let own = kept.present.owned id v word at (omega (arith, mine, positive)) in
    let n : ℕ = own.number in let is_word : word ≡ word_of began.shelves n = own.is in
    let less : v.surplus ≡ replicate k (word_of began.shelves n) ++ drop k v.surplus =
    is ∙ (λ i. replicate k (is_word i) ++ (sym (drop_front k word more) ∙ ap (drop k) (sym is)) i) in
    let counts : c ≡ keys_with began.hash_of n m.items + total (named word) s.views =
    subst (λ (x : ℕ). get_or s.words x 0 ≡ keys_with began.hash_of n m.items + total (named x) s.views) (sym is_word) (kept.present.counts n own.below) in
    let all = sum_one (named word) s.views id v at in
    let same : get_or s.words (word_of began.shelves n) 0 ≡ c = ap (λ (x : ℕ). get_or s.words x 0) (sym is_word) in
    let fits : c < 18446744073709551616 = small in
    let there : k ≤ c = omega (arith, counts, mine, all) in
    let fewer : c - k ≡ (c + (18446744073709551616 - k)) % 18446744073709551616 = omega (arith, fits, there, positive) in
    let moved = subst (λ (x : ℕ). Kept began record { words = set s.words x (c - k); homes = s.homes; views = set s.views id w }) (sym is_word)
    (word_moves began s id n k 0 (c - k) v w.surplus kept at own.below (sym less) (λ more. absurd (omega (arith, more))) (omega (arith, same, there))) in
    (w, keeps, tt, subst (λ (z : ℕ). Kept began (stepped s word z id me.1 w keeps)) fewer moved, refl)

-- the word of a number whose shelf is held is read
pub counts_keys : (began : Beginning) (slots id word : ℕ) (me : Mine) → Allows (Kept began) slots id me word (λ k. k) (counted began (step slots word 0 0 none) me)
counts_keys began slots id word me s k deep at small = let v : SeatView = me.0 in let m : Plain = after began began.plain k.log in (
  v,
  keeps,
  tt,
  still began s id word v at k,
  (
    refl,
    λ n is may other fits.
        let of : ℕ = word_of began.shelves n in
        let same : get_or s.words word 0 ≡ get_or s.words of 0 = ap (λ (x : ℕ). get_or s.words x 0) is in
        let counts : get_or s.words of 0 ≡ keys_with began.hash_of n m.items + total (named of) s.views = k.present.counts n may.below in
        let here : total (named of) s.views ≡ named of v = named_here began m s.words s.homes s.views id v n k.present k.stocked at may.below may.inside may.held in
        let bare : named of v ≡ 0 = bare_names v of may.bare in
        let has : get_or s.words word 0 ≡ keys_with began.hash_of n m.items = omega (arith, same, counts, here, bare) in
        has ∙ keys_alike began k.present.divides n may.inside m other v.bays may.held (k.stocked.out id v at) fits,
  ),
)

-- a key is sought by its number's word
pub seeks : (began : Beginning) (slots id : ℕ) (key : List ℕ) (now n : ℕ) (me : Mine) → n < 4096 → number_of began.hash_of key ≡ n → Lives me.0.past
    → Allows (Kept began) slots id me (word_of began.shelves n) (λ k. k) (sought began key now n (step slots (word_of began.shelves n) 0 0 none) me)
seeks began slots id key now n me low is lives s k deep at small = let v : SeatView = me.0 in let m : Plain = after began began.plain k.log in let word : ℕ =
    word_of began.shelves n in let c : ℕ = get_or s.words word 0 in
    let counts : c ≡ keys_with began.hash_of n m.items + total (named word) s.views = k.present.counts n low in
    let shows : Shows began v n c = record {
      log = k.log;
      legal = k.story.legal;
      keeps = kept_by began k.log s.views k.story k.named id v at;
      gone = λ z. omega (arith, counts, z);
      zero = λ whole bare none_has. (let none_named = named_by_none began k.log m s.words s.views id v word k.story k.named k.present at whole bare in omega (arith, counts, none_named, none_has));
    } in
    dite (ℕ_discrete c 0)
    (λ zero. let d : Operation = Stepped (Read key) now Miss in let e : HistoryEntry = entry_of v.past d in let w : SeatView = (called me d).0 in
    let gone : get m.items key ≡ None = none_counted (λ q. number_of began.hash_of q == n) m.items (omega (arith, counts, zero)) key (eq-eqb (number_of began.hash_of key) n is) in
    let miss : plain m (Read key) now ≡ Answered Miss m = misses m key now gone in
    let stays : next began m d ≡ m = ap (left_by m) miss in
    let then : after began began.plain (k.log ++ e ∷ []) ≡ m = after_snoc began began.plain k.log e ∙ stays in
    let kept : Kept began record { words = s.words; homes = s.homes; views = set s.views id w } = record {
      log = k.log ++ e ∷ [];
      story = story_call began k.log s.views id v w e k.story at refl (m, miss);
      named = named_call began k.log s.views id v w d k.story k.named at refl lives;
      stocked = subst (λ (z : Plain). Stocked began z s.words s.homes (set s.views id w)) (sym then) (stocked_same began m s.words s.homes s.views id v w k.stocked at refl);
      present = subst (λ (z : Plain). Present began z s.words (set s.views id w)) (sym then) (present_same began m s.words s.views id v w k.present at refl refl);
    } in
    let agreed = agrees began _ kept id w (set_here s.views id w (get_below s.views id v at)) in (
      w,
      keeps,
      tt,
      subst (λ (z : List ℕ). Kept began record { words = z; homes = s.homes; views = set s.views id w }) (sym (set-get_or s.words word 0)) kept,
      ((λ _. (refl, agreed)), (λ some_has. absurd (some_has zero)), shows),
    ))
    (λ some_has. (v, keeps, tt, still began s id word v at k, ((λ zero. absurd (some_has zero)), (λ _. refl), shows)))
