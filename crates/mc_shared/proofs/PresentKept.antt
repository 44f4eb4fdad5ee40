-- What keeps the presence words in step with the keys.
use Rattle.mc_shared.proofs.Words.{◌≡◌, ◌≢◌, ℕ, ◌+◌, ◌%◌, ◌≤◌, ◌<◌, List, [], ◌∷◌, ◌++◌, length, replicate, get_or, set, cond, eqb, sym, ap, ◌∙◌, subst, ⊎_elim, arith, get_or-set_other}
use Rattle.mc_shared.proofs.Words.{get_or-set_same, dite, some, ℕ_discrete, get_elem?, Plain, Bay, place, total, keys_with, word_of, Beginning, HistoryEntry, name_of, Lives, Whole, SeatView}
use Rattle.mc_shared.proofs.Words.{holds_bay, times, named, Present, Stocked, Story, Named, IsHeldWord}
use Rattle.mc_shared.proofs.Sums.{sum_set, sum_two, total-append, each_set, each_snoc}
use Rattle.mc_shared.proofs.NamedKept.{total_zero, total_one, alone}
use Rattle.mc_shared.proofs.WordLemmas.{words_apart, word_behind}
use Rattle.mc_shared.proofs.NumberSteps.{named_so, named_not, bare_names}
use mathlib.Core.Option as maybe

-- who holds no bay names no word
pub names_none : (start : Beginning) (m : Plain) (words : List ℕ) (views : List SeatView) (id : ℕ) (v : SeatView) (word : ℕ) → Present start m words views
    → get_elem? views id ≡ some v → v.bays ≡ [] → named word v ≡ 0
names_none start m words views id v word p at bare = dite (ℕ_discrete (named word v) 0) (λ z. z)
    (λ ne. let own = p.owned id v word at (omega (arith, ne)) in let held = own.held in let none : times (own.number % start.shelves) v ≡ 0 =
    ap (total (holds_bay (own.number % start.shelves))) bare in absurd (omega (arith, held, none)))

-- a word of a bay may change
pub held_more : (start : Beginning) (v w : SeatView) (word : ℕ) → ((c : ℕ) → times c v ≤ times c w) → IsHeldWord start v word → IsHeldWord start w word
held_more start v w word more own = record { number = own.number; below = own.below; is = own.is; held = (let h = own.held in let l = more (own.number % start.shelves) in omega (arith, h, l)) }

-- the one lemma of a step: each word moves as its keys and what the seat names
pub present_step : (start : Beginning) (m m' : Plain) (words words' : List ℕ) (views : List SeatView) (id : ℕ) (v w : SeatView) → Present start m words views → get_elem? views id ≡ some v
    → ((n : ℕ) → n < 4096
    → get_or words' (word_of start.shelves n) 0 + keys_with start.hash_of n m.items + named (word_of start.shelves n) v ≡ get_or words
    (word_of start.shelves n) 0 + keys_with start.hash_of n m'.items + named (word_of start.shelves n) w)
    → ((word : ℕ) → 1 ≤ named word w → IsHeldWord start w word) → Present start m' words' (set views id w)
present_step start m m' words words' views id v w p at moves owns = record {
  divides = p.divides;
  counts = λ n l. let c = p.counts n l in let t = sum_set (named (word_of start.shelves n)) views id v w at in let e = moves n l in omega (arith, c, t, e);
  owned = λ j u word e. each_set (λ (z : SeatView). (x : ℕ) → 1 ≤ named x z → IsHeldWord start z x) views id w (λ i y a x. p.owned i y x a) owns j u e word;
}

-- the words of bays are others
bay_else : (start : Beginning) (words : List ℕ) (b n : ℕ) (x : ℕ) → b < start.shelves + 1 → get_or (set words (place b) x) (word_of start.shelves n) 0 ≡ get_or words (word_of start.shelves n) 0
bay_else start words b n x l = let behind = word_behind start.shelves n in get_or-set_other words (place b) (word_of start.shelves n) x 0 (λ e. omega (arith, l, e, behind))

-- a bay is taken
pub present_take : (start : Beginning) (m : Plain) (words : List ℕ) (views : List SeatView) (id b x : ℕ) (v w : SeatView) → Present start m words views
    → get_elem? views id ≡ some v → b < start.shelves + 1 → w.surplus ≡ v.surplus
    → ((c : ℕ) → times c v ≤ times c w) → Present start m (set words (place b) x) (set views id w)
present_take start m words views id b x v w p at l same more = present_step start m m words (set words (place b) x) views id v w p at
    (λ n low. let e = bay_else start words b n x l in let s : named (word_of start.shelves n) w ≡ named (word_of start.shelves n) v =
    ap (total (λ y. cond (eqb (word_of start.shelves n) y) 1 0)) same in omega (arith, e, s))
    (λ word has. held_more start v w word more (p.owned id v word at (let s : named word w ≡ named word v = ap (total (λ y. cond (eqb word y) 1 0)) same in omega (arith, has, s))))

-- a bay is given back, perhaps with a decision
pub present_give : (start : Beginning) (m m' : Plain) (words : List ℕ) (views : List SeatView) (id b x : ℕ) (v w : SeatView) → Present start m words views
    → get_elem? views id ≡ some v → b < start.shelves + 1
    → ((n : ℕ) → n < 4096 → keys_with start.hash_of n m.items + named (word_of start.shelves n) v ≡ keys_with start.hash_of n m'.items + named (word_of start.shelves n) w)
    → ((word : ℕ) → 1 ≤ named word w → IsHeldWord start w word) → Present start m' (set words (place b) x) (set views id w)
present_give start m m' words views id b x v w p at l moves owns = present_step start m m' words (set words (place b) x) views id v w p at
    (λ n low. let e = bay_else start words b n x l in let s = moves n low in omega (arith, e, s)) owns

-- a seat goes on with the same bays and the same surplus, and another may begin with none
pub present_same : (start : Beginning) (m : Plain) (words : List ℕ) (views : List SeatView) (id : ℕ) (v w : SeatView) → Present start m words views
    → get_elem? views id ≡ some v → w.bays ≡ v.bays → w.surplus ≡ v.surplus → Present start m words (set views id w)
present_same start m words views id v w p at bays same = present_step start m m words words views id v w p at
    (λ n low. let s : named (word_of start.shelves n) w ≡ named (word_of start.shelves n) v = ap (total (λ y. cond (eqb (word_of start.shelves n) y) 1 0)) same in omega (arith, s))
    (λ word has. held_more start v w word (λ c. let e : times c w ≡ times c v = ap (total (holds_bay c)) bays in omega (arith, e))
    (p.owned id v word at (let s : named word w ≡ named word v = ap (total (λ y. cond (eqb word y) 1 0)) same in omega (arith, has, s))))

pub present_snoc : (start : Beginning) (m : Plain) (words : List ℕ) (views : List SeatView) (u : SeatView) → Present start m words views → u.surplus ≡ [] → Present start m words (views ++ u ∷ [])
present_snoc start m words views u p bare = record {
  divides = p.divides;
  counts = λ n l. let c = p.counts n l in let e = bare_names u (word_of start.shelves n) bare in omega (arith, c, e, total-append (named (word_of start.shelves n)) views (u ∷ []));
  owned = λ j x word e. each_snoc (λ (z : SeatView). (y : ℕ) → 1 ≤ named y z → IsHeldWord start z y) views u (λ i z a y. p.owned i z y a)
      (λ y has. absurd (let z = bare_names u y bare in omega (arith, z, has))) j x e word;
}

-- a seat that holds nothing goes
pub present_gone : (start : Beginning) (m : Plain) (words : List ℕ) (views : List SeatView) (id : ℕ) (v w : SeatView) → Present start m words views
    → get_elem? views id ≡ some v → v.bays ≡ [] → w.surplus ≡ [] → Present start m words (set views id w)
present_gone start m words views id v w p at none bare = present_step start m m words words views id v w p at
    (λ n low. let a = names_none start m words views id v (word_of start.shelves n) p at none in let b = bare_names w (word_of start.shelves n) bare in omega (arith, a, b))
    (λ word has. absurd (let b = bare_names w word bare in omega (arith, b, has)))

-- the word of a shelf that this seat holds is named by no other
pub named_here : (start : Beginning) (m : Plain) (words : List ℕ) (homes : List (maybe.Option (Rattle.std.specs.Prelude.Option Bay))) (views : List SeatView)
    (id : ℕ) (v : SeatView) (n : ℕ) → Present start m words views → Stocked start m words homes views → get_elem? views id ≡ some v
    → n < 4096 → n % start.shelves < start.shelves → 1 ≤ times (n % start.shelves) v → total (named (word_of start.shelves n)) views ≡ named (word_of start.shelves n) v
named_here start m words homes views id v n p s at below inside holds = total_one (named (word_of start.shelves n)) views id v at
    (λ j u ne a. dite (ℕ_discrete (named (word_of start.shelves n) u) 0) (λ z. z)
    (λ some_named. absurd (let own = p.owned j u (word_of start.shelves n) a (omega (arith, some_named)) in let is = own.is in
    let same : own.number ≡ n = words_apart start.shelves own.number n p.divides own.below below (sym is) in
    let held : 1 ≤ times (n % start.shelves) u = subst (λ k. 1 ≤ times (k % start.shelves) u) same own.held in
    let b : n % start.shelves < start.shelves + 1 = omega (arith, inside) in
    let two = sum_two (times (n % start.shelves)) views j id u v ne a at in let t = s.taken (n % start.shelves) b in let low = s.low (n % start.shelves) b in omega (arith, two, t, low, held, holds))))

-- where the past is whole and its seat holds nothing, none is named
pub named_by_none : (start : Beginning) (log : List HistoryEntry) (m : Plain) (words : List ℕ) (views : List SeatView) (id : ℕ) (v : SeatView) (word : ℕ)
    → Story start log views → Named log views → Present start m words views → get_elem? views id ≡ some v
    → Whole v.past → v.bays ≡ [] → total (named word) views ≡ 0
named_by_none start log m words views id v word story names p at whole bare = total_zero (named word) views
    (λ j u a. dite (ℕ_discrete j id)
    (λ e. let is : u ≡ v = mathlib.Core.Option.some-injective u v (sym a ∙ (ap (get_elem? views) e ∙ at)) in ap (named word) is ∙ names_none start m words views id v word p at bare)
    (λ ne. ⊎_elim (λ (lives : Lives u.past). absurd (alone start log views story names id v at whole (name_of u.past) j u ne a lives))
    (λ (none : u.bays ≡ []). names_none start m words views j u word p a none) (names.idle j u a)))

-- ---- a word changes

pub present_word : (start : Beginning) (m : Plain) (words : List ℕ) (views : List SeatView) (id n d : ℕ) (v w : SeatView) → Present start m words views
    → get_elem? views id ≡ some v → n < 4096 → word_of start.shelves n < length words
    → get_or words (word_of start.shelves n) 0 + named (word_of start.shelves n) w ≡ d + named (word_of start.shelves n) v → ((x : ℕ) → x ≢ word_of start.shelves n → named x w ≡ named x v)
    → ((x : ℕ) → 1 ≤ named x w → IsHeldWord start w x) → Present start m (set words (word_of start.shelves n) d) (set views id w)
present_word start m words views id n d v w p at below inside moves others owns = present_step start m m words (set words (word_of start.shelves n) d) views id v w p at
    (λ x low. dite (ℕ_discrete x n)
    (λ e. let now : get_or (set words (word_of start.shelves n) d) (word_of start.shelves n) 0 ≡ d = get_or-set_same words (word_of start.shelves n) d 0 inside in
    subst (λ (y : ℕ). get_or (set words (word_of start.shelves n) d) (word_of start.shelves y) 0 + keys_with start.hash_of y m.items + named
    (word_of start.shelves y) v ≡ get_or words (word_of start.shelves y) 0 + keys_with start.hash_of y m.items + named (word_of start.shelves y) w) (sym e) (omega (arith, now, moves)))
    (λ ne. let apart : word_of start.shelves x ≢ word_of start.shelves n = (λ h. ne (words_apart start.shelves x n p.divides low below h)) in let same =
    get_or-set_other words (word_of start.shelves n) (word_of start.shelves x) d 0 apart in let o = others (word_of start.shelves x) apart in omega (arith, same, o)))
    owns

-- so many fewer and then so many more are named, and the word counts as many more
pub present_counted : (start : Beginning) (m : Plain) (words : List ℕ) (views : List SeatView) (id n j k d : ℕ) (v w : SeatView) → Present start m words views
    → get_elem? views id ≡ some v → n < 4096 → word_of start.shelves n < length words → w.bays ≡ v.bays
    → replicate j (word_of start.shelves n) ++ w.surplus ≡ replicate k (word_of start.shelves n) ++ v.surplus → (1 ≤ k → 1 ≤ times (n % start.shelves) v)
    → get_or words (word_of start.shelves n) 0 + k ≡ d + j → Present start m (set words (word_of start.shelves n) d) (set views id w)
present_counted start m words views id n j k d v w p at low inside bays same holds is = let word : ℕ = word_of start.shelves n in
    let moves : (x : ℕ) → total (λ y. cond (eqb x y) 1 0) (replicate j word) + named x w ≡ total (λ y. cond (eqb x y) 1 0) (replicate k word) + named x v =
    λ x. sym (total-append (λ y. cond (eqb x y) 1 0) (replicate j word) w.surplus)
    ∙ (ap (total (λ y. cond (eqb x y) 1 0)) same ∙ total-append (λ y. cond (eqb x y) 1 0) (replicate k word) v.surplus) in
    let here : j + named word w ≡ k + named word v = (let g = moves word in let a = named_so word j in let b = named_so word k in omega (arith, g, a, b)) in
    let others : (x : ℕ) → x ≢ word → named x w ≡ named x v = λ x ne. (let g = moves x in let a = named_not x word j ne in let b = named_not x word k ne in omega (arith, g, a, b)) in
    let alike : (c : ℕ) → times c w ≡ times c v = λ c. ap (total (holds_bay c)) bays in
    let still = λ (x : ℕ) (has : 1 ≤ named x v). held_more start v w x (λ c. let a = alike c in omega (arith, a)) (p.owned id v x at has) in
    present_word start m words views id n d v w p at low inside (omega (arith, here, is)) others
    (λ x has. dite (ℕ_discrete x word)
    (λ e. let named_here : 1 ≤ named word w = subst (λ (y : ℕ). 1 ≤ named y w) e has in dite (ℕ_discrete k 0)
    (λ none. subst (IsHeldWord start w) (sym e) (still word (omega (arith, none, here, named_here))))
    (λ some_more. record { number = n; below = low; is = e; held = (let a = alike (n % start.shelves) in let h = holds (omega (arith, some_more)) in omega (arith, a, h)) }))
    (λ ne. still x (let g = others x ne in omega (arith, g, has))))
