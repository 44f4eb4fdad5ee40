-- By how much the keys of each number change in a decision.
use Rattle.mc_shared.proofs.Words.{◌≡◌, ◌≢◌, ◌==◌, ℕ, zero, suc, ◌+◌, ◌-◌, ◌*◌, ◌/◌, ◌%◌, ◌^◌, ◌≤◌, ◌<◌, true, false, cond, eqb, Option, Some, None, is_some, List, [], ◌∷◌, replicate, refl}
use Rattle.mc_shared.proofs.Words.{sym, ap, ◌∙◌, subst, arith, eq-eqb, ne_eqb, mod-lt, div-add-mod', dite, ℕ_discrete, get, len, retain_keys, empty, get-empty, Plain, Items, Entry}
use Rattle.mc_shared.proofs.Words.{ShelfContent, DeskState, shelf_of, IsShelfOf, GoesTo, order, get_kept, total, number_of, keys_with, word_of, Beginning, Operation, shelf_in, next, Content}
use Rattle.mc_shared.proofs.Words.{OfShelf, OfDesk, SeatView, FitsBay, AllFit, holds_bay, times, named, Counts, MayAdd}
use Rattle.mc_shared.proofs.StockedKept.{here, elsewhere}
use Rattle.mc_shared.proofs.WordLemmas.{words_apart}
use Rattle.mc_shared.proofs.NumberLemmas.{there, kept_same, len_change, count_here, count_most, count_other}

-- the number of shelves divides 4096, so that the keys of a number are of one shelf
pub shelf_named : (hash shelves q : ℕ) → q * shelves ≡ 4096 → (hash % 4096) % shelves ≡ hash % shelves
shelf_named hash shelves q divides =
    let n : ℕ = hash / 4096 in
    let parts : n * 4096 + hash % 4096 ≡ hash = div-add-mod' hash 4096 in
    let sum : hash ≡ hash % 4096 + (n * q) * shelves = sym parts ∙ (λ i. n * sym divides i + hash % 4096)
    ∙ (ap (λ k. k + hash % 4096) (sym (native.Mathlib.Nat.mul_assoc n q shelves)) ∙ native.Mathlib.Nat.add_comm ((n * q) * shelves) (hash % 4096)) in
    sym (ap (λ k. k % shelves) sum ∙ native.Mathlib.Nat.add-mul-mod_self_right (hash % 4096) (n * q) shelves)

pub eqb_true : (a b : ℕ) → eqb a b ≡ true → a ≡ b
eqb_true a b e = dite (ℕ_discrete a b) (λ h. h) (λ ne. absurd (cc (sym e ∙ ne_eqb a b ne)))

module _ (start : Beginning) (at : ℕ) (q : ℕ) (divides : q * start.shelves ≡ 4096) where
  -- a key of a number is of the number's shelf
  pub of_shelf : (n : ℕ) (key : List ℕ) → (number_of start.hash_of key == n) ≡ true → shelf_of start.hash_of start.shelves key ≡ n % start.shelves
  of_shelf n key passes = sym (shelf_named (start.hash_of key) start.shelves q divides) ∙ ap (λ k. k % start.shelves) (eqb_true (number_of start.hash_of key) n passes)

  -- the part of a state at a shelf
  abbrev part_of : Plain → ℕ → ShelfContent
  part_of m other = record { greatest = m.greatest; items = retain_keys m.items (λ key. shelf_of start.hash_of start.shelves key == other); hashes = empty; cut = m.cut }

  is_part_of : (m : Plain) (other : ℕ) → IsShelfOf start.hash_of start.shelves m other (part_of m other)
  is_part_of m other = record {
    greatest = refl;
    cut = refl;
    items = λ key own. get_kept m.items (λ k. shelf_of start.hash_of start.shelves k == other) key
        ∙ ap (λ b. cond b (get m.items key) None) (eq-eqb (shelf_of start.hash_of start.shelves key) other own);
    apart = λ key ne. get_kept m.items (λ k. shelf_of start.hash_of start.shelves k == other) key
        ∙ ap (λ b. cond b (get m.items key) None) (ne_eqb (shelf_of start.hash_of start.shelves key) other ne);
    hashes = λ key stored is. absurd (cc (sym (get-empty order key) ∙ is));
  }

  -- how many keys of a number a shelf has is how many there are
  pub own_at : (m : Plain) (f : ShelfContent) → IsShelfOf start.hash_of start.shelves m at f → (n : ℕ) → n % start.shelves ≡ at → keys_with start.hash_of n m.items ≡ keys_with start.hash_of n f.items
  own_at m f part n is = ap (λ (i : Items). len i) (kept_same (λ key. number_of start.hash_of key == n) m.items f.items (λ key passes. sym (part.items key (of_shelf n key passes ∙ is))))

  module _ (m m' : Plain) (f f' : ShelfContent) (d' : DeskState) (part : IsShelfOf start.hash_of start.shelves m at f) (goes : GoesTo start.hash_of start.shelves at m m' f' d') where
    -- the numbers of the others stay
    pub others_stay : (n : ℕ) → n % start.shelves ≢ at → keys_with start.hash_of n m'.items ≡ keys_with start.hash_of n m.items
    others_stay n ne = ap (λ (i : Items). len i) (kept_same (λ key. number_of start.hash_of key == n) m'.items m.items (λ key passes.
        let other : ℕ = n % start.shelves in
        let own = of_shelf n key passes in
        sym ((goes.others other (part_of m other) ne (is_part_of m other)).items key own) ∙ (is_part_of m other).items key own))

-- ---- a step on a key

-- a word that is named so often, and no other
pub named_so : (word k : ℕ) → total (λ x. cond (eqb word x) 1 0) (replicate k word) ≡ k
named_so word zero = refl
named_so word (suc k) = let rest = named_so word k in let one : ◌≡◌ {A = ℕ} (cond (eqb word word) 1 0) 1 = ap (λ t. cond t 1 0) (eq-eqb word word refl) in omega (arith, rest, one)

pub named_not : (other word k : ℕ) → other ≢ word → total (λ x. cond (eqb other x) 1 0) (replicate k word) ≡ 0
named_not other word zero ne = refl
named_not other word (suc k) ne = let rest = named_not other word k ne in let none : ◌≡◌ {A = ℕ} (cond (eqb other word) 1 0) 0 =
    ap (λ t. cond t 1 0) (ne_eqb other word ne) in omega (arith, rest, none)

-- nothing is named
pub bare_names : (v : SeatView) (x : ℕ) → v.surplus ≡ [] → named x v ≡ 0
bare_names v x bare = ap (total (λ y. cond (eqb x y) 1 0)) bare

module _ (start : Beginning) (at : ℕ) (divides : 4096 / start.shelves * start.shelves ≡ 4096) (key : List ℕ) (own : shelf_in start key ≡ at)
    (f f' : ShelfContent) (others : (other : List ℕ) → other ≢ key → get f'.items other ≡ get f.items other) where
  abbrev number : ℕ
  number = number_of start.hash_of key

  abbrev word : ℕ
  word = word_of start.shelves number

  -- the words show the keys after a step that leaves as many of its number as are named less
  shows_after : (before left : ℕ) → keys_with start.hash_of number f.items + before ≡ keys_with start.hash_of number f'.items + left
      → (v w : SeatView) (what : Operation) → v.surplus ≡ replicate before word → w.surplus ≡ replicate left word → (1 ≤ left → 1 ≤ times at w)
      → ((m : Plain) → AllFit start m v.bays → IsShelfOf start.hash_of start.shelves m at f × ((d' : DeskState) × GoesTo start.hash_of start.shelves at m (next start m what) f' d'))
      → Counts start v what w
  shows_after before left counted v w what had has holds goes =
      let own_number : number % start.shelves ≡ at = shelf_named (start.hash_of key) start.shelves (4096 / start.shelves) divides ∙ own in
      let below : number < 4096 = mod-lt (start.hash_of key) (omega arith) in
      let was : (x : ℕ) → named x v ≡ total (λ y. cond (eqb x y) 1 0) (replicate before word) = λ x. ap (total (λ y. cond (eqb x y) 1 0)) had in
      let is : (x : ℕ) → named x w ≡ total (λ y. cond (eqb x y) 1 0) (replicate left word) = λ x. ap (total (λ y. cond (eqb x y) 1 0)) has in
      record {
        weighs = λ m fits n low. let g = goes m fits in let m' = next start m what in
            dite (ℕ_discrete n number)
            (λ e. subst (λ (k : ℕ). keys_with start.hash_of k m.items + named (word_of start.shelves k) v ≡ keys_with start.hash_of k m'.items + named (word_of start.shelves k) w) (sym e)
            (let was' : named word v ≡ before = was word ∙ named_so word before in
            let is' : named word w ≡ left = is word ∙ named_so word left in
            let one = own_at start at (4096 / start.shelves) divides m f g.0 number own_number in
            let two = own_at start at (4096 / start.shelves) divides m' f' g.1.1.own number own_number in omega (arith, was', is', one, two, counted)))
            (λ ne. let apart : word_of start.shelves n ≢ word = (λ h. ne (words_apart start.shelves n number divides low below h)) in
            let was' = was (word_of start.shelves n) ∙ named_not (word_of start.shelves n) word before apart in
            let is' = is (word_of start.shelves n) ∙ named_not (word_of start.shelves n) word left apart in
            let same : keys_with start.hash_of n m'.items ≡ keys_with start.hash_of n m.items = dite (ℕ_discrete (n % start.shelves) at)
            (λ here. own_at start at (4096 / start.shelves) divides m' f' g.1.1.own n here
            ∙ (count_other (λ k. number_of start.hash_of k == n) f'.items f.items key others (ne_eqb number n (λ h. ne (sym h)))
            ∙ sym (own_at start at (4096 / start.shelves) divides m f g.0 n here)))
            (λ off. others_stay start at (4096 / start.shelves) divides m m' f f' g.1.0 g.0 g.1.1 n off) in omega (arith, was', is', same));
        owned = λ x some_named. dite (ℕ_discrete x word) (λ e. record {
          number = number;
          below = below;
          is = e;
          held = subst (λ b. 1 ≤ times b w) (sym own_number) (holds (let all : named x w ≡ left = ap (λ y. named y w) e ∙ is word ∙ named_so word left in omega (arith, all, some_named)));
        })
            (λ ne. absurd (let none = is x ∙ named_not x word left ne in omega (arith, none, some_named)));
      }

  here_counted : keys_with start.hash_of number f'.items + there (get f.items key) ≡ keys_with start.hash_of number f.items + there (get f'.items key)
  here_counted = count_here (λ k. number_of start.hash_of k == number) f'.items f.items key others (eq-eqb number number refl)

  module _ (before left : ℕ) (is_left : left ≡ (before + len f.items) - len f'.items) (adds : is_some (get f.items key) ≡ false → before ≡ 1) where
    few : (o : Option Entry) → there o ≤ 1
    few None = omega arith
    few (Some item) = omega arith

    pub enough : len f'.items ≤ before + len f.items
    enough = let b = len_change f'.items f.items key others in let one = few (get f'.items key) in
        elim (is_some (get f.items key)) as (λ t. is_some (get f.items key) ≡ t → len f'.items ≤ before + len f.items) [
          | true ↦ λ e. (let t : there (get f.items key) ≡ 1 = ap (λ x. cond x 1 0) e in omega (arith, b, one, t))
          | false ↦ λ e. (let n = adds e in omega (arith, b, one, n))
        ] refl

    pub counts_step : (v w : SeatView) (what : Operation) (below_it : List (ℕ × Content)) → v.surplus ≡ replicate before word → w.surplus ≡ replicate left word → w.bays ≡ (at, OfShelf f') ∷ below_it
        → ((m : Plain) → AllFit start m v.bays → IsShelfOf start.hash_of start.shelves m at f × ((d' : DeskState) × GoesTo start.hash_of start.shelves at m (next start m what) f' d'))
        → Counts start v what w
    counts_step v w what below_it had has holds =
        shows_after before left (let h = here_counted in let b = len_change f'.items f.items key others in let e = enough in omega (arith, h, b, e, is_left)) v w what had has
        (λ _. let all : times at w ≡ holds_bay at (at, OfShelf f') + total (holds_bay at) below_it = ap (total (holds_bay at)) holds in let one = here at (OfShelf f') in omega (arith, one, all))

  -- and where it leaves an item if there was one, and none if there was none
  pub counts_settled : is_some (get f'.items key) ≡ is_some (get f.items key) → (v w : SeatView) (what : Operation) → v.surplus ≡ [] → w.surplus ≡ []
      → ((m : Plain) → AllFit start m v.bays → IsShelfOf start.hash_of start.shelves m at f × ((d' : DeskState) × GoesTo start.hash_of start.shelves at m (next start m what) f' d'))
      → Counts start v what w
  counts_settled stands v w what had has =
      shows_after 0 0 (let h = here_counted in let t : there (get f'.items key) ≡ there (get f.items key) = ap (λ b. cond b 1 0) stands in omega (arith, h, t)) v w what had has
      (λ none. absurd (omega (arith, none)))

-- a decision that changes nothing
pub counts_same : (start : Beginning) (v w : SeatView) (what : Operation) → v.surplus ≡ [] → w.surplus ≡ [] → ((m : Plain) → AllFit start m v.bays → next start m what ≡ m) → Counts start v what w
counts_same start v w what had has stays = record {
  weighs = λ m fits n low. let was = bare_names v (word_of start.shelves n) had in let is = bare_names w (word_of start.shelves n) has in
      let same : keys_with start.hash_of n (next start m what).items ≡ keys_with start.hash_of n m.items =
      ap (λ (z : Plain). keys_with start.hash_of n z.items) (stays m fits) in omega (arith, was, is, same);
  owned = λ x some_named. absurd (let z = bare_names w x has in omega (arith, z, some_named));
}

-- ---- one is added for a key that comes

pub may_add : (start : Beginning) (at : ℕ) (divides : 4096 / start.shelves * start.shelves ≡ 4096) (hash : ℕ) (key : List ℕ) → hash ≡ start.hash_of key → shelf_in start key ≡ at → at < start.shelves
    → (f : ShelfContent) (d : DeskState) (v : SeatView) → v.bays ≡ (start.shelves, OfDesk d) ∷ (at, OfShelf f) ∷ [] → v.surplus ≡ [] → len f.items < 2 ^ 64 - 1 → MayAdd start v (hash % 4096)
may_add start at divides hash key hashed own low f d v bays bare small =
    let n : ℕ = hash % 4096 in
    let same : n % start.shelves ≡ at = shelf_named hash start.shelves (4096 / start.shelves) divides ∙ (ap (λ h. h % start.shelves) hashed ∙ own) in record {
      own = record {
        below = mod-lt hash (omega arith);
        inside = subst (λ k. k < start.shelves) (sym same) low;
        held = (let one : holds_bay (n % start.shelves) (at, OfShelf f) ≡ 1 = ap (λ b. holds_bay b (at, OfShelf f)) same ∙ here at (OfShelf f) in
            let all : times (n % start.shelves) v ≡ holds_bay (n % start.shelves) (start.shelves, OfDesk d) +
            (holds_bay (n % start.shelves) (at, OfShelf f) + 0) = ap (total (holds_bay (n % start.shelves))) bays in omega (arith, one, all));
        bare = bare;
      };
      few = λ m fits. (let h : AllFit start m ((start.shelves, OfDesk d) ∷ (at, OfShelf f) ∷ []) = subst (AllFit start m) bays fits in
          let one = own_at start at (4096 / start.shelves) divides m f h.1.0.1 n same in
          let most = count_most (λ k. number_of start.hash_of k == n) f.items in omega (arith, one, most, small));
    }

-- ---- how many keys have a number whose shelf is held

module _ (start : Beginning) (divides : 4096 / start.shelves * start.shelves ≡ 4096) (n : ℕ) (inside : n % start.shelves < start.shelves) (m m' : Plain) where
  of_bay : (b : ℕ) (x : Content) → n % start.shelves ≡ b → FitsBay start m b x → FitsBay start m' b x → keys_with start.hash_of n m.items ≡ keys_with start.hash_of n m'.items
  of_bay b (OfShelf f) is fits fits' = own_at start b (4096 / start.shelves) divides m f fits.1 n is ∙ sym (own_at start b (4096 / start.shelves) divides m' f fits'.1 n is)
  of_bay b (OfDesk d) is fits fits' = absurd (let e = fits.0 in omega (arith, inside, is, e))

  -- as many in each state that what is held fits
  pub keys_alike : (bays : List (ℕ × Content)) → 1 ≤ total (holds_bay (n % start.shelves)) bays → AllFit start m bays → AllFit start m' bays
      → keys_with start.hash_of n m.items ≡ keys_with start.hash_of n m'.items
  keys_alike [] some fits fits' = absurd (omega (arith, some))
  keys_alike ((b, x) ∷ bays) some fits fits' = dite (ℕ_discrete (n % start.shelves) b) (λ e. of_bay b x e fits.0 fits'.0)
      (λ ne. let none = elsewhere b (n % start.shelves) x ne in keys_alike bays (omega (arith, some, none)) fits.1 fits'.1)
