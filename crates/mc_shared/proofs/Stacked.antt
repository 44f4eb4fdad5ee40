-- Held shelves, and the step that changes them all.
use Rattle.mc_shared.proofs.Words.{◌≡◌, ◌==◌, Bool, true, false, ℕ, zero, suc, ◌+◌, ◌≤◌, ◌<◌, None, Some, List, [], ◌∷◌, ◌++◌, length, slice_get, sym, refl, ap, ◌∙◌, subst, arith, rest}
use Rattle.mc_shared.proofs.Words.{empty, moment_named, Plain, flushed, living, Flush, Flushed, ShelfState, DeskState, IsShelfOf, ArePartsOf, Bay, Content, OfShelf, OfDesk, content_of, cond}
use Rattle.mc_shared.proofs.Words.{eqb, place, total, Beginning, Operation, Stepped, after, FitsBay, AllFit, KeepsLimits, holds_bay, Past, KeptBy, SeatView, Mine, HasTaken, HoldsThis}
use Rattle.mc_shared.proofs.Words.{without, holding, decided_by, loaded, Fitted, Decides, stacked, holds_all, if◌then◌else◌, take, drop, stacked_on, hollow, Gathered}
use Rattle.std.proofs.Math.Seq.{take-append_seam}
use Rattle.mc_shared.proofs.StockedKept.{here, elsewhere}

snoc_on : (n : ℕ) (xs : List ShelfState) (x : ShelfState) (below : List (ℕ × Content)) → stacked_on n (xs ++ x ∷ []) below ≡ (n + length xs, OfShelf x.content) ∷ stacked_on n xs below
snoc_on n [] x below = let e : n ≡ n + 0 = omega arith in λ i. (e i, OfShelf x.content) ∷ below
snoc_on n (y ∷ xs) x below = snoc_on (n + 1) xs x ((n, OfShelf y.content) ∷ below)
    ∙ (let e : (n + 1) + length xs ≡ n + suc (length xs) = omega arith in λ i. (e i, OfShelf x.content) ∷ stacked_on (n + 1) xs ((n, OfShelf y.content) ∷ below))

-- one more shelf on top
pub stacked_snoc : (xs : List ShelfState) (x : ShelfState) → stacked (xs ++ x ∷ []) ≡ (length xs, OfShelf x.content) ∷ stacked xs
stacked_snoc xs x = snoc_on 0 xs x [] ∙ (let e : 0 + length xs ≡ length xs = omega arith in λ i. (e i, OfShelf x.content) ∷ stacked xs)

below_stays : (n c : ℕ) (xs : List ShelfState) (below : List (ℕ × Content)) → total (holds_bay c) below ≤ total (holds_bay c) (stacked_on n xs below)
below_stays n c [] below = omega arith
below_stays n c (x ∷ xs) below = let rest = below_stays (n + 1) c xs ((n, OfShelf x.content) ∷ below) in omega (arith, rest)

pub has_on : (n c : ℕ) (xs : List ShelfState) (below : List (ℕ × Content)) → n ≤ c → c < n + length xs → 1 ≤ total (holds_bay c) (stacked_on n xs below)
has_on n c [] below low high = absurd (omega (arith, low, high))
has_on n c (x ∷ xs) below low high = mathlib.Core.Logic.dite (native.Mathlib.Decide.ℕ_discrete c n)
    (λ e. let one : holds_bay c (n, OfShelf x.content) ≡ 1 = ap (λ k. holds_bay c (k, OfShelf x.content)) (sym e) ∙ here c (OfShelf x.content) in let stays =
    below_stays (n + 1) c xs ((n, OfShelf x.content) ∷ below) in omega (arith, one, stays))
    (λ ne. has_on (n + 1) c xs ((n, OfShelf x.content) ∷ below) (omega (arith, low, ne)) (omega (arith, high)))

-- what is so of held bays by their places is so of others that are held there
same_on : {A : Type 0} (f : List (ℕ × Content) → A) (more : ℕ → A → A) → ((n : ℕ) (x : Content) (b : List (ℕ × Content)) → f ((n, x) ∷ b) ≡ more n (f b))
    → (n : ℕ) (xs ys : List ShelfState) (b d : List (ℕ × Content)) → length xs ≡ length ys → f b ≡ f d → f (stacked_on n xs b) ≡ f (stacked_on n ys d)
same_on f more goes n [] [] b d l e = e
same_on f more goes n [] (y ∷ ys) b d l e = absurd (omega (arith, l))
same_on f more goes n (x ∷ xs) [] b d l e = absurd (omega (arith, l))
same_on f more goes n (x ∷ xs) (y ∷ ys) b d l e = same_on f more goes (n + 1) xs ys ((n, OfShelf x.content) ∷ b) ((n, OfShelf y.content) ∷ d) (omega (arith, l))
    (goes n (OfShelf x.content) b ∙ ap (more n) e ∙ sym (goes n (OfShelf y.content) d))

-- shelves that all fit, one after another
below_fit : (began : Beginning) (m : Plain) (n : ℕ) (xs : List ShelfState) (below : List (ℕ × Content)) → AllFit began m (stacked_on n xs below) → AllFit began m below
below_fit began m n [] below h = h
below_fit began m n (x ∷ xs) below h = (below_fit began m (n + 1) xs ((n, OfShelf x.content) ∷ below) h).1

each_fits : (began : Beginning) (m : Plain) (n : ℕ) (xs : List ShelfState) (below : List (ℕ × Content)) → AllFit began m (stacked_on n xs below)
    → (at : ℕ) (x : ShelfState) → slice_get xs at ≡ Some x → IsShelfOf began.hash_of began.shelves m (n + at) x.content
each_fits began m n [] below h at x e = cc
each_fits began m n (y ∷ xs) below h zero x e = let f = (below_fit began m (n + 1) xs ((n, OfShelf y.content) ∷ below) h).0 in
    let here_it : n ≡ n + 0 = omega arith in subst (λ (t : ℕ × ShelfState). IsShelfOf began.hash_of began.shelves m t.0 t.1.content) (λ i. (here_it i, same_some y x e i)) f.1
  where
    same_some : (a b : ShelfState) → slice_get (a ∷ xs) 0 ≡ Some b → a ≡ b
    same_some a b e = cc e
each_fits began m n (y ∷ xs) below h (suc at) x e = let next = each_fits began m (n + 1) xs ((n, OfShelf y.content) ∷ below) h at x e in
    let same : n + 1 + at ≡ n + suc at = omega arith in subst (λ k. IsShelfOf began.hash_of began.shelves m k x.content) same next

pub all_fit : (began : Beginning) (m : Plain) (n : ℕ) (xs : List ShelfState) (below : List (ℕ × Content)) → n + length xs ≤ began.shelves
    → ((at : ℕ) (x : ShelfState) → slice_get xs at ≡ Some x → IsShelfOf began.hash_of began.shelves m (n + at) x.content) → AllFit began m below → AllFit began m (stacked_on n xs below)
all_fit began m n [] below l fits h = h
all_fit began m n (x ∷ xs) below l fits h =
    all_fit began m (n + 1) xs ((n, OfShelf x.content) ∷ below) (omega (arith, l))
    (λ at y e. let same : n + suc at ≡ n + 1 + at = omega arith in subst (λ k. IsShelfOf began.hash_of began.shelves m k y.content) same (fits (suc at) y e))
    ((omega (arith, l), (let same : n + 0 ≡ n = omega arith in subst (λ k. IsShelfOf began.hash_of began.shelves m k x.content) same (fits 0 x refl))), h)

-- with all shelves held and the desk, what is held are the parts of the state
pub parts_held : (began : Beginning) (m : Plain) (xs : List ShelfState) (d : DeskState) → length xs ≡ began.shelves → 0 < began.shelves
    → AllFit began m ((began.shelves, OfDesk d) ∷ stacked xs) → ArePartsOf began.hash_of m xs began.shelves d
parts_held began m xs d all some h =
    record {
      number = all;
      some_shelf = some;
      each =
          λ at x e. (let f = each_fits began m 0 xs [] h.1 at x e in let same : 0 + at ≡ at = omega arith in subst (λ k. IsShelfOf began.hash_of began.shelves m k x.content) same f);
      account = h.0.1;
    }

none_else : (began : Beginning) (m : Plain) (xs : List ShelfState) (d : DeskState) (c : ℕ) (z : Content) → length xs ≡ began.shelves
    → total (holds_bay c) ((began.shelves, OfDesk d) ∷ stacked xs) ≡ 0 → FitsBay began m c z → ⊥
none_else began m xs d c (OfShelf f) all none fits = let l = fits.0 in let has = has_on 0 c xs [] (omega arith) (omega (arith, l, all)) in omega (arith, none, has)
none_else began m xs d c (OfDesk k) all none fits = let one : holds_bay c (began.shelves, OfDesk d) ≡ 1 = ap (λ k. holds_bay k (began.shelves, OfDesk d)) fits.0
    ∙ here began.shelves (OfDesk d) in omega (arith, none, one)

-- a flush leaves the greatest charge and the limit, at once or later
flushed_limits : (began : Beginning) (m : Plain) (delay now : ℕ) → KeepsLimits began m → KeepsLimits began (flushed delay m now)
flushed_limits began m delay now keeps = record { greatest = either (delay == 0) (λ p. p.greatest) refl refl ∙ keeps.greatest; limit = either (delay == 0) (λ p. p.limit) refl refl ∙ keeps.limit }
  where
    at_once : Plain
    at_once = record m { items = empty; cut = None }

    later : Plain
    later = record m { items = living m.items m.cut now; cut = Some (moment_named delay now) }

    either : (b : Bool) (f : Plain → ℕ) → f at_once ≡ f m → f later ≡ f m → f (if b then at_once else later) ≡ f m
    either true f e d = e
    either false f e d = d

-- with all shelves held, the desk decides a flush
pub flushes : (began : Beginning) (xs ys : List ShelfState) (d d' : DeskState) (delay now : ℕ) → length xs ≡ began.shelves → 0 < began.shelves → length ys ≡ length xs
    → ((m : Plain) → ArePartsOf began.hash_of m xs began.shelves d → ArePartsOf began.hash_of (flushed delay m now) ys began.shelves d')
    → Decides began ((began.shelves, OfDesk d) ∷ stacked xs) began.shelves (OfDesk d') (Stepped (Flush delay) now Flushed) (stacked ys)
flushes began xs ys d d' delay now all some same parts = record {
  places = λ c. same_on (total (holds_bay c)) (λ n k. cond (eqb c n) 1 0 + k) (λ n x b. refl) 0 ys xs [] [] same refl;
  right = λ m h. (flushed delay m now, refl);
  limits = λ m h keeps. flushed_limits began m delay now keeps;
  given = λ m h. (refl, (parts m (parts_held began m xs d all some h)).account);
  kept = λ m h. all_fit began (flushed delay m now) 0 ys [] (omega (arith, all, same))
      (λ at y e. (let f = (parts m (parts_held began m xs d all some h)).each at y e in let place : at ≡ 0 + at = omega arith in
      subst (λ k. IsShelfOf began.hash_of began.shelves (flushed delay m now) k y.content) place f)) tt;
  others = λ m h c z none fits. absurd (none_else began m xs d c z all none fits);
}

top : (p : Past) (xs : List ShelfState) (x : ShelfState)
    → holds_all p (xs ++ x ∷ []) ≡ (record { past = p; bays = (length xs, OfShelf x.content) ∷ stacked xs; surplus = [] }, (place (length xs), None) ∷ hollow (stacked xs))
top p xs x = λ i. (record { past = p; bays = stacked_snoc xs x i; surplus = [] }, hollow (stacked_snoc xs x i))

pub held_top : (m : Mine) (p : Past) (xs : List ShelfState) (x : ShelfState) (n : ℕ) → m ≡ holds_all p (xs ++ x ∷ []) → n ≡ length xs → HoldsThis m n (OfShelf x.content)
held_top m p xs x n is len = let e = is ∙ top p xs x in (
  ap (λ z. z.0.bays) e ∙ (λ i. (sym len i, OfShelf x.content) ∷ rest (sym e i).0.bays),
  ap (λ z. z.1) e ∙ (λ i. (place (sym len i), None) ∷ rest (sym e i).1),
  ap (λ z. z.0.surplus) e,
)

pub without_top : (m : Mine) (p : Past) (xs : List ShelfState) (x : ShelfState) → m ≡ holds_all p (xs ++ x ∷ []) → without m ≡ holds_all p xs
without_top m p xs x is = ap without (is ∙ top p xs x)

-- a shelf that was taken lies on top
pub take_top : (m m' : Mine) (p : Past) (xs : List ShelfState) (x : ShelfState) (n : ℕ) → m ≡ holds_all p xs → n ≡ length xs
    → m' ≡ (holding m.0 n (OfShelf x.content), (place n, None) ∷ m.1) → m' ≡ holds_all p (xs ++ x ∷ [])
take_top m m' p xs x n is len got = got ∙ (λ i. (holding (is i).0 (len i) (OfShelf x.content), (place (len i), None) ∷ (is i).1)) ∙ sym (top p xs x)

-- shelves that are written back as a whole
pub written_back : {hash_of : List ℕ → ℕ} {state : Plain} {new : List ShelfState} {count len : ℕ} {desk : DeskState} (old : List ShelfState) → len ≡ count → ArePartsOf hash_of state new count desk
    → ArePartsOf hash_of state (take len (new ++ drop (length new) old)) count desk
written_back {hash_of} {state} {new} {count} {len} {desk} old all parts =
    subst (λ (l : List ShelfState). ArePartsOf hash_of state l count desk)
    (sym (ap (λ n. take n (new ++ drop (length new) old)) (all ∙ sym parts.number) ∙ take-append_seam new (drop (length new) old))) parts

-- all shelves and the desk are the parts of some state
pub held_parts : (began : Beginning) (xs : List ShelfState) (d : DeskState) (v : SeatView) → v.bays ≡ (began.shelves, OfDesk d) ∷ stacked xs
    → length xs ≡ began.shelves → 0 < began.shelves → Fitted began v → (m : Plain) × ArePartsOf began.hash_of m xs began.shelves d
held_parts began xs d v is all some fitted =
    let m : Plain = after began began.plain fitted.log in (m, parts_held began m xs d all some (subst (AllFit began m) is fitted.fits))

-- after the desk has decided, the held shelves have their new content, and words may show too many
pub decided_all : (m m' : Mine) (p : Past) (xs ys : List ShelfState) (x : Content) (n : ℕ) (what : Operation) (surplus : List ℕ)
    → m ≡ (holding (holds_all p xs).0 n x, (place n, None) ∷ hollow (stacked xs))
    → m' ≡ decided_by m what (stacked ys) surplus → length xs ≡ length ys → m' ≡ loaded (holds_all m'.0.past ys) surplus
decided_all m m' p xs ys x n what surplus is did same = let eb : m'.0.bays ≡ stacked ys = ap (λ (z : Mine). z.0.bays) did in
    let es : m'.1 ≡ hollow (stacked ys) = ap (λ (z : Mine). z.1) did ∙ (ap (λ (z : Mine). rest z.1) is ∙ same_on hollow (λ n hs. (place n, None) ∷ hs) (λ n x b. refl) 0 xs ys [] [] same refl) in
    let ex : m'.0.surplus ≡ surplus = ap (λ (z : Mine). z.0.surplus) did in
    λ i. (record { past = m'.0.past; bays = eb i; surplus = ex i }, es i)

-- after all words are lowered, none shows too many
pub lowered_all : (m m' : Mine) (ys : List ShelfState) (surplus : List ℕ) → m ≡ loaded (holds_all m.0.past ys) surplus → m' ≡ loaded m [] → m' ≡ holds_all m'.0.past ys
lowered_all m m' ys surplus is lowered =
    lowered ∙ (ap (λ (z : Mine). loaded z []) is ∙ ap (λ (p : Past). holds_all p ys) (sym (ap (λ (z : Mine). z.0.past) lowered)))

-- a place above the shelves that are held is not held
none_above : (n c : ℕ) (xs : List ShelfState) (below : List (ℕ × Content)) → n + length xs ≤ c → total (holds_bay c) (stacked_on n xs below) ≡ total (holds_bay c) below
none_above n c [] below l = refl
none_above n c (x ∷ xs) below l = none_above (n + 1) c xs ((n, OfShelf x.content) ∷ below) (omega (arith, l))
    ∙ (let no : holds_bay c (n, OfShelf x.content) ≡ 0 = elsewhere n c (OfShelf x.content) (λ e. omega (arith, l, e)) in
    let both : holds_bay c (n, OfShelf x.content) + total (holds_bay c) below ≡ total (holds_bay c) below = omega (arith, no) in both)

pub none_taken : (m : Mine) (p : Past) (xs : List ShelfState) (c : ℕ) → m ≡ holds_all p xs → length xs ≤ c → total (holds_bay c) m.0.bays ≡ 0
none_taken m p xs c is l = ap (λ (z : Mine). total (holds_bay c) z.0.bays) is ∙ none_above 0 c xs [] (omega (arith, l))

pub gathered : (began : Beginning) (p : Past) (xs : List ShelfState) (d : DeskState) (v : SeatView) → v.bays ≡ (began.shelves, OfDesk d) ∷ stacked xs
    → v.past ≡ p → length xs ≡ began.shelves → 0 < began.shelves → Fitted began v → Gathered began p xs d
gathered began p xs d v is same all some fitted = record {
  log = fitted.log;
  legal = fitted.legal;
  keeps = subst (KeptBy fitted.log) same fitted.keeps;
  limits = fitted.limits;
  parts = parts_held began (after began began.plain fitted.log) xs d all some (subst (AllFit began (after began began.plain fitted.log)) is fitted.fits);
}

-- what a seat has that took all shelves and then the desk: these bays, parts of some state, and no
-- word that shows too many
pub record HoldsAll (began : Beginning) (xs : List ShelfState) (d : DeskState) (me : Mine) : Type 0 where
  pub bays : me.0.bays ≡ (began.shelves, OfDesk d) ∷ stacked xs
  pub number : length xs ≡ began.shelves
  pub some_shelf : 0 < began.shelves
  pub parts : (m : Plain) × ArePartsOf began.hash_of m xs began.shelves d
  pub bare : me.0.surplus ≡ []

pub all_held : (began : Beginning) (p : Past) (xs : List ShelfState) (d : DeskState) (x : Bay) (n : ℕ)
    (was me : Mine) → was ≡ holds_all p xs → n ≡ began.shelves → content_of x ≡ OfDesk d
    → length xs ≡ n → 0 < n → HasTaken began was n x me → HoldsAll began xs d me
all_held began p xs d x n was me held is desk long some taken =
    let stack : (n, content_of x) ∷ was.0.bays ≡ (began.shelves, OfDesk d) ∷ stacked xs = λ i. (is i, desk i) ∷ (held i).0.bays in
    record {
      bays = ap (λ (m : Mine). m.0.bays) taken.1 ∙ stack;
      number = long ∙ is;
      some_shelf = omega (arith, is, some);
      parts = held_parts began xs d (holding was.0 n (content_of x)) stack (long ∙ is) (omega (arith, is, some)) taken.2;
      bare = ap (λ (m : Mine). m.0.surplus) taken.1 ∙ ap (λ (m : Mine). m.0.surplus) held;
    }
