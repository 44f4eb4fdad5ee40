-- The rule at the start.
use Rattle.mc_shared.proofs.Words.{◌≡◌, ◌⊎◌, ℕ, zero, suc, ◌+◌, ◌*◌, ◌/◌, ◌≤◌, ◌<◌, set, length-set, get_or-set_other, get_or-set_same, Some, List, [], ◌∷◌, ◌++◌, length, map, get_or}
use Rattle.mc_shared.proofs.Words.{slice_get, sym, refl, ap, ◌∙◌, subst, inl, inr, ⊎_elim, arith, dite, ℕ_discrete, some, some-injective, some-ne-none, get_elem?, opening, ShelfState}
use Rattle.mc_shared.proofs.Words.{DeskState, ArePartsOf, Shelf, Desk, Beginning, Name, start_of, SeatView, starting, Sound, Lives, spent, AllFit, Kept, AreFirst, named, Slot}
use Rattle.mc_shared.proofs.Words.{place, shelf_slot, spaced, word_of, words_with, AreAllOf, AreCountsOfAll, TableId, StoreState, IsTableOf, desk_slot, slot_alone}
use Rattle.mc_shared.proofs.WordLemmas.{words_apart, word_behind, word_inside, bays_inside}
use Rattle.mc_shared.proofs.NamedKept.{sound_start}
use Rattle.mc_shared.specs.Past as past

only : (P : SeatView → Type 0) → P starting → (id : ℕ) (v : SeatView) → get_elem? (starting ∷ []) id ≡ some v → P v
only P h zero v e = subst P (some-injective starting v e) h
only P h (suc id) v e = absurd (some-ne-none v (sym e))

first_once : (c : Name) → past.times c ([] ∷ []) + 0 ≤ 1
first_once [] = omega arith
first_once (x ∷ c) = omega arith

abbrev slots : List ShelfState → DeskState → List Slot
slots shelves desk = spaced (map {A = ShelfState} shelf_slot shelves) ++ slot_alone (desk_slot desk)

deep : (shelves : List ShelfState) (desk : DeskState) → length (map some (slots shelves desk)) ≡ place (length shelves + 1)
deep [] desk = refl
deep (x ∷ xs) desk = let rest = deep xs desk in omega (arith, rest)

home_at : (shelves : List ShelfState) (desk : DeskState) (b : ℕ) → b < length shelves + 1
    → ((s : ShelfState) × (slice_get shelves b ≡ Some s) × (b < length shelves) × (get_elem? (map some (slots shelves desk)) (place b) ≡ some (some (Some (Shelf s)))))
    ⊎ ((b ≡ length shelves) × (get_elem? (map some (slots shelves desk)) (place b) ≡ some (some (Some (Desk desk)))))
home_at [] desk zero l = inr (refl, refl)
home_at [] desk (suc b) l = absurd (omega (arith, l))
home_at (x ∷ xs) desk zero l = inl (x, refl, omega arith, refl)
home_at (x ∷ xs) desk (suc b) l = let next : place (suc b) ≡ suc (suc (suc (suc (suc (suc (suc (suc (place b)))))))) = omega arith in
    let there = ap (get_elem? (map some (slots (x ∷ xs) desk))) next in
    ⊎_elim (λ h. inl (h.0, h.1, (let k = h.2 in omega (arith, k)), there ∙ h.3)) (λ h. inr (ap suc h.0, there ∙ h.1)) (home_at xs desk b (omega (arith, l)))

pub opens : (began : Beginning) (shelves : List ShelfState) (desk : DeskState) → ArePartsOf began.hash_of began.plain shelves began.shelves desk
    → (words : List ℕ) → AreFirst began words → Kept began (opening words (slots shelves desk) starting)
opens began shelves desk parts words first = record {
  log = [];
  story = record { legal = tt; ordered = only (λ v. past.Ordered [] v.past) tt; balanced = λ h. refl; known = λ g. omega arith };
  named = record {
    sound = only (λ v. Sound v.past) (sound_start [] spent);
    once = λ c. first_once c;
    numbers = λ c n. omega arith;
    idle = only (λ v. Lives v.past ⊎ (v.bays ≡ [])) (inr refl);
  };
  stocked = record {
    wide = first.long;
    deep = deep shelves desk ∙ ap (λ n. place (n + 1)) parts.number;
    low = λ b l. let z = first.free b l in omega (arith, z);
    taken = λ b l. let z = first.free b l in omega (arith, z);
    home = λ b l _. ⊎_elim
        (λ (h : (s : ShelfState) × (slice_get shelves b ≡ Some s) × (b < length shelves) × (get_elem? (map some (slots shelves desk)) (place b) ≡ some (some (Some (Shelf s))))).
        (Shelf h.0, h.3, (subst (λ n. b < n) parts.number h.2, parts.each b h.0 h.1)))
        (λ (h : (b ≡ length shelves) × (get_elem? (map some (slots shelves desk)) (place b) ≡ some (some (Some (Desk desk))))). (Desk desk, h.1, (h.0 ∙ parts.number, parts.account)))
        (home_at shelves desk b (let count = parts.number in omega (arith, l, count)));
    limits = record { greatest = refl; limit = refl };
    out = only (λ v. AllFit began began.plain v.bays) tt;
  };
  present = record {
    divides = first.divides;
    counts = λ n low. let c = first.counts n low in omega (arith, c);
    owned = λ id v word at has. absurd (let none : named word v ≡ 0 = only (λ u. named word u ≡ 0) refl id v at in omega (arith, none, has));
  };
}

-- the words of a table that is being filled: those of the numbers below one are set to their counts
pub record AreFilled (shelves : ℕ) (words counts : List ℕ) (number : ℕ) : Type 0 where
  pub long : length words ≡ words_with shelves
  pub free : (b : ℕ) → b < shelves + 1 → get_or words (place b) 0 ≡ 0
  pub counts_set : (n : ℕ) → n < number → n < 4096 → get_or words (word_of shelves n) 0 ≡ get_or counts n 0

-- the words of numbers are set, one after another
pub fills_one : (shelves : ℕ) (words counts : List ℕ) (number at c : ℕ) → 4096 / shelves * shelves ≡ 4096 → number < 4096
    → AreFilled shelves words counts number → at ≡ word_of shelves number → c ≡ get_or counts number 0
    → AreFilled shelves (set words at c) counts (number + 1)
fills_one shelves words counts number at c divides low filled place_is is = record {
  long = length-set words at c ∙ filled.long;
  free = λ b l. (let behind = word_behind shelves number in get_or-set_other words at (place b) c 0 (λ e. omega (arith, l, e, behind, place_is))) ∙ filled.free b l;
  counts_set = λ n below few. dite (ℕ_discrete n number)
      (λ e. let inside : at < length words = (let wide = filled.long in let l = word_inside shelves number divides low in omega (arith, place_is, wide, l)) in
      (ap (λ (k : ℕ). get_or (set words at c) k 0) (ap (word_of shelves) e ∙ sym place_is) ∙ get_or-set_same words at c 0 inside) ∙ (is ∙ ap (λ (k : ℕ). get_or counts k 0) (sym e)))
      (λ ne. get_or-set_other words at (word_of shelves n) c 0 (λ e. ne (words_apart shelves n number divides few low (e ∙ place_is))) ∙ filled.counts_set n (omega (arith, below, ne)) few);
}

pub are_first : (shelves : ℕ) (words counts : List ℕ) (xs : List ShelfState) → 4096 / shelves * shelves ≡ 4096 → (number : ℕ) → 4096 ≤ number
    → AreFilled shelves words counts number → AreCountsOfAll xs counts
    → (start : Beginning) → start.shelves ≡ shelves → AreAllOf start.hash_of start.plain xs → AreFirst start words
are_first shelves words counts xs divides number all filled counted start is parts = record {
  divides = subst (λ (s : ℕ). 4096 / s * s ≡ 4096) (sym is) divides;
  long = filled.long ∙ ap words_with (sym is);
  free = λ b l. filled.free b (subst (λ (s : ℕ). b < s + 1) is l);
  counts = λ n low. ap (λ (s : ℕ). get_or words (word_of s n) 0) is ∙ (filled.counts_set n (omega (arith, low, all)) low ∙ counted.counted start.hash_of start.plain parts n low);
}

-- the table that opens is one for the store
pub table_of : {K : Type 0} (hash_of : K → List ℕ → ℕ) (table : TableId) (key store : StoreState K) (words : List ℕ) → table.words ≡ length words → key ≡ store
    → AreFirst (start_of hash_of store) words → IsTableOf table key
table_of hash_of table key store words len is first = subst (λ s. IsTableOf table s) (sym is) record {
  wide = len ∙ first.long;
  bays = (let room = bays_inside store.settings.shelves in let long = first.long in omega (arith, room, long, len));
  divides = first.divides;
}
