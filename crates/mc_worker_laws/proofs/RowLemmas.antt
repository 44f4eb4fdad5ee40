-- Where a guest stands in the row after others moved.
use Rattle.std.specs.Prelude.{slice_get, swap}
use Rattle.std.specs.List.{sum_by}
use Rattle.std.specs.Option.{option_map}
use Rattle.std.proofs.Common.{◌≡◌, ◌≢◌, ◌⊎◌, inl, inr, ℕ, zero, suc, ◌+◌, ◌-◌, ◌<◌, List, [], ◌∷◌, ◌++◌, length, map, take, drop, Option, Some, None, refl, sym, ap, ◌∙◌, arith, IsTrue}
use Rattle.std.proofs.lemmas.Bool.{cases_lt}
use Rattle.std.proofs.lemmas.Bool.Decides.{eqb_tells}
use Rattle.std.proofs.lemmas.List.{length-take-le}
use Rattle.std.proofs.lemmas.List.Edits.{length-swap}
use Rattle.std.proofs.lemmas.Option.{none-some, same_Some, slice_get-map, slice_get_within}
use Rattle.mc_guests.specs.Guests.{GuestState, RowGuest, has_ended, reads_left}
use Rattle.mc_guests.specs.Books.{RowState, SameButLeft, changed}
use Rattle.mc_guests.proofs.JudgeLemmas.{length_changed}
use Rattle.mc_guests.proofs.LeftLemmas.{same_long}
use Rattle.mc_guests.proofs.SwapLemmas.{place, place_back, place_one, swap_reads, changed_here, changed_other}
use Rattle.mc_worker_laws.proofs.CountLemmas.{Answers, many_of, one_of, one_in_row, how_many_stand, sum_kept, sum_mapped, sum_swapped, sum_cut, many_none, many_more, many_one}

module _ {A : Type 0} where
  pub get_left : (xs ys : List A) (i : ℕ) (x : A) → slice_get xs i ≡ Some x → slice_get (xs ++ ys) i ≡ Some x
  get_left [] ys i x is = absurd (none-some x is)
  get_left (y ∷ xs) ys zero x is = is
  get_left (y ∷ xs) ys (suc i) x is = get_left xs ys i x is

  pub get_some : (xs : List A) (i : ℕ) → i < length xs → (x : A) × (slice_get xs i ≡ Some x)
  get_some [] i h = absurd (omega (arith, h))
  get_some (y ∷ xs) zero h = (y, refl)
  get_some (y ∷ xs) (suc i) h = get_some xs i (omega (arith, h))

  pub get_end : (xs : List A) (x : A) → slice_get (xs ++ x ∷ []) (length xs) ≡ Some x
  get_end [] x = refl
  get_end (y ∷ xs) x = get_end xs x

  -- what stands in a list with one more stands in the list, or is that one
  pub get_last : (xs : List A) (y : A) (i : ℕ) (x : A) → slice_get (xs ++ y ∷ []) i ≡ Some x → ((i ≢ length xs → slice_get xs i ≡ Some x) × (i ≡ length xs → x ≡ y))
  get_last [] y zero x is = (λ off. absurd (off refl), λ e. sym (same_Some y x is))
  get_last [] y (suc i) x is = absurd (none-some x is)
  get_last (z ∷ xs) y zero x is = (λ off. is, λ e. absurd (omega (arith, e)))
  get_last (z ∷ xs) y (suc i) x is = let r = get_last xs y i x is in (λ off. r.0 (λ e. off (ap (λ (n : ℕ). suc n) e)), λ e. r.1 (omega (arith, e)))

  -- what stands in two lists joined stands in one of them
  pub get_either : (xs ys : List A) (i : ℕ) (x : A) → slice_get (xs ++ ys) i ≡ Some x → (slice_get xs i ≡ Some x) ⊎ ((j : ℕ) × (slice_get ys j ≡ Some x))
  get_either [] ys i x is = inr (i, is)
  get_either (y ∷ xs) ys zero x is = inl is
  get_either (y ∷ xs) ys (suc i) x is = get_either xs ys i x is

  pub get_take : (m : ℕ) (xs : List A) (i : ℕ) → i < m → slice_get (take m xs) i ≡ slice_get xs i
  get_take zero xs i h = absurd (omega arith)
  get_take (suc m) [] i h = refl
  get_take (suc m) (x ∷ xs) zero h = refl
  get_take (suc m) (x ∷ xs) (suc i) h = get_take m xs i (omega arith)

  pub get_drop : (k : ℕ) (xs : List A) (i j : ℕ) → j ≡ k + i → slice_get (drop k xs) i ≡ slice_get xs j
  get_drop zero xs i j e = let same : i ≡ j = omega arith in ap (slice_get xs) same
  get_drop (suc k) [] i j e = refl
  get_drop (suc k) (x ∷ xs) i zero e = absurd (omega arith)
  get_drop (suc k) (x ∷ xs) i (suc j) e = get_drop k xs i j (omega arith)

  pub get_swapped : (xs : List A) (one other k : ℕ) (x : A) → one < length xs → other < length xs → slice_get xs k ≡ Some x → slice_get (swap xs one other) (place one other k) ≡ Some x
  get_swapped xs one other k x first second is = swap_reads xs one other (place one other k) first second ∙ ap (slice_get xs) (place_back one other k) ∙ is

-- One row of guests became another, and these went: whose place in the one each place of the other has, and that each is there or had ended.
-- Of those that are counted, as many as before stand or went.
pub record Moves (went : List GuestState) (old new : List RowGuest) : Type 0 where
  pub from : ℕ → ℕ
  pub came : (k : ℕ) (x : RowGuest) → slice_get new k ≡ Some x → (y : RowGuest) × (slice_get old (from k) ≡ Some y) × (y.guest ≡ x.guest)
  pub one : (j k : ℕ) → j < length new → k < length new → from j ≡ from k → j ≡ k
  pub all : (k : ℕ) (y : RowGuest) → slice_get old k ≡ Some y → ((j : ℕ) × (j < length new) × (from j ≡ k)) ⊎ IsTrue (has_ended y.guest.last)
  pub many : (ended : Answers) → how_many_stand ended old ≡ how_many_stand ended new + many_of ended went

pub moves_none : (xs : List RowGuest) → Moves [] xs xs
moves_none xs = record {
  from = λ k. k;
  came = λ k x is. (x, is, refl);
  one = λ j k a b e. e;
  all = λ k y is. inl (k, slice_get_within xs k y is, refl);
  many = λ ended. (let z = many_none ended in omega (arith, z));
}

module _ (went more : List GuestState) (a b c : List RowGuest) (f : Moves went a b) (g : Moves more b c) where
  came_both : (k : ℕ) (x : RowGuest) → slice_get c k ≡ Some x → (y : RowGuest) × (slice_get a (f.from (g.from k)) ≡ Some y) × (y.guest ≡ x.guest)
  came_both k x is = let m = g.came k x is in let o = f.came (g.from k) m.0 m.1 in (o.0, o.1, o.2 ∙ m.2)

  within_mid : (k : ℕ) → k < length c → g.from k < length b
  within_mid k h = let x = get_some c k h in let m = g.came k x.0 x.1 in slice_get_within b (g.from k) m.0 m.1

  all_both : (k : ℕ) (y : RowGuest) → slice_get a k ≡ Some y → ((j : ℕ) × (j < length c) × (f.from (g.from j) ≡ k)) ⊎ IsTrue (has_ended y.guest.last)
  all_both k y is = elim (f.all k y is) [
    | inr ended ↦ inr ended
    | inl there ↦ on there
  ]
    where
      on : ((j : ℕ) × (j < length b) × (f.from j ≡ k)) → ((j : ℕ) × (j < length c) × (f.from (g.from j) ≡ k)) ⊎ IsTrue (has_ended y.guest.last)
      on (j, within, same) =
          let z = get_some b j within in
          let o = f.came j z.0 z.1 in
          let e : y ≡ o.0 = same_Some y o.0 (sym is ∙ ap (slice_get a) (sym same) ∙ o.1) in
          elim (g.all j z.0 z.1) [
            | inl w ↦ inl (w.0, w.1, ap f.from w.2 ∙ same)
            | inr ended ↦ inr (ap (λ (r : RowGuest). has_ended r.guest.last) e ∙ ap (λ (s : GuestState). has_ended s.last) o.2 ∙ ended)
          ]

  pub moves_then : Moves (went ++ more) a c
  moves_then = record {
    from = λ k. f.from (g.from k);
    came = came_both;
    one = λ j k p q e. g.one j k p q (f.one (g.from j) (g.from k) (within_mid j p) (within_mid k q) e);
    all = all_both;
    many = λ ended. (let p = f.many ended in let q = g.many ended in let r = many_more ended went more in omega (arith, p, q, r));
  }

pub moves_changed : (f : RowGuest → RowGuest) → ((x : RowGuest) → (f x).guest ≡ x.guest) → (at : ℕ) (xs : List RowGuest) → Moves [] xs (changed f at xs)
moves_changed f keeps at xs = record {
  from = λ k. k;
  came = λ k x is.
      let y = get_some xs k (let long = length_changed f at xs in let w = slice_get_within (changed f at xs) k x is in omega (arith, long, w)) in (
        y.0,
        y.1,
        elim (eqb_tells k at) [
          | inl hit ↦
              (let e : f y.0 ≡ x = same_Some (f y.0) x (sym (changed_here f at xs y.0 (ap (slice_get xs) (sym hit.1) ∙ y.1)) ∙ ap (slice_get (changed f at xs)) (sym hit.1) ∙ is) in
              sym (keeps y.0) ∙ ap (λ (r : RowGuest). r.guest) e)
          | inr miss ↦
              (let e : y.0 ≡ x = same_Some y.0 x (sym y.1 ∙ sym (changed_other f at k xs miss.1) ∙ is) in
              ap (λ (r : RowGuest). r.guest) e)
        ],
      );
  one = λ j k a b e. e;
  all = λ k y is. inl (k, (let long = length_changed f at xs in let w = slice_get_within xs k y is in omega (arith, long, w)), refl);
  many = λ ended. (let s = sum_kept (one_in_row ended) f (λ x. ap (one_of ended) (keeps x)) at xs in let z = many_none ended in omega (arith, s, z));
}

-- guests that are counted anew for what has left the store
left_of : (o : Option RowGuest) (x : RowGuest) → option_map (reads_left 0) o ≡ Some (reads_left 0 x) → (y : RowGuest) × (o ≡ Some y) × (y.guest ≡ x.guest)
left_of None x is = absurd (none-some (reads_left 0 x) is)
left_of (Some y) x is = (y, refl, ap (λ (r : RowGuest). r.guest) (same_Some (reads_left 0 y) (reads_left 0 x) is))

pub moves_left : (old new : RowState) → SameButLeft old new → Moves [] old.guests new.guests
moves_left old new same = record {
  from = λ k. k;
  came = λ k x is.
      left_of (slice_get old.guests k) x
      (sym (slice_get-map (reads_left 0) old.guests k) ∙ ap (λ (l : List RowGuest). slice_get l k) (sym same.guests) ∙ slice_get-map (reads_left 0) new.guests k ∙ ap (option_map (reads_left 0)) is);
  one = λ j k a b e. e;
  all = λ k y is. inl (k, (let long = same_long old new same in let w = slice_get_within old.guests k y is in omega (arith, long, w)), refl);
  many = λ ended.
      let w : RowGuest → ℕ = one_in_row ended in
      let a = sum_mapped w (reads_left 0) (λ x. refl) old.guests in
      let b = sum_mapped w (reads_left 0) (λ x. refl) new.guests in
      let e : sum_by w (map (reads_left 0) new.guests) ≡ sum_by w (map (reads_left 0) old.guests) = ap (sum_by w) same.guests in
      let z = many_none ended in omega (arith, a, b, e, z);
}

pub moves_swapped : (one other : ℕ) (xs : List RowGuest) → one < length xs → other < length xs → Moves [] xs (swap xs one other)
moves_swapped one other xs first second = record {
  from = place one other;
  came = λ k x is. (x, sym (swap_reads xs one other k first second) ∙ is, refl);
  one = λ j k a b e. sym (place_back one other j) ∙ ap (place one other) e ∙ place_back one other k;
  all = λ k y is. inl (
    place one other k,
    slice_get_within (swap xs one other) (place one other k) y (get_swapped xs one other k y first second is),
    place_back one other k,
  );
  many = λ ended. (let s = sum_swapped (one_in_row ended) one other xs first second in let z = many_none ended in omega (arith, s, z));
}

-- the last is cut off, which had ended
pub moves_cut : (end : ℕ) (xs : List RowGuest) (it : RowGuest) → length xs ≡ end + 1 → slice_get xs end ≡ Some it → IsTrue (has_ended it.guest.last) → Moves (it.guest ∷ []) xs (take end xs)
moves_cut end xs it long is ended = record {
  from = λ k. k;
  came = λ k x there.
      let taken = length-take-le end xs (omega (arith, long)) in
      let w = slice_get_within (take end xs) k x there in
      (x, sym (get_take end xs k (omega (arith, taken, w))) ∙ there, refl);
  one = λ j k a b e. e;
  all = λ k y there.
      let w = slice_get_within xs k y there in
      let taken = length-take-le end xs (omega (arith, long)) in
      elim (cases_lt k end) [
        | inl less ↦ inl (k, omega (arith, taken, less), refl)
        | inr more ↦
            (let e : end ≡ k = omega (arith, w, more, long) in
            let same : it ≡ y = same_Some it y (sym is ∙ ap (slice_get xs) e ∙ there) in
            inr (ap (λ (r : RowGuest). has_ended r.guest.last) (sym same) ∙ ended))
      ];
  many = λ ended_so. (let s = sum_cut (one_in_row ended_so) end xs it long is in let o = many_one ended_so it.guest in omega (arith, s, o));
}

-- The guest at a place goes, which had ended: it changes places with the last that is awake, that one with the last of all.
pub moves_gone : (xs : List RowGuest) (at one : ℕ) (it : RowGuest) → slice_get xs at ≡ Some it → one < length xs → IsTrue (has_ended it.guest.last)
    → Moves (it.guest ∷ []) xs (take (length xs - 1) (swap (swap xs at one) one (length xs - 1)))
moves_gone xs at one it here first ended =
    let end : ℕ = length xs - 1 in
    let within : at < length xs = slice_get_within xs at it here in
    let ys : List RowGuest = swap xs at one in
    let long : length (swap xs at one) ≡ length xs = length-swap xs at one in
    let zs : List RowGuest = swap ys one end in
    let long_too : length (swap ys one end) ≡ length ys = length-swap ys one end in
    let mid : slice_get ys one ≡ Some it = ap (slice_get ys) (sym (place_one at one)) ∙ get_swapped xs at one at it within first here in
    let last : slice_get zs end ≡ Some it = ap (slice_get zs) (sym (place_one one end)) ∙ get_swapped ys one end one it (omega (arith, long, first)) (omega (arith, long, within)) mid in
    moves_then [] (it.guest ∷ []) xs ys (take end zs) (moves_swapped at one xs within first)
    (moves_then [] (it.guest ∷ []) ys zs (take end zs) (moves_swapped one end ys (omega (arith, long, first)) (omega (arith, long, within)))
    (moves_cut end zs it (omega (arith, long, long_too, within)) last ended))
