-- A row of guests, and the trace of all that ever were.
use Rattle.std.specs.Prelude.{slice_get, cond}
use Rattle.std.proofs.Common.{◌≡◌, ◌≢◌, ◌⊎◌, inl, inr, ℕ, zero, suc, ◌+◌, ◌<◌, ◌≤◌, Bool, true, false, eqb, List, [], ◌∷◌, ◌++◌, length, Some, refl, sym, ap, ◌∙◌, subst, arith, IsTrue, length-append}
use Rattle.std.proofs.Common.{append_assoc}
use Rattle.std.proofs.lemmas.Bool.Decides.{eqb_tells}
use Rattle.std.proofs.lemmas.List.Sums.{sum_by_push}
use Rattle.std.proofs.lemmas.Option.{same_Some, slice_get_within}
use Rattle.mc_shared.specs.Asking.{AskingState}
use Rattle.mc_guests.specs.Links.{LinkState}
use Rattle.mc_guests.specs.Guests.{GuestState, RowGuest, welcomed, newcomer, has_ended}
use Rattle.mc_guests.specs.Books.{changed}
use Rattle.mc_guests.specs.Turns.{HasTurn}
use Rattle.mc_guests.specs.Visits.{OneByOne}
use Rattle.mc_guests.specs.declared.budget.Budget.{Budget}
use Rattle.mc_guests.proofs.SwapLemmas.{changed_here, changed_other, changed_sum}
use Rattle.mc_workers.specs.Rounds.{as_caller}
use Rattle.mc_worker_laws.specs.Traces.{Trace, comes, visits, waits}
use Rattle.mc_worker_laws.proofs.CountLemmas.{Answers, many_of, one_of, one_in_row, how_many_stand, sum_mid, many_more}
use Rattle.mc_worker_laws.proofs.RowLemmas.{get_left, get_some, get_end, get_last, Moves}

-- a row in whose middle one stands
module _ {A : Type 0} where
  get_mid : (front rest : List A) (x : A) → slice_get (front ++ x ∷ rest) (length front) ≡ Some x
  get_mid [] rest x = refl
  get_mid (y ∷ front) rest x = get_mid front rest x

  get_off : (front rest : List A) (x y : A) (k : ℕ) → k ≢ length front → slice_get (front ++ x ∷ rest) k ≡ slice_get (front ++ y ∷ rest) k
  get_off [] rest x y zero off = absurd (off refl)
  get_off [] rest x y (suc k) off = refl
  get_off (z ∷ front) rest x y zero off = refl
  get_off (z ∷ front) rest x y (suc k) off = get_off front rest x y k (λ e. off (ap (λ (n : ℕ). suc n) e))

  long_mid : (front rest : List A) (x y : A) → length (front ++ x ∷ rest) ≡ length (front ++ y ∷ rest)
  long_mid [] rest x y = refl
  long_mid (z ∷ front) rest x y = ap (λ (n : ℕ). suc n) (long_mid front rest x y)

module _ {K : Type 0} (hash_of : K → List ℕ → ℕ) (may_give : ℕ → Type 0) (begin : AskingState K) where
  -- There is a trace, and each guest of the row is one of its guests, each another. Those that aren't in the row have ended. Of those that are
  -- counted, as many stand in the row or are gone.
  pub record Traced (links : List (ℕ × LinkState)) (gone : List GuestState) (row : List RowGuest) (a : AskingState K) : Type 0 where
    pub guests : List GuestState
    pub trace : Trace hash_of may_give begin links guests a
    pub id : ℕ → ℕ
    pub here : (k : ℕ) (x : RowGuest) → slice_get row k ≡ Some x → slice_get guests (id k) ≡ Some x.guest
    pub one : (j k : ℕ) → j < length row → k < length row → id j ≡ id k → j ≡ k
    pub all : (i : ℕ) (g : GuestState) → slice_get guests i ≡ Some g → ((k : ℕ) × (k < length row) × (id k ≡ i)) ⊎ IsTrue (has_ended g.last)
    pub many : (ended : Answers) → many_of ended guests ≡ how_many_stand ended row + many_of ended gone

  pub traced_moved : (links : List (ℕ × LinkState)) (gone went : List GuestState) (old new : List RowGuest) (a : AskingState K) → Moves went old new → Traced links gone old a
      → Traced links (gone ++ went) new a
  traced_moved links gone went old new a m t = record {
    guests = t.guests;
    trace = t.trace;
    id = λ k. t.id (m.from k);
    here = λ k x is. (let y = m.came k x is in t.here (m.from k) y.0 y.1 ∙ ap (λ (g : GuestState). Some g) y.2);
    one = λ j k p q e. m.one j k p q (t.one (m.from j) (m.from k) (inside j p) (inside k q) e);
    all = λ i g is. elim (t.all i g is) [ inr ended ↦ inr ended | inl there ↦ all i g is there ];
    many = λ ended. (let p = t.many ended in let q = m.many ended in let r = many_more ended gone went in omega (arith, p, q, r));
  }
    where
      inside : (k : ℕ) → k < length new → m.from k < length old
      inside k h = let x = get_some new k h in let y = m.came k x.0 x.1 in slice_get_within old (m.from k) y.0 y.1

      all : (i : ℕ) (g : GuestState) → slice_get t.guests i ≡ Some g → ((k : ℕ) × (k < length old) × (t.id k ≡ i))
          → ((k : ℕ) × (k < length new) × (t.id (m.from k) ≡ i)) ⊎ IsTrue (has_ended g.last)
      all i g is (k, within, same) =
          let y = get_some old k within in
          elim (m.all k y.0 y.1) [
            | inl j ↦ inl (j.0, j.1, ap t.id j.2 ∙ same)
            | inr ended ↦
                (let e : g ≡ y.0.guest = same_Some g y.0.guest (sym is ∙ ap (slice_get t.guests) (sym same) ∙ t.here k y.0 y.1) in
                inr (ap (λ (s : GuestState). has_ended s.last) e ∙ ended))
          ]

  -- the trace went on, and changed at most the guest that stands in the middle
  module _ (links : List (ℕ × LinkState)) (gone : List GuestState) (front rest : List RowGuest) (o n : RowGuest) (a b : AskingState K) (t : Traced links gone (front ++ o ∷ rest) a)
      (later : List GuestState) (trace : Trace hash_of may_give begin links later b) (it : slice_get later (t.id (length front)) ≡ Some n.guest)
      (off : (j : ℕ) → j ≢ t.id (length front) → slice_get later j ≡ slice_get t.guests j)
      (one_changed : (ended : Answers) → many_of ended later + one_of ended o.guest ≡ many_of ended t.guests + one_of ended n.guest) where
    place_within : length front < length (front ++ o ∷ rest)
    place_within = slice_get_within (front ++ o ∷ rest) (length front) o (get_mid front rest o)

    still : (k : ℕ) → k < length (front ++ n ∷ rest) → k < length (front ++ o ∷ rest)
    still k h = let e = long_mid front rest n o in omega (arith, e, h)

    traced_on : Traced links gone (front ++ n ∷ rest) b
    traced_on = record {
      guests = later;
      trace = trace;
      id = t.id;
      here = λ k x is. elim (eqb_tells k (length front)) [
        | inl hit ↦
            (let e : n ≡ x = same_Some n x (sym (get_mid front rest n) ∙ ap (slice_get (front ++ n ∷ rest)) (sym hit.1) ∙ is) in
            ap (λ (j : ℕ). slice_get later (t.id j)) hit.1 ∙ it ∙ ap (λ (r : RowGuest). Some r.guest) e)
        | inr miss ↦
            off (t.id k) (λ e. miss.1 (t.one k (length front) (still k (slice_get_within (front ++ n ∷ rest) k x is)) place_within e))
            ∙ t.here k x (get_off front rest o n k miss.1 ∙ is)
      ];
      one = λ j k p q e. t.one j k (still j p) (still k q) e;
      all = λ i g is. elim (eqb_tells i (t.id (length front))) [
        | inl hit ↦ inl (length front, (let e = long_mid front rest n o in let w = place_within in omega (arith, e, w)), sym hit.1)
        | inr miss ↦ elim (t.all i g (sym (off i miss.1) ∙ is)) [
          | inl there ↦ inl (there.0, (let e = long_mid front rest n o in let w = there.1 in omega (arith, e, w)), there.2)
          | inr ended ↦ inr ended
        ]
      ];
      many = λ ended. (
          let p = t.many ended in
          let q = one_changed ended in
          let r = sum_mid (one_in_row ended) front rest o n in
          omega (arith, p, q, r)
          );
    }

  module _ (now : ℕ) (gives : may_give now) where
    turn_traced : (links : List (ℕ × LinkState)) (gone : List GuestState) (front rest : List RowGuest) (o n : RowGuest) (before after : AskingState K × Budget)
        → HasTurn (as_caller hash_of) now before (o, n) after → Traced links gone (front ++ o ∷ rest) before.0 → Traced links gone (front ++ n ∷ rest) after.0
    turn_traced links gone front rest o n before after h t =
        let at : ℕ = t.id (length front) in
        let here : slice_get t.guests (t.id (length front)) ≡ Some o.guest = t.here (length front) o (get_mid front rest o) in
        elim h.turn [
          | inl v ↦ on (visits at now v.answer o.guest n.guest t.trace here gives v.visits)
          | inr w ↦ on (waits at now o.guest n.guest t.trace here gives w.kept)
        ]
      where
        on : Trace hash_of may_give begin links (changed (λ (_ : GuestState). n.guest) (t.id (length front)) t.guests) after.0 → Traced links gone (front ++ n ∷ rest) after.0
        on trace = traced_on links gone front rest o n before.0 after.0 t (changed (λ (_ : GuestState). n.guest) (t.id (length front)) t.guests) trace
            (changed_here (λ (_ : GuestState). n.guest) (t.id (length front)) t.guests o.guest (t.here (length front) o (get_mid front rest o)))
            (λ j apart. changed_other (λ (_ : GuestState). n.guest) (t.id (length front)) j t.guests apart)
            (λ ended. changed_sum (λ (_ : GuestState). n.guest) (one_of ended) (t.id (length front)) t.guests o.guest (t.here (length front) o (get_mid front rest o)))

    pub turns_traced : (links : List (ℕ × LinkState)) (gone : List GuestState) (front olds news rest : List RowGuest) (before after : AskingState K × Budget)
        → OneByOne (HasTurn (as_caller hash_of) now) olds news before after → Traced links gone (front ++ (olds ++ rest)) before.0 → Traced links gone (front ++ (news ++ rest)) after.0
    turns_traced links gone front [] [] rest before after (long, same) t =
        subst (λ (s : AskingState K × Budget). Traced links gone (front ++ rest) s.0) (sym same) t
    turns_traced links gone front [] (n ∷ news) rest before after (long, goes) t = absurd (omega (arith, long))
    turns_traced links gone front (o ∷ olds) [] rest before after (long, goes) t = absurd (omega (arith, long))
    turns_traced links gone front (o ∷ olds) (n ∷ news) rest before after (long, (mid, step, goes)) t =
        let once = turn_traced links gone front (olds ++ rest) o n before mid step t in
        let moved = subst (λ (l : List RowGuest). Traced links gone l mid.0) (sym (append_assoc front (n ∷ []) (olds ++ rest))) once in
        subst (λ (l : List RowGuest). Traced links gone l after.0) (append_assoc front (n ∷ []) (news ++ rest))
        (turns_traced links gone (front ++ n ∷ []) olds news rest mid after (omega (arith, long), goes) moved)

  -- a link came, and its guest stands behind the others
  module _ (links : List (ℕ × LinkState)) (gone : List GuestState) (row : List RowGuest) (a : AskingState K) (greatest : ℕ) (link : LinkState) (t : Traced links gone row a) where
    abbrev new_id : ℕ → ℕ
    new_id k = cond (eqb k (length row)) (length t.guests) (t.id k)

    abbrev more : List GuestState
    more = t.guests ++ welcomed greatest link ∷ []

    abbrev row_more : List RowGuest
    row_more = row ++ newcomer (welcomed greatest link) ∷ []

    row_long : length row_more ≡ length row + 1
    row_long = length-append row (newcomer (welcomed greatest link) ∷ [])

    id_hit : (k : ℕ) → eqb k (length row) ≡ true → new_id k ≡ length t.guests
    id_hit k hit = ap (λ (b : Bool). cond b (length t.guests) (t.id k)) hit

    id_miss : (k : ℕ) → eqb k (length row) ≡ false → new_id k ≡ t.id k
    id_miss k miss = ap (λ (b : Bool). cond b (length t.guests) (t.id k)) miss

    low : (k : ℕ) → k < length row + 1 → k ≢ length row → k < length row
    low k h off = elim (eqb_tells k (length row)) [ inl hit ↦ absurd (off hit.1) | inr miss ↦ below ]
      where
        below : k < length row
        below = by_less (get_less k (length row))
          where
            get_less : (m n : ℕ) → (m < n) ⊎ (n ≤ m)
            get_less m zero = inr (omega arith)
            get_less zero (suc n) = inl (omega arith)
            get_less (suc m) (suc n) = elim (get_less m n) [ inl l ↦ inl (omega (arith, l)) | inr l ↦ inr (omega (arith, l)) ]

            by_less : (k < length row) ⊎ (length row ≤ k) → k < length row
            by_less (inl l) = l
            by_less (inr l) = absurd (off (omega (arith, l, h)))

    id_low : (k : ℕ) → k < length row → t.id k < length t.guests
    id_low k h = let x = get_some row k h in slice_get_within t.guests (t.id k) x.0.guest (t.here k x.0 x.1)

    new_here : (k : ℕ) (x : RowGuest) → slice_get row_more k ≡ Some x → slice_get more (new_id k) ≡ Some x.guest
    new_here k x is = elim (eqb_tells k (length row)) [
      | inl hit ↦
          (let e : x ≡ newcomer (welcomed greatest link) = (get_last row (newcomer (welcomed greatest link)) k x is).1 hit.1 in
          ap (slice_get more) (id_hit k hit.0) ∙ get_end t.guests (welcomed greatest link) ∙ ap (λ (r : RowGuest). Some r.guest) (sym e))
      | inr miss ↦
          ap (slice_get more) (id_miss k miss.0)
          ∙ get_left t.guests (welcomed greatest link ∷ []) (t.id k) x.guest (t.here k x ((get_last row (newcomer (welcomed greatest link)) k x is).0 miss.1))
    ]

    new_one : (j k : ℕ) → j < length row_more → k < length row_more → new_id j ≡ new_id k → j ≡ k
    new_one j k p q e =
        let long = row_long in
        elim (eqb_tells j (length row)) [
          | inl hj ↦ elim (eqb_tells k (length row)) [
            | inl hk ↦ hj.1 ∙ sym hk.1
            | inr mk ↦ (let w = id_low k (low k (omega (arith, long, q)) mk.1) in let s = sym (id_hit j hj.0) ∙ e ∙ id_miss k mk.0 in absurd (omega (arith, w, s)))
          ]
          | inr mj ↦ elim (eqb_tells k (length row)) [
            | inl hk ↦ (let w = id_low j (low j (omega (arith, long, p)) mj.1) in let s = sym (id_miss j mj.0) ∙ e ∙ id_hit k hk.0 in absurd (omega (arith, w, s)))
            | inr mk ↦ t.one j k (low j (omega (arith, long, p)) mj.1) (low k (omega (arith, long, q)) mk.1) (sym (id_miss j mj.0) ∙ e ∙ id_miss k mk.0)
          ]
        ]

    not_last : (k : ℕ) → k < length row → eqb k (length row) ≡ false
    not_last k h = elim (eqb_tells k (length row)) [
      | inl hit ↦ (let e = hit.1 in absurd (omega (arith, e, h)))
      | inr miss ↦ miss.0
    ]

    new_all : (i : ℕ) (g : GuestState) → slice_get more i ≡ Some g → ((k : ℕ) × (k < length row_more) × (new_id k ≡ i)) ⊎ IsTrue (has_ended g.last)
    new_all i g is = elim (eqb_tells i (length t.guests)) [
      | inl hit ↦ inl (
        length row,
        (let long = row_long in omega (arith, long)),
        elim (eqb_tells (length row) (length row)) [
          | inl same ↦ id_hit (length row) same.0 ∙ sym hit.1
          | inr off ↦ absurd (off.1 refl)
        ],
      )
      | inr miss ↦ elim (t.all i g ((get_last t.guests (welcomed greatest link) i g is).0 miss.1)) [
        | inl there ↦ (let long = row_long in let w = there.1 in inl (there.0, omega (arith, long, w), id_miss there.0 (not_last there.0 w) ∙ there.2))
        | inr ended ↦ inr ended
      ]
    ]

    pub traced_more : Traced (links ++ (greatest, link) ∷ []) gone (row ++ newcomer (welcomed greatest link) ∷ []) a
    traced_more = record {
      guests = more;
      trace = comes greatest link t.trace;
      id = new_id;
      here = new_here;
      one = new_one;
      all = new_all;
      many = λ ended. (
          let p = t.many ended in
          let q = sum_by_push (one_of ended) t.guests (welcomed greatest link) in
          let r = sum_by_push (one_in_row ended) row (newcomer (welcomed greatest link)) in
          omega (arith, p, q, r)
          );
    }
