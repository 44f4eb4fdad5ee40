-- What becomes of one guest while the door is opened, and who is let in.
use Rattle.std.specs.Prelude.{◌==◌, ◌&&◌, count_by, if◌then◌else◌}
use Rattle.std.proofs.Common.{◌≡◌, ◌⊎◌, inl, inr, ℕ, ◌+◌, Bool, true, false, List, [], ◌∷◌, ◌++◌, length, refl, sym, ap, ◌∙◌, subst, arith, append_assoc, append-nil}
use Rattle.mc_time.specs.Chains.{Repeats, none_yet, one_more}
use Rattle.mc_shared.specs.Asking.{AskingState}
use Rattle.mc_guests.specs.Links.{LinkState}
use Rattle.mc_guests.specs.Guests.{GuestState, welcomed, newcomer}
use Rattle.mc_guests.specs.Books.{BooksState, let_in as let_in_books, one_more as one_more_of}
use Rattle.mc_guests.specs.Admissions.{Opens, link as of_link, none_now, none_more, over, LinkCame, OpensForAll, as_many, then_none}
use Rattle.mc_guests.specs.Admissions.{WakesOneNamed, WakesAllNamed, WakesAfter, ComesNothing}
use Rattle.mc_guests.specs.declared.admission.Admission.{Admission}
use Rattle.mc_guests.specs.declared.link_calls.LinkCalls.{LinkCalls}
use Rattle.mc_guests.specs.declared.guests.WorkEnd.{WorkEnd}
use Rattle.mc_guests.specs.Arrivals.{Arrival, is_first, admitted, turned_away, came_in, all_came_in, came_between}
use Rattle.mc_guests.proofs.ArrivalLemmas.{away_both}
use Rattle.mc_worker_laws.specs.Traces.{AreCounted, AreAllOf}
use Rattle.mc_worker_laws.proofs.CountLemmas.{with_link, many_none, many_more, links_more, away_counts, counts_refused}
use Rattle.mc_worker_laws.proofs.CarryLemmas.{Sound, Carries, carries_then, carries_none, carries_to, wakes_carry, Leaves, counts_none, let_in_sound, let_in_moves}
use Rattle.mc_worker_laws.proofs.TracedLemmas.{Traced, traced_moved, traced_more}

named_carry : (count : ℕ) (old new : LinkCalls × BooksState) → Repeats WakesOneNamed count old new → Carries [] old.1 new.1
named_carry total old new none_yet = carries_none old.1
named_carry total old new (one_more {count = count} {mid = mid} front last) =
    carries_then old.1 mid.1 new.1 (named_carry count old mid front) (wakes_carry last.number mid.1 new.1 last.wakes)

all_named_carry : (talk : LinkCalls) (old : BooksState) (later : LinkCalls) (new : BooksState) → WakesAllNamed talk old later new → Carries [] old new
all_named_carry talk old later new w = named_carry w.wakes.0 (talk, old) (w.last, new) w.wakes.1

nothing_carries : (is_quiet : Bool) (talk : LinkCalls) (old : BooksState) (later : LinkCalls) (new : BooksState) → ComesNothing is_quiet talk old later new → Carries [] old new
nothing_carries is_quiet talk old later new none =
    carries_then old none.between new (all_named_carry talk old none.last none.between none.wakes) (after _ none.between (is_quiet && none.last.names == 0) none.rests)
  where
    after : (mid : LinkCalls) (between : BooksState) (b : Bool) → WakesAfter b mid between later new → Carries [] between new
    after mid between true w = all_named_carry mid between later new w
    after mid between false w = carries_to (carries_none between) w.1

-- links came, and more
put_first : {A : Type 0} (b : Bool) (x : A) (xs ys : List A) → (if b then x ∷ (xs ++ ys) else xs ++ ys) ≡ (if b then x ∷ xs else xs) ++ ys
put_first true x xs ys = refl
put_first false x xs ys = refl

pub admitted_more : (came more : List Arrival) → admitted (came ++ more) ≡ admitted came ++ admitted more
admitted_more [] more = refl
admitted_more (a ∷ came) more =
    ap (λ (l : List (ℕ × LinkState)). if a.is_admitted then (a.most, a.state) ∷ l else l) (admitted_more came more)
    ∙ put_first a.is_admitted (a.most, a.state) (admitted came) (admitted more)

away_one : (b : Bool) (x : LinkState) (all xs ys : List LinkState) → length all ≡ length xs + length ys
    → length (if b then all else x ∷ all) ≡ length (if b then xs else x ∷ xs) + length ys
away_one true x all xs ys e = e
away_one false x all xs ys e = omega (arith, e)

pub away_more : (came more : List Arrival) → length (turned_away (came ++ more)) ≡ length (turned_away came) + length (turned_away more)
away_more [] more = omega arith
away_more (a ∷ came) more = away_one a.is_admitted a.state (turned_away (came ++ more)) (turned_away came) (turned_away more) (away_more came more)

module _ {K : Type 0} (hash_of : K → List ℕ → ℕ) (may_give : ℕ → Type 0) (begin : AskingState K) where
  -- a worker's guests have a trace, and what it counts is what became of those that are gone, and of the links that were refused; these were let go
  pub record BooksTraced (came : List Arrival) (links : List LinkState) (books : BooksState) (a : AskingState K) (end : WorkEnd) : Type 0 where
    pub sound : Sound books
    pub gone : List GuestState
    pub traced : Traced hash_of may_give begin (admitted came) gone books.row.guests a
    pub counted : AreCounted gone (length (turned_away came)) end
    pub let_go : AreAllOf gone (turned_away came) links

  pub traced_left : (came : List Arrival) (links more : List LinkState) (old new : BooksState) (a : AskingState K) (before after : WorkEnd) → Leaves more old new before after
      → BooksTraced came links old a before → BooksTraced came (links ++ more) new a after
  traced_left came links more old new a before after l t = record {
    sound = l.1.sound t.sound;
    gone = t.gone ++ l.0;
    traced = traced_moved hash_of may_give begin (admitted came) t.gone l.0 old.row.guests new.row.guests a (l.1.moves t.sound) t.traced;
    counted = l.2 t.gone (length (turned_away came)) t.counted;
    let_go = λ counts. (
        let p = t.let_go counts in
        let q = l.3 counts in
        let r = many_more (with_link counts) t.gone l.0 in
        let s = links_more counts links more in
        omega (arith, p, q, r, s)
        );
  }

  pub traced_carried : (came : List Arrival) (links : List LinkState) (old new : BooksState) (a : AskingState K) (end : WorkEnd) → Carries [] old new → BooksTraced came links old a end
      → BooksTraced came links new a end
  traced_carried came links old new a end c t =
      subst (λ (l : List LinkState). BooksTraced came l new a end) (append-nil links)
      (traced_left came links [] old new a end end ([], c, counts_none end end refl, λ counts. refl) t)

  -- no link came
  none_came : (came : List Arrival) (links : List LinkState) (books : BooksState) (a : AskingState K) (end : WorkEnd) → BooksTraced came links books a end
      → BooksTraced (came ++ []) (links ++ []) books a end
  none_came came links books a end t =
      subst (λ (c : List Arrival). BooksTraced c (links ++ []) books a end) (sym (append-nil came))
      (subst (λ (l : List LinkState). BooksTraced came l books a end) (sym (append-nil links)) t)

  module _ (a : AskingState K) where
    -- what came of a link
    abbrev NextAnswer : (greatest number : ℕ) (link : LinkState) (old new : BooksState) (before after : WorkEnd) → Type 0
    NextAnswer greatest number link old new before after =
        ((new ≡ let_in_books (welcomed greatest link) number old) × (after ≡ before))
        ⊎ ((new ≡ record old { gone = new.gone }) × (after ≡ record before { refused = one_more_of before.refused }))

    abbrev one_came : {A B : Type 0} → (greatest : ℕ) (link : LinkState) → A ⊎ B → List Arrival
    one_came greatest link e = record { most = greatest; state = link; is_admitted = is_first e } ∷ []

    comes_in : (came : List Arrival) (links : List LinkState) (greatest number : ℕ) (link : LinkState) (old new : BooksState) (before after : WorkEnd)
        → (e : NextAnswer greatest number link old new before after) → BooksTraced came links old a before
        → BooksTraced (came ++ one_came greatest link e) (links ++ turned_away (one_came greatest link e)) new a after
    comes_in came links greatest number link old new before after (inl is) t =
        let arrival : Arrival = record { most = greatest; state = link; is_admitted = true } in
        subst (λ (b : BooksState). BooksTraced (came ++ arrival ∷ []) (links ++ []) b a after) (sym is.0) (
        subst (BooksTraced (came ++ arrival ∷ []) (links ++ []) (let_in_books (welcomed greatest link) number old) a) (sym is.1) (record {
          sound = let_in_sound (welcomed greatest link) number old t.sound;
          gone = t.gone ++ [];
          traced = subst (λ (l : List (ℕ × LinkState)). Traced hash_of may_give begin l (t.gone ++ []) (let_in_books (welcomed greatest link) number old).row.guests a)
              (sym (admitted_more came (arrival ∷ [])))
              (traced_moved hash_of may_give begin (admitted came ++ (greatest, link) ∷ []) t.gone [] (old.row.guests ++ newcomer (welcomed greatest link) ∷ [])
              (let_in_books (welcomed greatest link) number old).row.guests a (let_in_moves (welcomed greatest link) number old t.sound)
              (traced_more hash_of may_give begin (admitted came) t.gone old.row.guests a greatest link t.traced));
          counted =
              let same : length (turned_away came) ≡ length (turned_away came) + 0 = omega arith in
              subst (λ (n : ℕ). AreCounted (t.gone ++ []) n before) (sym (away_more came (arrival ∷ [])))
              (counts_none before before refl t.gone (length (turned_away came) + 0) (subst (λ (n : ℕ). AreCounted t.gone n before) same t.counted));
          let_go = λ counts. (
              let p = t.let_go counts in
              let q = links_more counts links [] in
              let r = many_more (with_link counts) t.gone [] in
              let s : count_by counts (turned_away (came ++ arrival ∷ [])) ≡ count_by counts (turned_away came) + 0 = away_counts counts came (arrival ∷ []) in
              let z : count_by counts [] ≡ 0 = refl in
              let y = many_none (with_link counts) in
              omega (arith, p, q, r, s, z, y)
              );
        }))
    comes_in came links greatest number link old new before after (inr is) t =
        let arrival : Arrival = record { most = greatest; state = link; is_admitted = false } in
        subst (λ (b : BooksState). BooksTraced (came ++ arrival ∷ []) (links ++ link ∷ []) b a after) (sym is.0) (
        subst (BooksTraced (came ++ arrival ∷ []) (links ++ link ∷ []) (record old { gone = new.gone }) a) (sym is.1) (record {
          sound = t.sound;
          gone = t.gone;
          traced = subst (λ (l : List (ℕ × LinkState)). Traced hash_of may_give begin l t.gone old.row.guests a)
              (sym (admitted_more came (arrival ∷ []) ∙ append-nil (admitted came))) t.traced;
          counted = subst (λ (n : ℕ). AreCounted t.gone n (record before { refused = one_more_of before.refused })) (sym (away_more came (arrival ∷ [])))
              (counts_refused t.gone (length (turned_away came)) before t.counted);
          let_go = λ counts. (
              let p = t.let_go counts in
              let q = links_more counts links (link ∷ []) in
              let s : count_by counts (turned_away (came ++ arrival ∷ [])) ≡ count_by counts (turned_away came) + count_by counts (link ∷ []) = away_counts counts came (arrival ∷ []) in
              omega (arith, p, q, s)
              );
        }))

    pub opens_traced : {is_quiet goes_on : Bool} {door later : Admission} {old new : BooksState} {before after : WorkEnd} (came : List Arrival) (links : List LinkState)
        → (opens : Opens is_quiet door later old new before after goes_on) → BooksTraced came links old a before
        → BooksTraced (came ++ came_in opens) (links ++ turned_away (came_in opens)) new a after
    opens_traced came links (of_link {door = door} {talk = talk} {old = old} {between = between} {new = new} {before = before} {after = after} lets wakes) t =
        traced_carried _ _ between new a after (all_named_carry _ between talk new wakes)
        (comes_in came links door.greatest door.opened lets.link old between before after lets.either t)
    opens_traced {is_quiet} {old = old} {new = new} {after = end} came links (none_now {talk = talk} nothing) t =
        none_came came links new a end (traced_carried came links old new a end (nothing_carries is_quiet _ old talk new nothing) t)
    opens_traced {is_quiet} {old = old} {new = new} {after = end} came links (none_more {talk = talk} some nothing) t =
        none_came came links new a end (traced_carried came links old new a end (nothing_carries is_quiet _ old talk new nothing) t)
    opens_traced {old = old} {after = end} came links (over none) t = none_came came links old a end t

    -- those that came and were refused before, and then
    both_traced : (came first more : List Arrival) (links : List LinkState) (books : BooksState) (end : WorkEnd)
        → BooksTraced ((came ++ first) ++ more) ((links ++ turned_away first) ++ turned_away more) books a end
        → BooksTraced (came ++ (first ++ more)) (links ++ turned_away (first ++ more)) books a end
    both_traced came first more links books end t =
        subst (λ (c : List Arrival). BooksTraced c (links ++ turned_away (first ++ more)) books a end) (append_assoc came first more)
        (subst (λ (l : List LinkState). BooksTraced ((came ++ first) ++ more) l books a end)
        (append_assoc links (turned_away first) (turned_away more) ∙ ap (λ (l : List LinkState). links ++ l) (sym (away_both first more))) t)

    pub came_traced : (count : ℕ) (old new : Admission × BooksState × WorkEnd) (came : List Arrival) (links : List LinkState) → (opens : Repeats LinkCame count old new)
        → BooksTraced came links old.1 a old.2 → BooksTraced (came ++ all_came_in opens) (links ++ turned_away (all_came_in opens)) new.1 a new.2
    came_traced total old new came links none_yet t = none_came came links old.1 a old.2 t
    came_traced total old new came links (one_more {count = count} {mid = mid} front last) t =
        both_traced came (all_came_in front) (came_in last.opens) links new.1 new.2
        (opens_traced (came ++ all_came_in front) (links ++ turned_away (all_came_in front)) last.opens (came_traced count old mid came links front t))

    pub all_traced : {goes_on : Bool} {door later : Admission} {old new : BooksState} {before after : WorkEnd} (came : List Arrival) (links : List LinkState)
        → (opens : OpensForAll door later old new before after goes_on) → BooksTraced came links old a before
        → BooksTraced (came ++ came_between opens) (links ++ turned_away (came_between opens)) new a after
    all_traced {door = door} {later = later} {old = old} {new = new} {before = before} {after = after} came links (as_many opens) t =
        came_traced 32 (door, old, before) (later, new, after) came links opens t
    all_traced {door = door} {old = old} {new = new} {before = before} {after = after} came links (then_none {count = count} {last = last} {between = between} {mid = mid} few opens last_opens none) t =
        both_traced came (all_came_in opens) (came_in last_opens) links new after
        (opens_traced (came ++ all_came_in opens) (links ++ turned_away (all_came_in opens)) last_opens (came_traced count (door, old, before) (last, between, mid) came links opens t))

opens_over : {is_quiet goes_on : Bool} {door later : Admission} {old new : BooksState} {before after : WorkEnd}
    → Opens is_quiet door later old new before after goes_on → goes_on ≡ false → length new.row.guests ≡ 0
opens_over (of_link lets wakes) is = absurd (cc)
opens_over (none_now nothing) is = absurd (cc)
opens_over (none_more some nothing) is = absurd (cc)
opens_over (over none) is = none

-- where nothing can come any more no guest stands
pub all_over : {goes_on : Bool} {door later : Admission} {old new : BooksState} {before after : WorkEnd}
    → OpensForAll door later old new before after goes_on → goes_on ≡ false → length new.row.guests ≡ 0
all_over (as_many came) is = absurd (cc)
all_over (then_none few came opens none) is = opens_over opens is
