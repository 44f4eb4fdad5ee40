-- What becomes of one guest of a worker, from its welcome to its end.
use Rattle.std.specs.Prelude.{slice_get}
use Rattle.std.proofs.Common.{◌≡◌, inl, inr, ℕ, zero, suc, ◌+◌, ◌-◌, ◌≤◌, ◌%◌, Bool, true, false, List, [], ◌∷◌, ◌++◌, length, take, drop, Some, append_assoc, append-nil, refl, sym, ap, ◌∙◌, subst, arith, IsTrue, take-append-drop}
use Rattle.std.specs.Prelude.{nat_lt}
use Rattle.std.proofs.lemmas.List.{length-take-le}
use Rattle.std.proofs.lemmas.Option.{none-some}
use Rattle.mc_session.proofs.TurnLemmas.{OneSpelling}
use Rattle.mc_time.specs.Chains.{Repeats, none_yet, one_more}
use Rattle.mc_shelf.specs.Stores.{StoreState}
use Rattle.mc_shared.specs.Shown.{CallerState}
use Rattle.mc_shared.specs.Asking.{AskingState}
use Rattle.mc_guests.specs.Guests.{GuestState, RowGuest, has_ended}
use Rattle.mc_guests.specs.Books.{BooksState}
use Rattle.mc_guests.specs.Turns.{VisitsAwake}
use Rattle.mc_guests.specs.declared.guests.WorkEnd.{WorkEnd}
use Rattle.mc_workers.specs.Tending.{TidiesNext, TidiesInTurn, asked_by, tidied_by}
use Rattle.mc_workers.specs.Rounds.{as_caller, WorkState, RoundState, begins, VisitsAndSettles, MakesFurtherRound, MakesRounds, WorksOnce, WorksOn, WorksToEnd}
use Rattle.mc_worker_laws.specs.Traces.{begun, purged, AreAnswered, all_links, counter, is_served, is_broken, is_refused, AreCounted, AreAllOf}
use Rattle.mc_guests.specs.Arrivals.{Arrival, admitted, turned_away, came_between}
use Rattle.mc_guests.specs.Links.{LinkState}
use Rattle.mc_workers.specs.Came.{came_since, all_came}
use Rattle.mc_workers.specs.Gone.{gone_after, gone_further, gone_in_rounds, gone_once, gone_since, all_let_go}
use Rattle.mc_worker_laws.proofs.CountLemmas.{Answers, many_of, with_link, how_many_stand}
use Rattle.mc_worker_laws.proofs.LifeLemmas.{is_answered}
use Rattle.mc_worker_laws.proofs.TraceLemmas.{trace_lives, trace_long}
use Rattle.mc_worker_laws.proofs.TracedLemmas.{Traced, turns_traced}
use Rattle.mc_worker_laws.proofs.CarryLemmas.{lets_on_carries, all_leave, room_carries}
use Rattle.mc_worker_laws.proofs.GreatestLemmas.{AllMay, all_both, all_most, since_most, admitted_may}
use Rattle.mc_worker_laws.proofs.DoorLemmas.{BooksTraced, traced_left, traced_carried, all_traced, all_over}

take_short : {A : Type 0} (n : ℕ) (xs : List A) → length (take n xs) ≤ length xs
take_short zero xs = omega arith
take_short (suc n) [] = omega arith
take_short (suc n) (x ∷ xs) = let e = take_short n xs in omega (arith, e)

module _ {K : Type 0} (hash_of : K → List ℕ → ℕ) (may_give : ℕ → Type 0) (begin : AskingState K) where
  module _ (now : ℕ) (gives : may_give now) (came : List Arrival) where
    -- the links that were let go before, and then
    both_gone : (links first more : List LinkState) (books : BooksState) (a : AskingState K) (end : WorkEnd) → BooksTraced hash_of may_give begin came ((links ++ first) ++ more) books a end
        → BooksTraced hash_of may_give begin came (links ++ (first ++ more)) books a end
    both_gone links first more books a end t = subst (λ (l : List LinkState). BooksTraced hash_of may_give begin came l books a end) (append_assoc links first more) t

    awake_traced : (links : List LinkState) (old new : BooksState) (before after : AskingState K) (end : WorkEnd) → VisitsAwake (as_caller hash_of) now old new before after
        → BooksTraced hash_of may_give begin came links old before end → BooksTraced hash_of may_give begin came links new after end
    awake_traced links old new before after end v t = record {
      sound =
          let long : length (take old.awake new.row.guests) ≡ length (take old.awake old.row.guests) = v.turns.0 in
          let front = length-take-le old.awake old.row.guests t.sound in
          let less = take_short old.awake new.row.guests in
          let awake : new.awake ≡ old.awake = ap (λ (b : BooksState). b.awake) v.keeps.same in
          omega (arith, long, front, less, awake);
      gone = t.gone;
      traced =
          let whole = subst (λ (l : List RowGuest). Traced hash_of may_give begin (admitted came) t.gone l before) (sym (take-append-drop old.awake old.row.guests)) t.traced in
          let turned = turns_traced hash_of may_give begin now gives (admitted came) t.gone [] (take old.awake old.row.guests) (take old.awake new.row.guests)
          (drop old.awake old.row.guests) (before, old.budget) (after, new.budget) v.turns whole in
          subst (λ (l : List RowGuest). Traced hash_of may_give begin (admitted came) t.gone l after)
          (ap (λ (l : List RowGuest). take old.awake new.row.guests ++ l) (sym v.keeps.asleep) ∙ take-append-drop old.awake new.row.guests) turned;
      counted = t.counted;
      let_go = t.let_go;
    }

    round_traced : (links : List LinkState) (old new : RoundState K) → (round : VisitsAndSettles hash_of now old new) → BooksTraced hash_of may_give begin came links old.1 old.0 old.2
        → BooksTraced hash_of may_give begin came (links ++ gone_after hash_of round) new.1 new.0 new.2
    round_traced links old new r t =
        traced_left hash_of may_give begin came links (gone_after hash_of r) r.visited new.1 new.0 old.2 new.2 (all_leave r.settles.0 (r.visited.awake, r.visited, old.2) (0, new.1, new.2) r.settles.1)
        (awake_traced links r.visits.between r.visited old.0 new.0 old.2 r.visits.visits
        (traced_carried hash_of may_give begin came links old.1 r.visits.between old.0 old.2 (lets_on_carries old.1 r.visits.between r.visits.wakes) t))

    further_traced : (links : List LinkState) (count : ℕ) (old new : ℕ × RoundState K) → (further : Repeats (MakesFurtherRound hash_of now) count old new)
        → BooksTraced hash_of may_give begin came links old.1.1 old.1.0 old.1.2
        → BooksTraced hash_of may_give begin came (links ++ gone_further hash_of further) new.1.1 new.1.0 new.1.2
    further_traced links total old new none_yet t =
        subst (λ (l : List LinkState). BooksTraced hash_of may_give begin came l old.1.1 old.1.0 old.1.2) (sym (append-nil links)) t
    further_traced links total old new (one_more {count = count} {mid = mid} front last) t =
        both_gone links (gone_further hash_of front) (gone_after hash_of last.round) new.1.1 new.1.0 new.1.2
        (round_traced (links ++ gone_further hash_of front) mid.1 new.1 last.round (further_traced links count old mid front t))

    rounds_traced : (links : List LinkState) (old new : RoundState K) → (rounds : MakesRounds hash_of now old new) → BooksTraced hash_of may_give begin came links old.1 old.0 old.2
        → BooksTraced hash_of may_give begin came (links ++ gone_in_rounds hash_of rounds) new.1 new.0 new.2
    rounds_traced links old new r t =
        both_gone links (gone_after hash_of r.round) (gone_further hash_of r.further) new.1 new.0 new.2
        (further_traced (links ++ gone_after hash_of r.round) r.count (256 - old.1.awake, r.first) (r.left, new) r.further (round_traced links old r.first r.round t))

    purges_traced : (links : List LinkState) (books : BooksState) (end : WorkEnd) (count : ℕ) (old new : ℕ × AskingState K) → Repeats (TidiesNext hash_of now) count old new
        → BooksTraced hash_of may_give begin came links books old.1 end → BooksTraced hash_of may_give begin came links books new.1 end
    purges_traced links books end total old new none_yet t = t
    purges_traced links books end total old new (one_more {count = count} {mid = mid} front last) t =
        let u = purges_traced links books end count old mid front t in record {
          sound = u.sound;
          gone = u.gone;
          traced = record {
            guests = u.traced.guests;
            trace = purged mid.0 now u.traced.trace gives last.0;
            id = u.traced.id;
            here = u.traced.here;
            one = u.traced.one;
            all = u.traced.all;
            many = u.traced.many;
          };
          counted = u.counted;
          let_go = u.let_go;
        }

    tidies_traced : (links : List LinkState) (books : BooksState) (end : WorkEnd) (risen : Bool) (turn next : ℕ) (old new : AskingState K) → TidiesInTurn hash_of risen now turn next old new
        → BooksTraced hash_of may_give begin came links books old end → BooksTraced hash_of may_give begin came links books new end
    tidies_traced links books end risen turn next old new tidies t =
        purges_traced links books end (tidied_by risen tidies.lacks old.began.settings.shelves) (turn % old.began.settings.shelves, old) (next, new) tidies.tidied t

  -- from one opening of the door to the next
  once_traced : (came : List Arrival) (links : List LinkState) (old new : WorkState K) (goes_on : Bool) (w : WorksOnce hash_of may_give old new goes_on)
      → BooksTraced hash_of may_give begin came links old.books old.asking old.end
      → BooksTraced hash_of may_give begin (came ++ came_between w.opens) (links ++ gone_once hash_of may_give w) new.books new.asking new.end
  once_traced came links old new goes_on w t =
      subst (λ (l : List LinkState). BooksTraced hash_of may_give begin (came ++ came_between w.opens) l new.books new.asking new.end)
      (append_assoc links (gone_in_rounds hash_of w.rounds) (turned_away (came_between w.opens)))
      (all_traced hash_of may_give begin new.asking came (links ++ gone_in_rounds hash_of w.rounds) w.opens
      (traced_carried hash_of may_give begin came (links ++ gone_in_rounds hash_of w.rounds) w.settled w.roomy new.asking w.counted (room_carries w.settled w.roomy w.judges)
      (rounds_traced new.moment w.given came links (w.tidied, old.books, old.end) (new.asking, w.settled, w.counted) w.rounds
      (tidies_traced new.moment w.given came links old.books old.end (nat_lt old.moment new.moment) old.turn new.turn old.asking w.tidied w.tidies t))))

  since_traced : (count : ℕ) (old new : WorkState K) → (works : Repeats (WorksOn hash_of may_give) count old new)
      → BooksTraced hash_of may_give begin [] [] old.books old.asking old.end
      → BooksTraced hash_of may_give begin (came_since hash_of may_give works) (gone_since hash_of may_give works) new.books new.asking new.end
  since_traced total old new none_yet t = t
  since_traced total old new (one_more {count = count} {mid = mid} front last) t =
      once_traced (came_since hash_of may_give front) (gone_since hash_of may_give front) mid new true last (since_traced count old mid front t)

-- the only row without a guest
none_stands : (row : List RowGuest) → length row ≡ 0 → row ≡ []
none_stands [] none = refl
none_stands (x ∷ row) none = absurd (omega (arith, none))

-- each link that a worker was given is answered, and what it counts is how its guests ended
module _ {K : Type 0} (law : OneSpelling) (hash_of : K → List ℕ → ℕ) (may_give : ℕ → Type 0) (first share : ℕ) (began : StoreState K) (caller : CallerState)
    (back : CallerState × WorkEnd) (works : WorksToEnd hash_of may_give first share began caller back) where
  abbrev pub came : List Arrival
  came = all_came hash_of may_give works

  nobody : BooksTraced hash_of may_give (asked_by began caller) [] [] (begins first share began caller works.since.moment).books (asked_by began caller)
      (begins first share began caller works.since.moment).end
  nobody = record {
    sound = omega arith;
    gone = [];
    traced = record {
      guests = [];
      trace = begun;
      id = λ k. k;
      here = λ k x is. absurd (none-some x is);
      one = λ j k p q e. e;
      all = λ i g is. absurd (none-some g is);
      many = λ ended. refl;
    };
    counted = record { served = refl; broken = refl; refused = refl };
    let_go = λ counts. refl;
  }

  all : BooksTraced hash_of may_give (asked_by began caller) came (all_let_go hash_of may_give works) works.final.books works.final.asking works.final.end
  all = once_traced hash_of may_give (asked_by began caller) (came_since hash_of may_give works.since.works) (gone_since hash_of may_give works.since.works) works.last works.final false works.ends
      (since_traced hash_of may_give (asked_by began caller) works.since.count (begins first share began caller works.since.moment) works.last works.since.works nobody)

  gone : (at : ℕ) (guest : GuestState) → slice_get all.traced.guests at ≡ Some guest → IsTrue (has_ended guest.last)
  gone at guest is = elim (all.traced.all at guest is) [
    | inl there ↦ absurd (let none = all_over works.ends.opens refl in let within = there.1 in omega (arith, none, within))
    | inr ended ↦ ended
  ]

  -- all that ever were are gone
  all_gone : (ended : Answers) → many_of ended all.traced.guests ≡ many_of ended all.gone
  all_gone ended =
      let many = all.traced.many ended in
      let none : how_many_stand ended works.final.books.row.guests ≡ 0 = ap (how_many_stand ended) (none_stands works.final.books.row.guests (all_over works.ends.opens refl)) in
      omega (arith, many, none)

  pub links_answered : (answered : AreAnswered hash_of may_give (all_links hash_of may_give works) (asked_by began caller) works.final.asking)
      × AreCounted answered.guests (length (turned_away came)) back.1 × AreAllOf answered.guests (turned_away came) (all_let_go hash_of may_give works)
  links_answered = (
    record {
      greatest_is = λ at greatest link is.
          let since = since_most hash_of may_give works.since.count (begins first share began caller works.since.moment) works.last works.since.works in
          let ends = all_most works.ends.opens in
          admitted_may began.settings.greatest came
          (all_both began.settings.greatest (came_since hash_of may_give works.since.works) (came_between works.ends.opens) since.1
          (subst (λ (n : ℕ). AllMay n (came_between works.ends.opens)) since.0 ends.1)) at (greatest, link) is;
      guests = all.traced.guests;
      each = trace_long hash_of may_give (asked_by began caller) (all_links hash_of may_give works) all.traced.guests works.final.asking all.traced.trace;
      trace = all.traced.trace;
      gone = gone;
      answered = λ at greatest link is.
          let life = trace_lives hash_of may_give (asked_by began caller) (all_links hash_of may_give works) all.traced.guests works.final.asking all.traced.trace at (greatest, link) is in
          (life.0, life.1, is_answered hash_of may_give law greatest link (asked_by began caller) works.final.asking _ life.0 life.2 (gone at life.0 life.1));
    },
    record {
      served = ap (λ (e : WorkEnd). e.served) works.end ∙ all.counted.served ∙ ap counter (sym (all_gone (λ (g : GuestState). is_served g.last)));
      broken = ap (λ (e : WorkEnd). e.broken) works.end ∙ all.counted.broken ∙ ap counter (sym (all_gone (λ (g : GuestState). is_broken g.last)));
      refused = ap (λ (e : WorkEnd). e.refused) works.end ∙ all.counted.refused ∙ ap (λ (n : ℕ). counter (n + length (turned_away came))) (sym (all_gone (λ (g : GuestState). is_refused g.last)));
    },
    λ counts. (let p = all.let_go counts in let q = all_gone (with_link counts) in omega (arith, p, q)),
  )
