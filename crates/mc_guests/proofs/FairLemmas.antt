-- Who goes on and who waits on when those that wait for room are tried again.
use Rattle.std.specs.Prelude.{slice_get, nat_le, if◌then◌else◌, not, ◌&&◌}
use Rattle.std.proofs.Common.{◌≡◌, ◌⊎◌, inl, inr, ℕ, zero, suc, ◌+◌, ◌-◌, ◌<◌, ◌≤◌, min, Bool, true, false, List, [], ◌∷◌, ◌++◌, length, take, drop, get_or, Option, Some, None, refl, sym, ap, ◌∙◌, subst, arith}
use Rattle.std.proofs.Common.{IsTrue, IsFalse, append_assoc, append-nil, length-append, length-drop, take-append-drop}
use Rattle.std.proofs.lemmas.Bool.{cases_lt, cases_eq, and_left, and_parts, both_ways, not-true}
use Rattle.std.proofs.lemmas.List.{take_more, drop_more}
use Rattle.std.proofs.lemmas.List.Edits.{length-swap}
use Rattle.std.proofs.lemmas.Option.{none-some, same_Some, slice_get_within, slice_get-get_or}
use Rattle.mc_protocol.specs.declared.step.Steps.{Ghosts as Relations}
use Rattle.mc_guests.specs.Asks.{most}
use Rattle.mc_guests.specs.Budgets.{has_left, promised_more, is_retry_due}
use Rattle.mc_guests.specs.Guests.{RowGuest, is_queued, is_stray, is_in_queue, is_left_out, missing, in_line}
use Rattle.mc_guests.specs.LinkRates.{age}
use Rattle.mc_guests.specs.Books.{BooksState, HasNumber, StandsAt, woken}
use Rattle.mc_guests.specs.Retries.{IsQueuedAt, NoneWaits, FindsNone, IsWhole, looks, waits_long, finds_room, in_turn, lined, tried_again, strays, stray_tried, strays_tried, all_strays_tried, begun_anew}
use Rattle.mc_guests.specs.Retries.{TakesTurn, goes_on as turn_goes, is_gone as turn_gone, EndsTurns, nobody_waits as turn_none, finds_none as turn_lacks}
use Rattle.mc_time.specs.Chains.{none_yet, one_more}
use Rattle.mc_guests.specs.Retries.{LooksAtFirst, goes_on, is_gone, nobody_waits, finds_none, TakesTurns, GoInTurn, LooksAt, GoBeside, LetsOnAll}
use Rattle.mc_guests.specs.Turns.{VisitsAll}
use Rattle.mc_guests.specs.Fairness.{IsIn, KeepsOrder, OldestLacksRoom, WaitsOn, misses, IsFair, NoneFindsRoom, StandsBy}
use Rattle.mc_guests.specs.declared.budget.Budget.{Budget}
use Rattle.mc_guests.specs.declared.metered.WaitState.TheVariants.{Next}
use Rattle.mc_guests.proofs.QueueLemmas.{same_order, order_trans, order_more, order_append, order_long, in_left, in_right, in_either, in_none, end_of, Leaves, first_leaves, turn_leaves}
use Rattle.mc_guests.proofs.SwapLemmas.{Tried, tried}
use Rattle.mc_guests.proofs.RetryLemmas.{long_stray}
use Rattle.mc_guests.proofs.FollowLemmas.{no_room_found, next_not_stray, stray_not_queued, finds_none_now, Follows, whole_after, finds_none_yet, follows_then, unmoved, same_books, base, promises_now, one_tried, went_on}

-- ---- the oldest and the newest, in turn

pub record Turned (count : ℕ) (old new : BooksState) : Type 0 where
  pub follows : Follows old new
  pub kept : new.budget.is_kept ≡ old.budget.is_kept
  pub strays : new.has_strays ≡ old.has_strays
  pub order : KeepsOrder new.queue old.queue
  pub long : length new.queue + count ≡ length old.queue

turned_on : (number at : ℕ) (old new : BooksState) (queue : List ℕ) (last : Bool) → (waits : IsQueuedAt number at old.row) → IsTrue (finds_room waits.guest old)
    → old.budget.promised ≤ most → Leaves number old.queue queue → Tried at (base old (promised_more (missing waits.guest) old.budget) queue last) new → Turned 1 old new
turned_on number at old new queue last waits room few left t = record {
  follows = went_on number at old new queue last waits room few left t;
  kept = ap (λ (x : BooksState). x.budget.is_kept) t.rest;
  strays = ap (λ (x : BooksState). x.has_strays) t.rest;
  order = subst (λ (l : List ℕ). KeepsOrder l old.queue) (sym (ap (λ (x : BooksState). x.queue) t.rest)) left.order;
  long = ap (λ (x : BooksState). length x.queue + 1) t.rest ∙ left.long;
}

turn_step : (old new : BooksState) → old.budget.promised ≤ most → TakesTurn old new → Turned 1 old new
turn_step old new few (turn_goes {number = number} {at = at} turn waits room) =
    let left = turn_leaves old.is_last number old.queue turn in
    let budget : Budget = promised_more (missing waits.guest) old.budget in
    let queue : List ℕ = if old.is_last then take (length old.queue - 1) old.queue else drop 1 old.queue in
    turned_on number at old (tried_again at (base old budget queue (not old.is_last))) queue (not old.is_last) waits room few left
    (tried at (base old budget queue (not old.is_last)) (slice_get_within old.row.guests at waits.guest waits.stands) (slice_get_within old.row.numbers at number waits.has_it))
turn_step old new few (turn_gone {number = number} turn none) =
    let left = turn_leaves old.is_last number old.queue turn in
    let queue : List ℕ = if old.is_last then take (length old.queue - 1) old.queue else drop 1 old.queue in record {
      follows = unmoved old old.budget.is_kept queue old.is_last old.has_strays few (λ n h. elim (left.others n h) [
        | inl there ↦ inl there
        | inr e ↦ inr (subst (λ (k : ℕ). NoneWaits k old.row) e none)
      ]);
      kept = refl;
      strays = refl;
      order = left.order;
      long = left.long;
    }

takes_turns : (count : ℕ) (old new : BooksState) → old.budget.promised ≤ most → TakesTurns count old new → Turned count old new
takes_turns count old new few none_yet = record { follows = same_books old few; kept = refl; strays = refl; order = same_order old.queue; long = omega arith }
takes_turns count old new few (one_more {count = n} {mid = mid} front one) =
    let f = takes_turns n old mid few front in
    let g = turn_step mid new f.follows.few one in record {
      follows = follows_then old mid new f.follows g.follows;
      kept = g.kept ∙ f.kept;
      strays = g.strays ∙ f.strays;
      order = order_trans f.order g.order;
      long = (let one = f.long in let two = g.long in omega (arith, one, two));
    }

pub record Ended (old new : BooksState) : Type 0 where
  pub follows : Follows old new
  pub queue : new.queue ≡ old.queue
  pub last : new.is_last ≡ old.is_last
  pub strays : new.has_strays ≡ old.has_strays
  pub kept : IsFalse old.budget.is_kept → IsTrue new.budget.is_kept → OldestLacksRoom new
  pub turn : (number : ℕ) → in_turn old ≡ Some number → FindsNone new number

ends_turns : (old new : BooksState) → old.budget.promised ≤ most → EndsTurns old new → Ended old new
ends_turns old new few (turn_none none) = record {
  follows = same_books old few;
  queue = refl;
  last = refl;
  strays = refl;
  kept = λ off on. absurd (both_ways old.budget.is_kept off on);
  turn = λ number is. absurd (none-some number (sym none ∙ is));
}
ends_turns old new few (turn_lacks {number = number} {at = at} turn waits none) = record {
  follows = unmoved old (not old.is_last && waits_long old.budget.ticks waits.guest) old.queue old.is_last old.has_strays few (λ n h. inl h);
  queue = refl;
  last = refl;
  strays = refl;
  kept = λ off on.
      let parts = and_parts (not old.is_last) (waits_long old.budget.ticks waits.guest) on in
      let oldest = not-true old.is_last parts.0 in record {
        number = number;
        at = at;
        guest = waits.guest;
        first = sym (ap (λ (b : Bool). if b then slice_get old.queue (length old.queue - 1) else slice_get old.queue 0) oldest) ∙ turn;
        has_it = waits.has_it;
        stands = waits.stands;
        long = parts.1;
        none = none;
      };
  turn = λ other is. subst (λ (k : ℕ). FindsNone old k) (same_Some number other (sym turn ∙ is)) (finds_none_now number at old waits none);
}

pub record Turns (old new : BooksState) : Type 0 where
  pub follows : Follows old new
  pub order : KeepsOrder new.queue old.queue
  pub strays : new.has_strays ≡ old.has_strays
  pub kept : IsTrue new.budget.is_kept → OldestLacksRoom new
  pub turn : (number : ℕ) → in_turn new ≡ Some number → FindsNone new number ⊎ (length new.queue + looks ≤ length old.queue)

go_in_turn : (old new : BooksState) → old.budget.promised ≤ most → IsFalse old.budget.is_kept → GoInTurn old new → Turns old new
go_in_turn old new few off turns =
    let t = takes_turns turns.count old turns.last few turns.turns in
    elim turns.over [
      | inl all ↦ subst (λ (x : BooksState). Turns old x) (sym all.1) (record {
        follows = t.follows;
        order = t.order;
        strays = t.strays;
        kept = λ on. absurd (both_ways turns.last.budget.is_kept (t.kept ∙ off) on);
        turn = λ number is. inr (let one = t.long in let two = all.0 in omega (arith, one, two));
      })
      | inr less ↦
          (let e = ends_turns turns.last new t.follows.few less.1 in record {
            follows = follows_then old turns.last new t.follows e.follows;
            order = subst (λ (l : List ℕ). KeepsOrder l old.queue) (sym e.queue) t.order;
            strays = e.strays ∙ t.strays;
            kept = e.kept (t.kept ∙ off);
            turn = λ number is.
                let same : in_turn new ≡ in_turn turns.last
                = (λ i. if e.last i then slice_get (e.queue i) (length (e.queue i) - 1) else slice_get (e.queue i) 0) in
                inl (e.turn number (sym same ∙ is));
          })
    ]

-- ---- the first of the queue

pub record Looked (m : ℕ) (rest : List ℕ) (old new : BooksState) : Type 0 where
  pub follows : Follows old new
  pub kept : new.budget.is_kept ≡ old.budget.is_kept
  pub last : new.is_last ≡ old.is_last
  pub strays : new.has_strays ≡ old.has_strays
  pub result : (new.queue ≡ rest) ⊎ ((new.queue ≡ rest ++ m ∷ []) × FindsNone new m)

looked_on : (m : ℕ) (rest : List ℕ) (number at : ℕ) (old new : BooksState) → (waits : IsQueuedAt number at old.row) → IsTrue (finds_room waits.guest old)
    → old.budget.promised ≤ most → old.queue ≡ m ∷ rest → slice_get old.queue 0 ≡ Some number
    → Tried at (base old (promised_more (missing waits.guest) old.budget) (drop 1 old.queue) old.is_last) new → Looked m rest old new
looked_on m rest number at old new waits room few is first t = record {
  follows = went_on number at old new (drop 1 old.queue) old.is_last waits room few (first_leaves number old.queue first) t;
  kept = ap (λ (x : BooksState). x.budget.is_kept) t.rest;
  last = ap (λ (x : BooksState). x.is_last) t.rest;
  strays = ap (λ (x : BooksState). x.has_strays) t.rest;
  result = inl (ap (λ (x : BooksState). x.queue) t.rest ∙ ap (λ (l : List ℕ). drop 1 l) is);
}

look_step : (m : ℕ) (rest : List ℕ) (old new : BooksState) → old.budget.promised ≤ most → old.queue ≡ m ∷ rest → LooksAtFirst old new → Looked m rest old new
look_step m rest old new few is (nobody_waits none) = absurd (none-some m (sym none ∙ ap (λ (l : List ℕ). slice_get l 0) is))
look_step m rest old new few is (goes_on {number = number} {at = at} first waits room) =
    let budget : Budget = promised_more (missing waits.guest) old.budget in
    looked_on m rest number at old (tried_again at (base old budget (drop 1 old.queue) old.is_last)) waits room few is first
    (tried at (base old budget (drop 1 old.queue) old.is_last) (slice_get_within old.row.guests at waits.guest waits.stands) (slice_get_within old.row.numbers at number waits.has_it))
look_step m rest old new few is (finds_none {number = number} {at = at} first waits none) =
    let same : number ≡ m = same_Some number m (sym first ∙ ap (λ (l : List ℕ). slice_get l 0) is) in
    let left = first_leaves number old.queue first in record {
      follows = unmoved old old.budget.is_kept (drop 1 old.queue ++ number ∷ []) old.is_last old.has_strays few (λ n h. elim (left.others n h) [
        | inl there ↦ inl (in_left n (drop 1 old.queue) (number ∷ []) there)
        | inr e ↦ inl (in_right n (drop 1 old.queue) (number ∷ []) (inl e))
      ]);
      kept = refl;
      last = refl;
      strays = refl;
      result = inr (
        ap (λ (l : List ℕ). drop 1 l ++ number ∷ []) is ∙ ap (λ (k : ℕ). rest ++ k ∷ []) same,
        subst (λ (k : ℕ). FindsNone old k) same (finds_none_now number at old waits none),
      );
    }
look_step m rest old new few is (is_gone {number = number} first none) =
    let left = first_leaves number old.queue first in record {
      follows = unmoved old old.budget.is_kept (drop 1 old.queue) old.is_last old.has_strays few (λ n h. elim (left.others n h) [
        | inl there ↦ inl there
        | inr e ↦ inr (subst (λ (k : ℕ). NoneWaits k old.row) e none)
      ]);
      kept = refl;
      last = refl;
      strays = refl;
      result = inl (ap (λ (l : List ℕ). drop 1 l) is);
    }

-- so many of the queue were looked at: those that stay stand behind the others, and find no room
pub record LookedAt (count : ℕ) (old new : BooksState) : Type 0 where
  pub follows : Follows old new
  pub kept : new.budget.is_kept ≡ old.budget.is_kept
  pub last : new.is_last ≡ old.is_last
  pub strays : new.has_strays ≡ old.has_strays
  pub seen : List ℕ
  pub queue : new.queue ≡ drop count old.queue ++ seen
  pub order : KeepsOrder seen (take count old.queue)
  pub none : (number : ℕ) → IsIn number seen → FindsNone new number

look_more : (n : ℕ) (old mid new : BooksState) → n < length old.queue → (f : LookedAt n old mid)
    → Looked (get_or old.queue n 0) (drop (n + 1) old.queue ++ f.seen) mid new → LookedAt (n + 1) old new
look_more n old mid new within f g =
    let m : ℕ = get_or old.queue n 0 in
    let taken : take (n + 1) old.queue ≡ take n old.queue ++ get_or old.queue n 0 ∷ [] = take_more old.queue n 0 within in
    let follows = follows_then old mid new f.follows g.follows in
    elim g.result [
      | inl left ↦ record {
        follows = follows;
        kept = g.kept ∙ f.kept;
        last = g.last ∙ f.last;
        strays = g.strays ∙ f.strays;
        seen = f.seen;
        queue = left;
        order = subst (λ (l : List ℕ). KeepsOrder f.seen l) (sym taken) (order_more (m ∷ []) f.order);
        none = λ k h. finds_none_yet mid new g.follows k (f.none k h);
      }
      | inr behind ↦ record {
        follows = follows;
        kept = g.kept ∙ f.kept;
        last = g.last ∙ f.last;
        strays = g.strays ∙ f.strays;
        seen = f.seen ++ m ∷ [];
        queue = behind.0 ∙ append_assoc (drop (n + 1) old.queue) f.seen (m ∷ []);
        order = subst (λ (l : List ℕ). KeepsOrder (f.seen ++ m ∷ []) l) (sym taken) (order_append f.order (same_order (m ∷ [])));
        none = λ k h. elim (in_either k f.seen (m ∷ []) h) [
          | inl there ↦ finds_none_yet mid new g.follows k (f.none k there)
          | inr it ↦ elim it [ inl e ↦ subst (λ (j : ℕ). FindsNone new j) e behind.1 | inr never ↦ absurd never ]
        ];
      }
    ]

looks_at : (count : ℕ) (old new : BooksState) → old.budget.promised ≤ most → count ≤ length old.queue → LooksAt count old new → LookedAt count old new
looks_at count old new few within none_yet = record {
  follows = same_books old few;
  kept = refl;
  last = refl;
  strays = refl;
  seen = [];
  queue = sym (append-nil old.queue);
  order = same_order [];
  none = λ k h. absurd h;
}
looks_at count old new few within (one_more {count = n} {mid = mid} front one) =
    let inside : n < length old.queue = omega (arith, within) in
    let f = looks_at n old mid few (omega (arith, within)) front in
    let split : mid.queue ≡ get_or old.queue n 0 ∷ (drop (n + 1) old.queue ++ f.seen)
    = f.queue ∙ ap (λ (l : List ℕ). l ++ f.seen) (drop_more old.queue n 0 inside) in
    look_more n old mid new inside f (look_step (get_or old.queue n 0) (drop (n + 1) old.queue ++ f.seen) mid new f.follows.few split one)

pub record Beside (old new : BooksState) : Type 0 where
  pub follows : Follows old new
  pub kept : new.budget.is_kept ≡ old.budget.is_kept
  pub last : new.is_last ≡ old.is_last
  pub strays : new.has_strays ≡ old.has_strays
  pub same : IsTrue old.budget.is_kept → new ≡ old
  pub front : List ℕ
  pub unseen : List ℕ
  pub seen : List ℕ
  pub parts : old.queue ≡ front ++ unseen
  pub queue : new.queue ≡ unseen ++ seen
  pub order : KeepsOrder (seen ++ unseen) old.queue
  pub few : IsFalse old.budget.is_kept → length unseen ≤ length old.queue - looks
  pub none : (number : ℕ) → IsIn number seen → FindsNone new number

beside_kept : (old : BooksState) → old.budget.promised ≤ most → IsTrue old.budget.is_kept → Beside old old
beside_kept old few on = record {
  follows = same_books old few;
  kept = refl;
  last = refl;
  strays = refl;
  same = λ on. refl;
  front = [];
  unseen = old.queue;
  seen = [];
  parts = refl;
  queue = sym (append-nil old.queue);
  order = same_order old.queue;
  few = λ off. absurd (both_ways old.budget.is_kept off on);
  none = λ k h. absurd h;
}

beside_looks : (old new : BooksState) → IsFalse old.budget.is_kept → LookedAt (min (length old.queue) looks) old new → Beside old new
beside_looks old new off f =
    let n : ℕ = min (length old.queue) looks in record {
      follows = f.follows;
      kept = f.kept;
      last = f.last;
      strays = f.strays;
      same = λ on. absurd (both_ways old.budget.is_kept off on);
      front = take n old.queue;
      unseen = drop n old.queue;
      seen = f.seen;
      parts = sym (take-append-drop n old.queue);
      queue = f.queue;
      order = subst (λ (l : List ℕ). KeepsOrder (f.seen ++ drop n old.queue) l) (take-append-drop n old.queue) (order_append f.order (same_order (drop n old.queue)));
      few = λ _. omega (arith, length-drop (min (length old.queue) looks) old.queue);
      none = f.none;
    }

go_beside : (old new : BooksState) → old.budget.promised ≤ most → GoBeside old new → Beside old new
go_beside old new few goes = by_test old.budget.is_kept refl
  where
    by_test : (b : Bool) → old.budget.is_kept ≡ b → Beside old new
    by_test true on = subst (λ (x : BooksState). Beside old x) (sym (goes.waits on)) (beside_kept old few on)
    by_test false off = beside_looks old new off (looks_at (min (length old.queue) looks) old new few (omega arith) (goes.goes off))

-- ---- those that were left out of the queue

-- of those that sleep none before a place is left out of the queue
pub record Strayed (end : ℕ) (old new : BooksState) : Type 0 where
  pub follows : Follows old new
  pub queue : new.queue ≡ old.queue
  pub budget : new.budget ≡ old.budget
  pub last : new.is_last ≡ old.is_last
  pub awake : new.awake ≤ end
  pub none : (k : ℕ) (guest : RowGuest) → new.awake ≤ k → k < end → StandsAt k new.row guest → is_stray guest ≡ false

stray_stays : (at : ℕ) (old : BooksState) → old.budget.promised ≤ most → old.awake ≤ at
    → ((k : ℕ) (guest : RowGuest) → old.awake ≤ k → k < at → StandsAt k old.row guest → is_stray guest ≡ false)
    → ((guest : RowGuest) → StandsAt at old.row guest → is_stray guest ≡ false) → Strayed (at + 1) old old
stray_stays at old few asleep none here = record {
  follows = same_books old few;
  queue = refl;
  budget = refl;
  last = refl;
  awake = omega (arith, asleep);
  none = λ k guest above below stands. elim (cases_lt k at) [
    | inl before ↦ none k guest above before stands
    | inr after ↦ (let e : k ≡ at = omega (arith, after, below) in here guest (subst (λ (n : ℕ). StandsAt n old.row guest) e stands))
  ];
}

stray_goes : (at number : ℕ) (guest : RowGuest) (old new : BooksState) → HasNumber old.row at number → StandsAt at old.row guest → is_stray guest ≡ true
    → old.budget.promised ≤ most → old.awake ≤ at
    → ((k : ℕ) (guest : RowGuest) → old.awake ≤ k → k < at → StandsAt k old.row guest → is_stray guest ≡ false)
    → Tried at (base old old.budget old.queue old.is_last) new → Strayed (at + 1) old new
stray_goes at number guest old new has stands stray few asleep none t =
    let misses_none : misses guest ≡ 0 = ap (λ (b : Bool). if b then missing guest else 0) (stray_not_queued guest stray) in record {
      follows = one_tried at number guest old new old.budget old.queue old.is_last has stands t (inr (stray, asleep)) refl (omega arith) few (λ n h. inl h)
          (promises_now at number guest old new old.budget old.queue old.is_last has stands t 0 misses_none (omega (arith, few)) (inl refl));
      queue = ap (λ (x : BooksState). x.queue) t.rest;
      budget = ap (λ (x : BooksState). x.budget) t.rest;
      last = ap (λ (x : BooksState). x.is_last) t.rest;
      awake = (let rises = t.rises in omega (arith, rises, asleep));
      none = λ k g above below stood. elim (cases_eq (t.moved k) at) [
        | inl e ↦ ap is_stray (same_Some g (in_line Next guest) (sym stood ∙ t.it k guest e stands)) ∙ next_not_stray guest
        | inr apart ↦
            (let behind : old.awake ≤ t.moved k = elim (cases_lt (t.moved k) old.awake) [
              | inl low ↦ (let one = t.low (t.moved k) low in let two = t.back k in absurd (omega (arith, one, two, above)))
              | inr high ↦ high
            ] in
            let front : t.moved k ≤ at = t.front k (omega (arith, below)) in
            let before : t.moved k < at = elim (cases_lt (t.moved k) at) [
              | inl less ↦ less
              | inr more ↦ absurd (apart (omega (arith, more, front)))
            ] in
            none (t.moved k) g behind before (sym (t.others k apart) ∙ stood))
      ];
    }

stray_step : (at : ℕ) (old : BooksState) → old.budget.promised ≤ most → IsWhole old.row → old.awake ≤ at
    → ((k : ℕ) (guest : RowGuest) → old.awake ≤ k → k < at → StandsAt k old.row guest → is_stray guest ≡ false) → Strayed (at + 1) old (stray_tried at old)
stray_step at old few whole asleep none = by_place (slice_get old.row.guests at) refl
  where
    by_test : (guest : RowGuest) → StandsAt at old.row guest → (b : Bool) → is_stray guest ≡ b → Strayed (at + 1) old (if b then tried_again at old else old)
    by_test guest stands true stray =
        let within = slice_get_within old.row.guests at guest stands in
        let all : length old.row.numbers ≡ length old.row.guests = whole in
        let numbered : at < length old.row.numbers = omega (arith, within, all) in
        stray_goes at (get_or old.row.numbers at 0) guest old (tried_again at old) (slice_get-get_or old.row.numbers at 0 numbered) stands stray few asleep none
        (tried at old within numbered)
    by_test guest stands false stays_out = stray_stays at old few asleep none
        (λ other stood. ap is_stray (same_Some other guest (sym stood ∙ stands)) ∙ stays_out)

    by_place : (o : Option RowGuest) → slice_get old.row.guests at ≡ o → Strayed (at + 1) old (if strays o then tried_again at old else old)
    by_place None is = stray_stays at old few asleep none (λ guest stands. absurd (none-some guest (sym is ∙ stands)))
    by_place (Some guest) is = by_test guest is (is_stray guest) refl

strays_from : (count : ℕ) (old : BooksState) → old.budget.promised ≤ most → IsWhole old.row → Strayed (old.awake + count) old (strays_tried count old.awake old)
strays_from zero old few whole = record {
  follows = same_books old few;
  queue = refl;
  budget = refl;
  last = refl;
  awake = omega arith;
  none = λ k guest above below stands. absurd (omega (arith, above, below));
}
strays_from (suc count) old few whole =
    let mid : BooksState = strays_tried count old.awake old in
    let f = strays_from count old few whole in
    let g = stray_step (old.awake + count) mid f.follows.few (whole_after old mid f.follows whole) f.awake f.none in
    let on : old.awake + count + 1 ≡ old.awake + suc count = omega arith in
    subst (λ (n : ℕ). Strayed n old (stray_tried (old.awake + count) mid)) on (record {
      follows = follows_then old mid (stray_tried (old.awake + count) mid) f.follows g.follows;
      queue = g.queue ∙ f.queue;
      budget = g.budget ∙ f.budget;
      last = g.last ∙ f.last;
      awake = g.awake;
      none = g.none;
    })

pub record AllStrayed (old new : BooksState) : Type 0 where
  pub follows : Follows old new
  pub queue : new.queue ≡ old.queue
  pub budget : new.budget ≡ old.budget
  pub last : new.is_last ≡ old.is_last
  pub none : IsTrue old.has_strays → (k : ℕ) (guest : RowGuest) → new.awake ≤ k → StandsAt k new.row guest → IsFalse (is_stray guest)

all_strayed : (old new : BooksState) → old.budget.promised ≤ most → (count : ℕ) → length old.row.guests ≤ old.awake + count
    → Strayed (old.awake + count) (record old { has_strays = false }) new → AllStrayed old new
all_strayed old new few count all f =
    let begun : BooksState = record old { has_strays = false } in record {
      follows = follows_then old begun new (unmoved old old.budget.is_kept old.queue old.is_last false few (λ n h. inl h)) f.follows;
      queue = f.queue;
      budget = f.budget;
      last = f.last;
      none = λ on k guest above stands.
          let within = slice_get_within new.row.guests k guest stands in
          let long = f.follows.guests_long in
          f.none k guest above (omega (arith, within, long, all)) stands;
    }

all_strays : (old : BooksState) → old.budget.promised ≤ most → IsWhole old.row → AllStrayed old (all_strays_tried old)
all_strays old few whole = by_test old.has_strays refl
  where
    by_test : (b : Bool) → old.has_strays ≡ b
        → AllStrayed old (if b then strays_tried (length old.row.guests - old.awake) old.awake (record old { has_strays = false }) else old)
    by_test true on =
        all_strayed old (strays_tried (length old.row.guests - old.awake) old.awake (record old { has_strays = false })) few (length old.row.guests - old.awake) (omega arith)
        (strays_from (length old.row.guests - old.awake) (record old { has_strays = false }) few whole)
    by_test false off = record {
      follows = same_books old few;
      queue = refl;
      budget = refl;
      last = refl;
      none = λ on. absurd (both_ways old.has_strays off on);
    }

-- ---- all that wait

-- the oldest still lacks room
oldest_yet : (old new : BooksState) → Follows old new → new.queue ≡ old.queue → new.budget ≡ old.budget → OldestLacksRoom old → OldestLacksRoom new
oldest_yet old new f queue budget w =
    let s = f.guests w.at w.number w.guest w.has_it w.stands in
    elim s.fate [
      | inl same ↦
          (let first : slice_get new.queue 0 ≡ Some w.number = ap (λ (l : List ℕ). slice_get l 0) queue ∙ w.first in
          let long : IsTrue (waits_long new.budget.ticks s.later) = (λ i. waits_long (budget i).ticks (same.same i)) ∙ w.long in
          let none : IsFalse (finds_room s.later new) = (λ i. has_left (missing (same.same i)) (budget i)) ∙ w.none in
          record { number = w.number; at = s.place; guest = s.later; first = first; has_it = s.has_it; stands = s.stands; long = long; none = none })
      | inr goes ↦
          (let queued = (and_parts (is_queued w.guest) (nat_le 8 (age old.budget.ticks w.guest.pace)) w.long).0 in
          let none : ⊥ = elim goes.why [
            | inl found ↦ no_room_found w.guest old.budget new.budget w.none found.1
            | inr stray ↦ both_ways (is_queued w.guest) (stray_not_queued w.guest stray.0) queued
          ] in
          absurd none)
    ]

module _ (old a b c : BooksState) (t : Turns old a) (s : Beside a b) (w : AllStrayed b c) where
  kept_since : c.budget.is_kept ≡ a.budget.is_kept
  kept_since = ap (λ (x : Budget). x.is_kept) w.budget ∙ s.kept

  newest_lacks : IsTrue c.is_last → (front : List ℕ) (number : ℕ) → s.unseen ≡ front ++ number ∷ [] → FindsNone c number ⊎ (length c.queue + looks ≤ length old.queue)
  newest_lacks last front number is =
      let turn : IsTrue a.is_last = sym s.last ∙ sym w.last ∙ last in
      let ends : a.queue ≡ (s.front ++ front) ++ number ∷ []
      = s.parts ∙ ap (λ (l : List ℕ). s.front ++ l) is ∙ sym (append_assoc s.front front (number ∷ [])) in
      let it : in_turn a ≡ Some number
      = ap (λ (x : Bool). if x then slice_get a.queue (length a.queue - 1) else slice_get a.queue 0) turn ∙ end_of (s.front ++ front) number a.queue ends in
      elim (t.turn number it) [
        | inl none ↦ inl (finds_none_yet a c (follows_then a b c s.follows w.follows) number none)
        | inr far ↦ inr
            (let long : length c.queue ≡ length (s.unseen ++ s.seen) = ap (λ (l : List ℕ). length l) (w.queue ∙ s.queue) in
            let less = order_long s.order in
            omega (arith, long, less, far, length-append s.unseen s.seen, length-append s.seen s.unseen))
      ]

  waits_on : WaitsOn old c
  waits_on = record {
    unseen = s.unseen;
    seen = s.seen;
    queue = w.queue ∙ s.queue;
    none = λ number h. finds_none_yet b c w.follows number (s.none number h);
    order = order_trans t.order s.order;
    few = λ off. (let one = s.few (sym kept_since ∙ off) in let two = order_long t.order in omega (arith, one, two));
    kept = λ on.
        let is_kept : IsTrue a.budget.is_kept = sym kept_since ∙ on in
        oldest_yet b c w.follows w.queue w.budget (subst (λ (x : BooksState). OldestLacksRoom x) (sym (s.same is_kept)) (t.kept is_kept));
    newest = newest_lacks;
    stays = (follows_then old b c (follows_then old a b t.follows s.follows) w.follows).queue;
  }

  fair_after : IsFair old c
  fair_after =
      let f = follows_then old b c (follows_then old a b t.follows s.follows) w.follows in record {
        guests = f.guests;
        came = f.came;
        queue = waits_on;
        promises = f.promises;
        strays = λ on. w.none (s.strays ∙ t.strays ∙ on);
        budget = f.budget;
      }

pub lets_on_fairly : (old new : BooksState) → old.budget.promised ≤ most → IsFalse old.budget.is_kept → IsWhole old.row → LetsOnAll old new → IsFair old new
lets_on_fairly old new few off whole all =
    let a : BooksState = all.after_turns in
    let b : BooksState = all.after_looks in
    let t = go_in_turn old all.after_turns few off all.turns in
    let s = go_beside all.after_turns all.after_looks t.follows.few all.looks in
    let whole_yet = whole_after a b s.follows (whole_after old a t.follows whole) in
    subst (λ (x : BooksState). IsFair old x) (sym all.strays) (fair_after old a b (all_strays_tried all.after_looks) t s (all_strays all.after_looks s.follows.few whole_yet))

-- one that doesn't wait stays as it is
fair_to_others : (at number : ℕ) (guest : RowGuest) (old new : BooksState) → IsFair old new → HasNumber old.row at number → StandsAt at old.row guest
    → guest.waits ≡ false → StandsBy number guest new.row
fair_to_others at number guest old new fair has stands waits =
    let f = fair.guests at number guest has stands in
    elim f.fate [
      | inl same ↦ (f.place, f.has_it, f.stands ∙ ap (λ (g : RowGuest). Some g) same.same)
      | inr goes ↦
          (let none : ⊥ = elim goes.why [
            | inl found ↦ both_ways (is_queued guest) (and_left guest.waits (is_in_queue guest.line) waits) found.0
            | inr stray ↦ both_ways (is_stray guest) (and_left guest.waits (is_left_out guest.line) waits) stray.0
          ] in
          absurd none)
    ]

-- none of those that wait finds room if all were looked at
pub none_finds_room : (old new : BooksState) → WaitsOn old new → length old.queue ≤ looks → IsFalse new.budget.is_kept → NoneFindsRoom new
none_finds_room old new w short off = λ number h.
    let few = w.few off in
    let none : length w.unseen ≡ 0 = omega (arith, few, short) in
    elim (in_either number w.unseen w.seen (subst (λ (l : List ℕ). IsIn number l) w.queue h)) [
      | inl there ↦ absurd (in_none number w.unseen none there)
      | inr there ↦ w.none number there
    ]

-- ---- each guest has a number before, too

tried_numbers : (at : ℕ) (books : BooksState) → length (tried_again at books).row.numbers ≡ length books.row.numbers
tried_numbers at books = by_test (nat_le books.awake at)
  where
    by_test : (b : Bool) → length (if b then woken at (lined at Next books) else lined at Next books).row.numbers ≡ length books.row.numbers
    by_test true = length-swap books.row.numbers at books.awake
    by_test false = refl

stray_numbers : (at : ℕ) (books : BooksState) → length (stray_tried at books).row.numbers ≡ length books.row.numbers
stray_numbers at books = by_test (strays (slice_get books.row.guests at))
  where
    by_test : (b : Bool) → length (if b then tried_again at books else books).row.numbers ≡ length books.row.numbers
    by_test true = tried_numbers at books
    by_test false = refl

strays_long : (count from : ℕ) (books : BooksState) → (length (strays_tried count from books).row.guests ≡ length books.row.guests)
    × (length (strays_tried count from books).row.numbers ≡ length books.row.numbers)
strays_long zero from books = (refl, refl)
strays_long (suc count) from books =
    let front = strays_long count from books in
    (long_stray (from + count) (strays_tried count from books) ∙ front.0, stray_numbers (from + count) (strays_tried count from books) ∙ front.1)

strays_whole : (books : BooksState) → IsWhole (all_strays_tried books).row → IsWhole books.row
strays_whole books = by_test books.has_strays
  where
    by_test : (b : Bool)
        → IsWhole (if b then strays_tried (length books.row.guests - books.awake) books.awake (record books { has_strays = false }) else books).row → IsWhole books.row
    by_test true whole =
        let long = strays_long (length books.row.guests - books.awake) books.awake (record books { has_strays = false }) in
        sym long.1 ∙ whole ∙ long.0
    by_test false whole = whole

whole_before : (old new : BooksState) → old.budget.promised ≤ most → IsFalse old.budget.is_kept → LetsOnAll old new → IsWhole new.row → IsWhole old.row
whole_before old new few off all whole =
    let t = go_in_turn old all.after_turns few off all.turns in
    let s = go_beside all.after_turns all.after_looks t.follows.few all.looks in
    let after : IsWhole all.after_looks.row = strays_whole all.after_looks (subst (λ (x : BooksState). IsWhole x.row) all.strays whole) in
    sym t.follows.numbers_long ∙ sym s.follows.numbers_long ∙ after ∙ s.follows.guests_long ∙ t.follows.guests_long

module _ {S : Type 0} (relations : Relations S) where
  pub retries_are_fair : (now : ℕ) (old new : BooksState) (before after : S) (visits : VisitsAll relations now old new before after)
      → IsTrue (is_retry_due old.budget) → IsFair (begun_anew old) visits.between
  retries_are_fair now old new before after visits due =
      let few : (begun_anew old).budget.promised ≤ most = omega arith in
      let all = visits.wakes.due due in
      lets_on_fairly (begun_anew old) visits.between few refl (whole_before (begun_anew old) visits.between few refl all visits.visits.whole) all

  pub none_is_left : (now : ℕ) (old new : BooksState) (before after : S) (visits : VisitsAll relations now old new before after)
      → IsTrue (is_retry_due old.budget) → length old.queue ≤ looks → IsFalse visits.between.budget.is_kept → NoneFindsRoom visits.between
  none_is_left now old new before after visits due short off =
      none_finds_room (begun_anew old) visits.between (retries_are_fair now old new before after visits due).queue short off

  pub others_stay : (now at number : ℕ) (guest : RowGuest) (old new : BooksState) (before after : S) (visits : VisitsAll relations now old new before after)
      → HasNumber old.row at number → StandsAt at old.row guest → IsFalse guest.waits → StandsBy number guest visits.between.row
  others_stay now at number guest old new before after visits has stands waits = by_test (is_retry_due old.budget) refl
    where
      by_test : (b : Bool) → is_retry_due old.budget ≡ b → StandsBy number guest visits.between.row
      by_test true due = fair_to_others at number guest (begun_anew old) visits.between (retries_are_fair now old new before after visits due) has stands waits
      by_test false early = subst (λ (x : BooksState). StandsBy number guest x.row) (sym (visits.wakes.early early)) (at, has, stands)
