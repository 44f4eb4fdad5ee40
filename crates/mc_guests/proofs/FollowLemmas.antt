-- What some retries leave of books: each guest is as it was or is tried again.
use Rattle.std.specs.Prelude.{slice_get, nat_le, if◌then◌else◌, ◌&&◌, ◌||◌, ◌==◌}
use Rattle.std.proofs.Common.{◌≡◌, ◌⊎◌, inl, inr, ℕ, ◌+◌, ◌-◌, ◌<◌, ◌≤◌, min, Bool, true, false, List, length, refl, sym, ap, ◌∙◌, subst, arith, IsTrue, IsFalse, leb-true, leb-false}
use Rattle.std.proofs.lemmas.Bool.{cases_lt, cases_eq, or_parts, or_from, or_cases, and_cases, and_parts, and_left, and_right, both_ways, lt-leb, eqb-true, eqb-false, ne_eqb}
use Rattle.std.proofs.lemmas.Option.{same_Some}
use Rattle.mc_guests.specs.Asks.{most}
use Rattle.mc_guests.specs.Budgets.{plus, has_left, promised_more}
use Rattle.mc_guests.specs.Guests.{RowGuest, is_queued, is_stray, is_in_queue, is_left_out, missing, in_line}
use Rattle.mc_guests.specs.Books.{BooksState, HasNumber, StandsAt}
use Rattle.mc_guests.specs.Retries.{IsQueuedAt, NoneWaits, FindsNone, IsWhole, finds_room}
use Rattle.mc_guests.specs.Fairness.{IsIn, FoundRoom, GoesOn, Stays, Fares, Stood, misses, OneAlone, Promises}
use Rattle.mc_guests.specs.declared.budget.Budget.{Budget}
use Rattle.mc_guests.specs.declared.metered.WaitState.{WaitState}
use Rattle.mc_guests.specs.declared.metered.WaitState.TheVariants.{Out, Queued, Next}
use Rattle.mc_guests.proofs.QueueLemmas.{Leaves}
use Rattle.mc_guests.proofs.SwapLemmas.{changed_sum, Tried}

-- ---- what is left of a budget

-- where there was no room there is none once more is promised
less_left : (m share held much p q all : ℕ) → p ≤ q → (nat_le m (share - min (held + p) all) || (much == 0 && p == 0)) ≡ false
    → (nat_le m (share - min (held + q) all) || (much == 0 && q == 0)) ≡ false
less_left m share held much p q all more is =
    let parts = or_parts (nat_le m (share - min (held + p) all)) (much == 0 && p == 0) is in
    let less : share - min (held + p) all < m = leb-false m (share - min (held + p) all) parts.0 in
    let still : share - min (held + q) all < m = omega (arith, less, more) in
    or_from (nat_le m (share - min (held + q) all)) (much == 0 && q == 0) (lt-leb m (share - min (held + q) all) still)
    (elim (and_cases (much == 0) (p == 0) parts.1) [
      | inl holds ↦ and_left (much == 0) (q == 0) holds
      | inr some ↦ and_right (much == 0) (q == 0) (ne_eqb q 0 (λ e. eqb-false p 0 some (omega (arith, e, more))))
    ])

-- what is promised where there was room fits, if it isn't nothing, or is promised to one alone
more_fits : (m share held much p all : ℕ) → p ≤ all → (nat_le m (share - min (held + p) all) || (much == 0 && p == 0)) ≡ true
    → (min (p + m) all ≡ p) ⊎ ((min (held + min (p + m) all) all ≤ share) ⊎ ((much ≡ 0) × (min (p + m) all ≡ min (0 + m) all)))
more_fits m share held much p all few is = elim (or_cases (nat_le m (share - min (held + p) all)) (much == 0 && p == 0) is) [
  | inl left ↦
      (let less : m ≤ share - min (held + p) all = leb-true m (share - min (held + p) all) left in
      elim (cases_lt share (min (held + p) all)) [
        | inl full ↦ (let none : m ≡ 0 = omega (arith, less, full) in inl (omega (arith, none, few)))
        | inr room ↦ inr (inl (omega (arith, less, room)))
      ])
  | inr alone ↦
      (let parts = and_parts (much == 0) (p == 0) alone in
      let nothing : p ≡ 0 = eqb-true p 0 parts.1 in
      inr (inr (eqb-true much 0 parts.0, ap (λ (n : ℕ). min (n + m) all) nothing)))
]

plus_twice : (p m n all : ℕ) → min (min (p + m) all + n) all ≡ min (p + (m + n)) all
plus_twice p m n all = omega arith

none_later : (guest : RowGuest) (one other : Budget) → other ≡ record one { promised = other.promised; is_kept = other.is_kept } → one.promised ≤ other.promised
    → has_left (missing guest) one ≡ false → has_left (missing guest) other ≡ false
none_later guest one other same more none =
    ap (λ (b : Budget). has_left (missing guest) b) same ∙ less_left (missing guest) one.share one.held one.large one.promised other.promised most more none

pub no_room_found : (guest : RowGuest) (old new : Budget) → has_left (missing guest) old ≡ false → FoundRoom guest old new → ⊥
no_room_found guest old new none found =
    both_ways (has_left (missing guest) (record old { promised = found.promised }))
    (less_left (missing guest) old.share old.held old.large old.promised found.promised most found.since none) found.left

-- ---- who waits in the queue

next_not_queued : (guest : RowGuest) → is_queued (in_line Next guest) ≡ false
next_not_queued guest = and_right guest.waits false refl

pub next_not_stray : (guest : RowGuest) → is_stray (in_line Next guest) ≡ false
next_not_stray guest = and_right guest.waits false refl

not_both : (waits : Bool) (line : WaitState) → (waits && is_left_out line) ≡ true → (waits && is_in_queue line) ≡ false
not_both false line stray = refl
not_both true Out stray = refl
not_both true Queued stray = absurd (both_ways false refl stray)
not_both true Next stray = refl

pub stray_not_queued : (guest : RowGuest) → is_stray guest ≡ true → is_queued guest ≡ false
stray_not_queued guest stray = not_both guest.waits guest.line stray

-- who waits by a number that one guest alone has finds no room if that one finds none
pub finds_none_now : (number at : ℕ) (books : BooksState) → (waits : IsQueuedAt number at books.row) → IsFalse (finds_room waits.guest books) → FindsNone books number
finds_none_now number at books waits none = λ place guest has stands queued.
    let e : place ≡ at = waits.alone place has in
    let same : guest ≡ waits.guest = same_Some guest waits.guest (sym stands ∙ ap (slice_get books.row.guests) e ∙ waits.stands) in
    ap (λ (x : RowGuest). has_left (missing x) books.budget) same ∙ none

-- ---- what some retries leave of books

-- each guest is as it was or is tried again, and more may be promised
pub record Follows (old new : BooksState) : Type 0 where
  pub guests : (at number : ℕ) (guest : RowGuest) → HasNumber old.row at number → StandsAt at old.row guest → Fares at number guest old new
  pub came : (place number : ℕ) (later : RowGuest) → HasNumber new.row place number → StandsAt place new.row later → Stood number later old.row
  pub budget : new.budget ≡ record old.budget { promised = new.budget.promised; is_kept = new.budget.is_kept }
  pub more : old.budget.promised ≤ new.budget.promised
  pub few : new.budget.promised ≤ most
  pub queue : (number : ℕ) → IsIn number old.queue → IsIn number new.queue ⊎ NoneWaits number new.row
  pub promises : Promises old new
  pub guests_long : length new.row.guests ≡ length old.row.guests
  pub numbers_long : length new.row.numbers ≡ length old.row.numbers

pub whole_after : (old new : BooksState) → Follows old new → IsWhole old.row → IsWhole new.row
whole_after old new f whole = f.numbers_long ∙ whole ∙ sym f.guests_long

module _ (old new : BooksState) (f : Follows old new) where
  pub none_waits_yet : (number : ℕ) → NoneWaits number old.row → NoneWaits number new.row
  none_waits_yet number none = λ place later has stands.
      let s = f.came place number later has stands in
      elim s.same [
        | inl e ↦ ap is_queued e ∙ none s.at s.guest s.has_it s.stands
        | inr e ↦ ap is_queued e ∙ next_not_queued s.guest
      ]

  pub finds_none_yet : (number : ℕ) → FindsNone old number → FindsNone new number
  finds_none_yet number none = λ place later has stands queued.
      let s = f.came place number later has stands in
      elim s.same [
        | inl e ↦
            ap (λ (x : RowGuest). has_left (missing x) new.budget) e
            ∙ none_later s.guest old.budget new.budget f.budget f.more (none s.at s.guest s.has_it s.stands (subst (λ (x : RowGuest). IsTrue (is_queued x)) e queued))
        | inr e ↦ absurd (both_ways (is_queued later) (ap is_queued e ∙ next_not_queued s.guest) queued)
      ]

-- one retry after another
module _ (a b c : BooksState) (f : Follows a b) (g : Follows b c) where
  found_before : (guest : RowGuest) → FoundRoom guest b.budget c.budget → FoundRoom guest a.budget c.budget
  found_before guest found = record {
    promised = found.promised;
    since = (let one = f.more in let two = found.since in omega (arith, one, two));
    left = sym (ap (λ (x : Budget). has_left (missing guest) (record x { promised = found.promised })) f.budget) ∙ found.left;
    gets = found.gets;
  }

  found_after : (guest : RowGuest) → FoundRoom guest a.budget b.budget → FoundRoom guest a.budget c.budget
  found_after guest found = record {
    promised = found.promised;
    since = found.since;
    left = found.left;
    gets = (let one = found.gets in let two = g.more in omega (arith, one, two));
  }

  fate_then : (at mid place : ℕ) (guest one two : RowGuest) → Stays at mid guest one a b ⊎ GoesOn at mid guest one a b
      → Stays mid place one two b c ⊎ GoesOn mid place one two b c → Stays at place guest two a c ⊎ GoesOn at place guest two a c
  fate_then at mid place guest one two (inl s) (inl t) = inl (record {
    same = t.same ∙ s.same;
    awake = λ h. t.awake (s.awake h);
    asleep = λ h. t.asleep (s.asleep h);
  })
  fate_then at mid place guest one two (inl s) (inr t) = inr (record {
    next = t.next ∙ ap (in_line Next) s.same;
    awake = t.awake;
    why = elim t.why [
      | inl found ↦ inl (
        subst (λ (x : RowGuest). IsTrue (is_queued x)) s.same found.0,
        subst (λ (x : RowGuest). FoundRoom x a.budget c.budget) s.same (found_before one found.1),
      )
      | inr stray ↦ inr (
        subst (λ (x : RowGuest). IsTrue (is_stray x)) s.same stray.0,
        elim (cases_lt at a.awake) [
          | inl low ↦ (let below = s.awake low in let above = stray.1 in absurd (omega (arith, below, above)))
          | inr high ↦ high
        ],
      )
    ];
  })
  fate_then at mid place guest one two (inr s) (inl t) = inr (record {
    next = t.same ∙ s.next;
    awake = t.awake s.awake;
    why = elim s.why [
      | inl found ↦ inl (found.0, found_after guest found.1)
      | inr stray ↦ inr stray
    ];
  })
  fate_then at mid place guest one two (inr s) (inr t) =
      let none : ⊥ = elim t.why [
        | inl found ↦ both_ways (is_queued one) (ap is_queued s.next ∙ next_not_queued guest) found.0
        | inr stray ↦ both_ways (is_stray one) (ap is_stray s.next ∙ next_not_stray guest) stray.0
      ] in
      absurd none

  came_then : (place number : ℕ) (later : RowGuest) → HasNumber c.row place number → StandsAt place c.row later → Stood number later a.row
  came_then place number later has stands =
      let one = g.came place number later has stands in
      let two = f.came one.at number one.guest one.has_it one.stands in
      let same : (later ≡ two.guest) ⊎ (later ≡ in_line Next two.guest) = elim one.same [
        | inl e ↦ elim two.same [ inl d ↦ inl (e ∙ d) | inr d ↦ inr (e ∙ d) ]
        | inr e ↦ elim two.same [ inl d ↦ inr (e ∙ ap (in_line Next) d) | inr d ↦ inr (e ∙ ap (in_line Next) d) ]
      ] in
      record { at = two.at; guest = two.guest; has_it = two.has_it; stands = two.stands; same = same }

  alone_before : OneAlone b c → OneAlone a c
  alone_before alone =
      let s = f.came alone.at alone.number alone.guest alone.has_it alone.stands in
      elim s.same [
        | inl e ↦ record {
          number = alone.number;
          at = s.at;
          guest = s.guest;
          has_it = s.has_it;
          stands = s.stands;
          queued = subst (λ (x : RowGuest). IsTrue (is_queued x)) e alone.queued;
          none = alone.none;
          all = alone.all ∙ ap (λ (x : RowGuest). plus 0 (missing x)) e;
        }
        | inr e ↦ absurd (both_ways (is_queued alone.guest) (ap is_queued e ∙ next_not_queued s.guest) alone.queued)
      ]

  alone_after : c.budget.promised ≡ b.budget.promised → OneAlone a b → OneAlone a c
  alone_after same w =
      let none : c.budget.large ≡ 0 = ap (λ (x : Budget). x.large) g.budget ∙ w.none in
      record { number = w.number; at = w.at; guest = w.guest; has_it = w.has_it; stands = w.stands; queued = w.queued; none = none; all = same ∙ w.all }

  within_after : c.budget.promised ≡ b.budget.promised → plus b.budget.held b.budget.promised ≤ b.budget.share → plus c.budget.held c.budget.promised ≤ c.budget.share
  within_after same within =
      subst (λ (x : Budget). plus x.held x.promised ≤ x.share) (sym g.budget) (subst (λ (n : ℕ). plus b.budget.held n ≤ b.budget.share) (sym same) within)

  promises_then : Promises a c
  promises_then = record {
    more = f.promises.more + g.promises.more;
    missed = (let one = f.promises.missed in let two = g.promises.missed in omega (arith, one, two));
    promised = g.promises.promised ∙ ap (λ (n : ℕ). plus n g.promises.more) f.promises.promised
        ∙ plus_twice a.budget.promised f.promises.more g.promises.more most;
    fits = elim g.promises.fits [
      | inl same ↦ elim f.promises.fits [
        | inl before ↦ inl (same ∙ before)
        | inr some ↦ elim some [ inl within ↦ inr (inl (within_after same within)) | inr alone ↦ inr (inr (alone_after same alone)) ]
      ]
      | inr some ↦ elim some [ inl within ↦ inr (inl within) | inr alone ↦ inr (inr (alone_before alone)) ]
    ];
  }

  pub follows_then : Follows a c
  follows_then = record {
    guests = λ at number guest has stands.
        let one = f.guests at number guest has stands in
        let two = g.guests one.place number one.later one.has_it one.stands in
        let fate = fate_then at one.place two.place guest one.later two.later one.fate two.fate in
        record { place = two.place; later = two.later; has_it = two.has_it; stands = two.stands; fate = fate };
    came = came_then;
    budget = g.budget ∙ ap (λ (x : Budget). record x { promised = c.budget.promised; is_kept = c.budget.is_kept }) f.budget;
    more = (let one = f.more in let two = g.more in omega (arith, one, two));
    few = g.few;
    queue = λ number h. elim (f.queue number h) [ inl there ↦ g.queue number there | inr none ↦ inr (none_waits_yet b c g number none) ];
    promises = promises_then;
    guests_long = g.guests_long ∙ f.guests_long;
    numbers_long = g.numbers_long ∙ f.numbers_long;
  }

-- all guests stay as they were, where only the queue changes and whether others wait for the oldest
pub unmoved : (old : BooksState) (kept : Bool) (queue : List ℕ) (last strayed : Bool) → old.budget.promised ≤ most
    → ((number : ℕ) → IsIn number old.queue → IsIn number queue ⊎ NoneWaits number old.row)
    → Follows old (record old { budget = record old.budget { is_kept = kept }; queue = queue; is_last = last; has_strays = strayed })
unmoved old kept queue last strayed few leaving = record {
  guests = λ at number guest has stands.
      record { place = at; later = guest; has_it = has; stands = stands; fate = inl (record { same = refl; awake = λ h. h; asleep = λ h. h }) };
  came = λ place number later has stands. record { at = place; guest = later; has_it = has; stands = stands; same = inl refl };
  budget = refl;
  more = omega arith;
  few = few;
  queue = leaving;
  promises = record { more = 0; missed = omega arith; promised = omega (arith, few); fits = inl refl };
  guests_long = refl;
  numbers_long = refl;
}

pub same_books : (old : BooksState) → old.budget.promised ≤ most → Follows old old
same_books old few = unmoved old old.budget.is_kept old.queue old.is_last old.has_strays few (λ number h. inl h)

-- ---- one guest is tried again

-- books in which room was promised and the queue has changed
abbrev pub base : BooksState → Budget → List ℕ → (last : Bool) → BooksState
base old budget queue last = record old { budget = budget; queue = queue; is_last = last }

module _ (at number : ℕ) (guest : RowGuest) (old new : BooksState) (budget : Budget) (queue : List ℕ) (last : Bool)
    (has : HasNumber old.row at number) (stands : StandsAt at old.row guest) (t : Tried at (base old budget queue last) new) where
  budget_is : new.budget ≡ budget
  budget_is = ap (λ (x : BooksState). x.budget) t.rest

  fares : (IsTrue (is_queued guest) × FoundRoom guest old.budget budget) ⊎ (IsTrue (is_stray guest) × (old.awake ≤ at))
      → (k n : ℕ) (g : RowGuest) → HasNumber old.row k n → StandsAt k old.row g → Fares k n g old new
  fares why k n g had stood = elim (cases_eq k at) [
    | inl e ↦
        (let same : g ≡ guest = same_Some g guest (sym stood ∙ ap (slice_get old.row.guests) e ∙ stands) in record {
          place = t.moved k;
          later = in_line Next g;
          has_it = t.numbers (t.moved k) ∙ ap (slice_get old.row.numbers) (t.back k) ∙ had;
          stands = t.it (t.moved k) g (t.back k ∙ e) (sym (ap (slice_get old.row.guests) e) ∙ stood);
          fate = inr (record {
            next = refl;
            awake = subst (λ (m : ℕ). t.moved m < new.awake) (sym e) t.awake;
            why = elim why [
              | inl found ↦ inl (
                subst (λ (x : RowGuest). IsTrue (is_queued x)) (sym same) found.0,
                subst (λ (x : RowGuest). FoundRoom x old.budget new.budget) (sym same)
                    (subst (λ (x : Budget). FoundRoom guest old.budget x) (sym budget_is) found.1),
              )
              | inr stray ↦ inr (
                subst (λ (x : RowGuest). IsTrue (is_stray x)) (sym same) stray.0,
                subst (λ (m : ℕ). old.awake ≤ m) (sym e) stray.1,
              )
            ];
          });
        })
    | inr apart ↦ record {
      place = t.moved k;
      later = g;
      has_it = t.numbers (t.moved k) ∙ ap (slice_get old.row.numbers) (t.back k) ∙ had;
      stands = t.others (t.moved k) (λ e. apart (sym (t.back k) ∙ e)) ∙ ap (slice_get old.row.guests) (t.back k) ∙ stood;
      fate = inl (record { same = refl; awake = t.low k; asleep = t.high k apart });
    }
  ]

  came_from : (k n : ℕ) (g : RowGuest) → HasNumber new.row k n → StandsAt k new.row g → Stood n g old.row
  came_from k n g had stood = elim (cases_eq (t.moved k) at) [
    | inl e ↦ record {
      at = at;
      guest = guest;
      has_it = ap (slice_get old.row.numbers) (sym e) ∙ sym (t.numbers k) ∙ had;
      stands = stands;
      same = inr (same_Some g (in_line Next guest) (sym stood ∙ t.it k guest e stands));
    }
    | inr apart ↦ record {
      at = t.moved k;
      guest = g;
      has_it = sym (t.numbers k) ∙ had;
      stands = sym (t.others k apart) ∙ stood;
      same = inl refl;
    }
  ]

  none_waits_now : ((other : ℕ) → HasNumber old.row other number → other ≡ at) → NoneWaits number new.row
  none_waits_now alone = λ k g had stood.
      let e : t.moved k ≡ at = alone (t.moved k) (sym (t.numbers k) ∙ had) in
      ap is_queued (same_Some g (in_line Next guest) (sym stood ∙ t.it k guest e stands)) ∙ next_not_queued guest

  pub promises_now : (m : ℕ) → misses guest ≡ m → budget.promised ≡ plus old.budget.promised m
      → (budget.promised ≡ old.budget.promised) ⊎ ((plus budget.held budget.promised ≤ budget.share)
      ⊎ (IsTrue (is_queued guest) × (budget.large ≡ 0) × (budget.promised ≡ plus 0 (missing guest))))
      → Promises old new
  promises_now m is promised fits = record {
    more = m;
    missed =
        (let sums = t.sum misses in
        let less = changed_sum (in_line Next) misses at old.row.guests guest stands in
        let none : misses (in_line Next guest) ≡ 0 = ap (λ (b : Bool). if b then missing (in_line Next guest) else 0) (next_not_queued guest) in
        omega (arith, sums, less, none, is));
    promised = ap (λ (x : Budget). x.promised) budget_is ∙ promised;
    fits = elim fits [
      | inl same ↦ inl (ap (λ (x : Budget). x.promised) budget_is ∙ same)
      | inr some ↦ elim some [
        | inl within ↦ inr (inl (subst (λ (x : Budget). plus x.held x.promised ≤ x.share) (sym budget_is) within))
        | inr alone ↦
            (let none = ap (λ (x : Budget). x.large) budget_is ∙ alone.1 in
            let all = ap (λ (x : Budget). x.promised) budget_is ∙ alone.2 in
            inr (inr (record { number = number; at = at; guest = guest; has_it = has; stands = stands; queued = alone.0; none = none; all = all })))
      ]
    ];
  }

  pub one_tried : (IsTrue (is_queued guest) × FoundRoom guest old.budget budget) ⊎ (IsTrue (is_stray guest) × (old.awake ≤ at))
      → budget ≡ record old.budget { promised = budget.promised; is_kept = budget.is_kept } → old.budget.promised ≤ budget.promised → budget.promised ≤ most
      → ((n : ℕ) → IsIn n old.queue → IsIn n queue ⊎ NoneWaits n new.row) → Promises old new → Follows old new
  one_tried why is more few leaving promises = record {
    guests = fares why;
    came = came_from;
    budget = subst (λ (x : Budget). x ≡ record old.budget { promised = x.promised; is_kept = x.is_kept }) (sym budget_is) is;
    more = subst (λ (x : Budget). old.budget.promised ≤ x.promised) (sym budget_is) more;
    few = subst (λ (x : Budget). x.promised ≤ most) (sym budget_is) few;
    queue = λ n h. elim (leaving n h) [
      | inl there ↦ inl (subst (λ (l : List ℕ). IsIn n l) (sym (ap (λ (x : BooksState). x.queue) t.rest)) there)
      | inr none ↦ inr none
    ];
    promises = promises;
    guests_long = t.guests_long;
    numbers_long = t.numbers_long;
  }

-- one that waited in the queue found room
pub went_on : (number at : ℕ) (old new : BooksState) (queue : List ℕ) (last : Bool) → (waits : IsQueuedAt number at old.row) → IsTrue (finds_room waits.guest old)
    → old.budget.promised ≤ most → Leaves number old.queue queue → Tried at (base old (promised_more (missing waits.guest) old.budget) queue last) new
    → Follows old new
went_on number at old new queue last waits room few left t =
    let budget : Budget = promised_more (missing waits.guest) old.budget in
    let m : ℕ = missing waits.guest in
    let p : ℕ = old.budget.promised in
    let more : p ≤ plus p m = omega (arith, few) in
    let misses_it : misses waits.guest ≡ missing waits.guest = ap (λ (b : Bool). if b then missing waits.guest else 0) waits.queued in
    let fits = more_fits m old.budget.share old.budget.held old.budget.large p most few room in
    one_tried at number waits.guest old new budget queue last waits.has_it waits.stands t
    (inl (waits.queued, record { promised = p; since = omega arith; left = room; gets = omega arith }))
    refl more (omega arith)
    (λ n h. elim (left.others n h) [
      | inl there ↦ inl there
      | inr e ↦ inr (subst (λ (k : ℕ). NoneWaits k new.row) e (none_waits_now at number waits.guest old new budget queue last waits.has_it waits.stands t waits.alone))
    ])
    (promises_now at number waits.guest old new budget queue last waits.has_it waits.stands t m misses_it refl (elim fits [
      | inl same ↦ inl same
      | inr some ↦ elim some [ inl within ↦ inr (inl within) | inr alone ↦ inr (inr (waits.queued, alone.0, alone.1)) ]
    ]))
