-- What is done at a place.
use Rattle.std.proofs.Common.{◌≡◌, ◌∙◌, ℕ, ◌+◌, ◌<◌, ◌≤◌, ◌-◌, List, [], ◌∷◌, length, Option, MatchOption, slice_get, slice_set, slice_index_or}
use Rattle.std.proofs.Common.{if◌then◌else◌, Some, refl, subst, sym, ap, inl, inr, Bool, true, false, MatchBool, arith}
use Rattle.std.proofs.lemmas.Option.{slice_get_read, slice_get_cases}
use Rattle.std.specs.declared.time.Duration.{Duration}
use Rattle.std.specs.declared.time.Instant.{Instant}
use Rattle.mio.specs.declared.event.event.Event.{Event}
use Rattle.mio.specs.declared.token.Token.{Token}
use Rattle.mio.specs.Event.{event_token}
use Rattle.mc_time.specs.Chains.{Repeats}
use Rattle.mc_time.specs.Chains as chains
use Rattle.mc_sockets.specs.declared.link_record.LinkRecord.{LinkRecord}
use Rattle.mc_sockets.specs.declared.readiness.Readiness.{Readiness}
use Rattle.mc_sockets.specs.declared.readiness.Report.{Report}
use Rattle.mc_sockets.specs.declared.link_table.SweepAction.{SweepAction}
use Rattle.mc_sockets.specs.declared.link_table.LinkTable.{LinkTable}
use Rattle.mc_sockets.specs.LinkRecords.{Notes}
use Rattle.mc_sockets.specs.Readiness.{report_of}
use Rattle.mc_sockets.specs.LinkTables.{Acts, AnswersAt, AreHeard, AtEach, Hears, IsFull, LooksAtNext, LooksInTurn, Patrols, SendsAt, sweep}
use Rattle.mc_sockets.specs.SweepCursors.{due, is_too_soon, turn}
use Rattle.mc_sockets.specs.declared.idle.SweepCursor.{SweepCursor}

-- a record stands at this place, and that holds of it
pub some_at : {P : Type 0} (places : List P) (n at : ℕ) (place : P) (N : Type 0) (Q : P → Type 0) → n ≡ length places → at < n
    → place ≡ slice_index_or places at place → Q place → MatchOption (slice_get places at) N Q
some_at places n at place N Q len within is holds = subst (λ o. MatchOption o N Q) (sym (slice_get_read places n at place len within is)) holds

-- that is done with the record of a place, and nothing else changes
pub done_at : {F : Type 0} (N : Type 0) (act : LinkRecord F → LinkRecord F → List ℕ → List ℕ → Type 0) (n at : ℕ) (place left : LinkRecord F) (old new : LinkTable F)
    → n ≡ length old.places.items → at < n → place ≡ slice_index_or old.places.items at place → act place left old.named.items new.named.items
    → new.places.items ≡ slice_set old.places.items at left → new.given ≡ old.given
    → MatchOption (slice_get old.places.items at) N (λ stood. Acts act at stood old new)
done_at N act n at place left old new len within is acts places given =
    some_at old.places.items n at place N (λ stood. Acts act at stood old new) len within is (record { left = left; acts = acts; places = places; given = given })

-- no record stands at this place
pub none_at : {P : Type 0} (places : List P) (n at : ℕ) (N : Type 0) (Q : P → Type 0) → n ≡ length places → (at < n → false ≡ true) → N
    → MatchOption (slice_get places at) N Q
none_at places n at N Q len out holds =
    elim (slice_get_cases places at).1 [
      | inl there ↦ let no : false ≡ true = out (subst (λ k. at < k) (sym len) there.1) in cc
      | inr gone ↦ subst (λ o. MatchOption o N Q) (sym gone.1) holds
    ]

-- a test is so, or isn't
pub match_true : (b : Bool) (X Y : Type 0) → b ≡ true → X → MatchBool b X Y
match_true b X Y is holds = subst (λ t. MatchBool t X Y) (sym is) holds

pub match_false : (b : Bool) (X Y : Type 0) → b ≡ false → Y → MatchBool b X Y
match_false b X Y is holds = subst (λ t. MatchBool t X Y) (sym is) holds

module _ {F : Type 0} (step : ℕ → LinkTable F → LinkTable F → Type 0) where
  -- a step was made at each place before this one
  abbrev pub MadeBefore : ℕ → LinkTable F → LinkTable F → Type 0
  MadeBefore at old new = (n : ℕ) → n ≡ at → AtEach step n old new

  -- no place is before the first
  pub made_none : (seats : LinkTable F) → MadeBefore 0 seats seats
  made_none seats n is = subst (λ k. AtEach step k seats seats) (sym is) chains.none_yet

  -- the step was made at one more place
  pub made_more : (at : ℕ) (old mid new : LinkTable F) → MadeBefore at old mid → step at mid new → MadeBefore (at + 1) old new
  made_more at old mid new before made n is = subst (λ k. AtEach step k old new) (sym is) (chains.one_more (before at refl) (made, refl))

-- an event of a link is heard at the place of its token
pub hears_link : {F R : Type 0} (known : F → Option Readiness) (sends : R → ℕ → R → Type 0) (event : Event) (token : Token) (report : Report)
    (old new : LinkTable F) (old_rests new_rests : R) → token ≡ event_token event → (token.0 ≡ 0 → ⊥) → report ≡ report_of event
    → SendsAt sends (Notes known report (IsFull old)) (token.0 - 1) old new old_rests new_rests → Hears known sends event old new old_rests new_rests
hears_link known sends event token report old new old_rests new_rests is some reports heard = record {
  waker = λ none. absurd (some (ap (λ t. t.0) is ∙ none));
  link = λ _. subst (λ r. SendsAt sends (Notes known r (IsFull old)) ((event_token event).0 - 1) old new old_rests new_rests) reports
      (subst (λ t. SendsAt sends (Notes known report (IsFull old)) (t.0 - 1) old new old_rests new_rests) is heard);
}

module _ {F R : Type 0} (hears : Event → LinkTable F → LinkTable F → R → R → Type 0) where
  -- all but these events are heard: once they are, all are
  abbrev pub HeardBut : (left all : List Event) (old new : LinkTable F) (old_rests new_rests : R) → Type 0
  HeardBut left all old new old_rests new_rests =
      (end : LinkTable F) (end_rests : R) → AreHeard hears left new end new_rests end_rests → AreHeard hears all old end old_rests end_rests

  -- no event is heard yet
  pub heard_none : (left all : List Event) (seats : LinkTable F) (rests : R) → left ≡ all → HeardBut left all seats seats rests rests
  heard_none left all seats rests is end end_rests heard = subst (λ events. AreHeard hears events seats end rests end_rests) is heard

  -- the first event that was left is heard
  pub heard_next : (left others all : List Event) (event : Event) (old mid new : LinkTable F) (old_rests mid_rests new_rests : R) → left ≡ event ∷ others
      → HeardBut left all old mid old_rests mid_rests → hears event mid new mid_rests new_rests → HeardBut others all old new old_rests new_rests
  heard_next left others all event old mid new old_rests mid_rests new_rests is so_far heard end end_rests rest =
      so_far end end_rests
      (subst (λ events. AreHeard hears events mid end mid_rests end_rests) (sym is) ((new, new_rests), heard, rest))

  -- no event is left
  pub heard_all : (left all : List Event) (old new : LinkTable F) (old_rests new_rests : R) → length left ≡ 0 → HeardBut left all old new old_rests new_rests
      → AreHeard hears all old new old_rests new_rests
  heard_all [] all old new old_rests new_rests is so_far = so_far new new_rests refl
  heard_all (event ∷ others) all old new old_rests new_rests is so_far = absurd (grind (arith, is))

  -- no event was there
  pub heard_nothing : (all : List Event) (old new : LinkTable F) (old_rests new_rests : R) → all ≡ [] → new ≡ old → new_rests ≡ old_rests
      → AreHeard hears all old new old_rests new_rests
  heard_nothing all old new old_rests new_rests is same same_rests =
      subst (λ events. AreHeard hears events old new old_rests new_rests) (sym is) (λ i. (same i, same_rests i))

-- the watch, where the moment of a look is noted
abbrev pub noted : Instant → SweepCursor → SweepCursor
noted now watch = record watch { looked = if is_too_soon watch.looked now then watch.looked else Some now }

module _ {F R : Type 0} (known : F → Option Readiness) (sends : R → ℕ → R → Type 0) (patrol : SweepAction) (before now : Instant) (first : SweepCursor) (old : LinkTable F) (old_rests : R) where
  -- what a look by this limit does
  abbrev act : Duration → LinkTable F → Bool → LinkRecord F → LinkRecord F → List ℕ → List ℕ → Type 0
  act limit = Patrols known patrol (record { limit = limit; before = before; now = now })

  -- this many places were looked at, from where the watch began
  pub record Looked (count : ℕ) (watch : SweepCursor) (new : LinkTable F) (new_rests : R) : Type 0 where
    pub looks : (n : ℕ) → n ≡ count → Repeats (LooksAtNext sends (act first.limit)) n (sweep first.at old old_rests) (sweep watch.at new new_rests)
    pub same : watch ≡ record (noted now first) { at = watch.at }

  pub looked_none : (watch : SweepCursor) → watch ≡ noted now first → Looked 0 watch old old_rests
  looked_none watch is = record {
    looks = λ n none. subst (λ (k : ℕ). Repeats (LooksAtNext sends (act first.limit)) k (sweep first.at old old_rests) (sweep watch.at old old_rests)) (sym none)
        (subst (λ (at : ℕ). Repeats (LooksAtNext sends (act first.limit)) 0 (sweep first.at old old_rests) (sweep at old old_rests)) (sym (ap (λ (w : SweepCursor). w.at) is)) chains.none_yet);
    same = is ∙ ap (λ (at : ℕ). record (noted now first) { at = at }) (sym (ap (λ (w : SweepCursor). w.at) is));
  }

  pub looked_more : (count : ℕ) (mid later : SweepCursor) (between new : LinkTable F) (mid_rests new_rests : R) → Looked count mid between mid_rests
      → LooksAtNext sends (act mid.limit) (sweep mid.at between mid_rests) (sweep later.at new new_rests) → later ≡ record mid { at = later.at }
      → Looked (count + 1) later new new_rests
  looked_more count mid later between new mid_rests new_rests looked next is =
      let limit : mid.limit ≡ first.limit = ap (λ (w : SweepCursor). w.limit) looked.same in
      let one = subst (λ (d : Duration). LooksAtNext sends (act d) (sweep mid.at between mid_rests) (sweep later.at new new_rests)) limit next in
      record {
        looks = λ n more. subst (λ (k : ℕ). Repeats (LooksAtNext sends (act first.limit)) k (sweep first.at old old_rests) (sweep later.at new new_rests)) (sym more)
            (chains.one_more (looked.looks count refl) one);
        same = is ∙ ap (λ (w : SweepCursor). record w { at = later.at }) looked.same;
      }

  pub looked_all : (count : ℕ) (watch : SweepCursor) (new : LinkTable F) (new_rests : R) → Looked count watch new new_rests → count ≡ due first.looked now (length old.places.items)
      → LooksInTurn known sends patrol before now first watch old new old_rests new_rests
  looked_all count watch new new_rests looked all = record {
    looks = looked.looks (due first.looked now (length old.places.items)) (sym all);
    looked = ap (λ (w : SweepCursor). w.looked) looked.same;
    limit = ap (λ (w : SweepCursor). w.limit) looked.same;
  }

-- as many as are due
pub count_of : (count all places len : ℕ) (looked : Option Instant) (now : Instant) → all ≤ count → count ≤ all → all ≡ due looked now len → len ≡ places → count ≡ due looked now places
count_of count all places len looked now least most is long =
    let same : count ≡ all = omega (arith, least, most) in
    same ∙ is ∙ ap (λ (n : ℕ). due looked now n) long

-- the place in turn was looked at by the watch's limit, and what a dropped link left there was sent
pub looked_at : {F R : Type 0} (sends : R → ℕ → R → Type 0) (act : Duration → LinkTable F → Bool → LinkRecord F → LinkRecord F → List ℕ → List ℕ → Type 0) (limit first : Duration)
    (at place later len : ℕ) (old new : LinkTable F) (old_rests new_rests : R) (answer : Bool) → limit ≡ first → place ≡ turn at len → len ≡ length old.places.items → later ≡ place + 1
    → AnswersAt (act limit old) place answer old new → MatchBool answer (sends old_rests place new_rests) (new_rests ≡ old_rests)
    → LooksAtNext sends (act first) (sweep at old old_rests) (sweep later new new_rests)
looked_at sends act limit first at place later len old new old_rests new_rests answer by_limit is long next answers rest =
    let there : place ≡ turn at (length old.places.items) = is ∙ ap (λ (n : ℕ). turn at n) long in
    let answered = subst (λ (d : Duration). AnswersAt (act d old) place answer old new) by_limit answers in
    record {
      looks = subst (λ (n : ℕ). SendsAt sends (act first old) n old new old_rests new_rests) there (record { answer = answer; answers = answered; rest = rest });
      next = next ∙ ap (λ (n : ℕ). n + 1) there;
    }
