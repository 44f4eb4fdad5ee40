-- What is told of some events and then of others, and of one that is refused behind some; and that what one event makes
-- of the sessions is what it makes of the connections.
use Rattle.mc_world.proofs.Words.{◌≡◌, ℕ, zero, suc, ◌+◌, ◌<◌, Bool, List, [], ◌∷◌, ◌++◌, length, take, get_or, slice_get, Some, None, refl, sym, ap, ◌∙◌, subst, Result, Ok, Err, is_err, OnOk, IfErr}
use Rattle.mc_world.proofs.Words.{true, false, arith, if◌then◌else◌, take_more, Settings, TurnFault, Plain, PlainWorld}
use Rattle.mc_world.proofs.Words.{WorldState, Happens, Runs, WorldStandsAs, RunsIn, Told, named, Refuses, RunsUntil}
use Rattle.mc_world.proofs.Words.{ToldRefused, ToldUntil, CanStand, with_end, EventDecides, GivesUp, Event, Turn}
use Rattle.mc_world.proofs.Words.{Open, Close, Purge, Refused, turn_events, EventOutcome, was_done, was_refused, refusals, Goes}
use Rattle.mc_world.proofs.Words.{RunsThrough, ToldThrough, inl, inr, drop, Option, MatchOption, nat_lt, slice_get_within, steps, Request, SessionState, opened, fed, closed, sent, Connection, IsRest}
use Rattle.mc_world.proofs.Words.{Stands, at_start, fresh, with_piece, after_turn, ended, in_plain, put, changed, numbered, open_connection, open_session, Turns, StandAll, TakesMemory, at_session}
use Rattle.mc_world.proofs.Words.{EventMoves, EventsMove, eight_moved}
use Rattle.mc_world.proofs.Words.{TurnBy, Done, sessions_ended, DecidedIn, EventTakesMemory, Undone, Piece}
use Rattle.mc_session.proofs.ChainLemmas as chain
use Rattle.mc_world.proofs.ConnectionLemmas.{stands_one, rest_fed, rest_closed, rest_idle, rest_due, next_of, is_next, stands_after, AreOpen, Opens, stand_length, stand_open, stand_put, stand_more}
use Rattle.mc_world.proofs.ConnectionLemmas.{stand_changed, stand_out, less}
use Rattle.mc_world.proofs.EventLemmas.{change, number, grown}

-- at another moment
pub moment_stands : {K : Type 0} {first : PlainWorld} {old : WorldState K} (now : ℕ) → WorldStandsAs first old → WorldStandsAs (record first { now = now }) (record old { moment = now })
moment_stands now stands = record { greatest = stands.greatest; state = stands.state; now = refl; sessions = stands.sessions }

-- with other entries left to move
pub left_stands : {K : Type 0} {first : PlainWorld} {old : WorldState K} (left : List ℕ) → WorldStandsAs first old → WorldStandsAs first (record old { left = left })
left_stands left stands = record { greatest = stands.greatest; state = stands.state; now = stands.now; sessions = stands.sessions }

-- with the hasher and settings that a world still has
pub runs_still : {K : Type 0} (hash_of : K → List ℕ → ℕ) (old mid : WorldState K) → mid.settings ≡ old.settings → mid.hasher ≡ old.hasher
    → (first : PlainWorld) (events : List Event) (last : PlainWorld) → RunsIn hash_of mid first events last → RunsIn hash_of old first events last
runs_still hash_of old mid settings hasher first events last runs = subst (λ (s : Settings). Runs (hash_of old.hasher) s.shelves first events last) settings
    (subst (λ h. Runs (hash_of h) mid.settings.shelves first events last) hasher runs)

-- the one event is refused
refuses_only : {K : Type 0} (hash_of : K → List ℕ → ℕ) (old new : WorldState K) (first : PlainWorld) (at : ℕ) (decided : Bool) (e event : Event) → slice_get (e ∷ []) at ≡ Some event
    → RunsUntil hash_of old first (take at (e ∷ [])) decided event new → Refuses hash_of first decided e new
refuses_only hash_of old new first zero decided e event here (mid, same, refuses) = let it : event ≡ e = cc in
    subst (λ (w : PlainWorld). Refuses hash_of w decided e new) same (subst (λ (x : Event). Refuses hash_of mid decided x new) it refuses)
refuses_only hash_of old new first (suc at) decided e event here until = let none : None ≡ Some event = here in absurd (cc)

-- what it leaves to move
moves_only : (old new : List ℕ) (at : ℕ) (e event : Event) → slice_get (e ∷ []) at ≡ Some event → EventsMove old (take at (e ∷ []) ++ event ∷ []) new → EventMoves old e new
moves_only old new zero e event here moves = let it : event ≡ e = cc in subst (λ (x : Event). EventMoves old x new) it (chain.one EventMoves event old new moves)
moves_only old new (suc at) e event here moves = let none : None ≡ Some event = here in absurd (cc)

module _ {K : Type 0} {hash_of : K → List ℕ → ℕ} where
  -- what is told, from its parts
  pub told_by : {old new : WorldState K} {events : List Event} → new.settings ≡ old.settings → new.hasher ≡ old.hasher → EventsMove old.left events new.left
      → ((first : PlainWorld) → WorldStandsAs first old → (last : PlainWorld) × RunsIn hash_of old first events last × WorldStandsAs last new) → Told hash_of old events new
  told_by settings hasher moves told = record { settings = settings; hasher = hasher; moves = moves; told = told }

  -- no event
  pub told_none : (world : WorldState K) → Told hash_of world [] world
  told_none world = record { settings = refl; hasher = refl; moves = refl; told = λ first stands. (first, refl, stands) }

  pub told_join : {old mid new : WorldState K} {events more : List Event} → Told hash_of old events mid → Told hash_of mid more new → Told hash_of old (events ++ more) new
  told_join {old = old} {mid = between} {new = new} {events = events} {more = more} told after = told_by (after.settings ∙ told.settings) (after.hasher ∙ told.hasher)
      (chain.join EventMoves events more old.left between.left new.left told.moves after.moves) (λ first stands.
      let (mid, runs, there) = told.told first stands in let (last, others, ends) = after.told mid there in let still = runs_still hash_of old between told.settings told.hasher mid more last others in
      (last, chain.join (Happens (hash_of old.hasher) old.settings.shelves) events more first mid last runs still, ends))

  -- one event more of a list
  pub told_on : {old mid new : WorldState K} (events : List Event) (at : ℕ) (event : Event) → event ≡ get_or events at event → at < length events
      → Told hash_of old (take at events) mid → Told hash_of mid (event ∷ []) new → Told hash_of old (take (at + 1) events) new
  told_on {old = old} {new = new} events at event here inside told after =
      subst (λ (es : List Event). Told hash_of old es new) (ap (λ (e : Event). take at events ++ e ∷ []) here ∙ sym (take_more events at event inside)) (told_join told after)

  -- what is told of the events before a refused one, and of it
  pub told_until : {old mid new : WorldState K} {events : List Event} {event : Event} {refused : Refused} → Told hash_of old (take refused.at events) mid
      → slice_get events refused.at ≡ Some event → refused.session ≡ named event → ToldRefused hash_of refused.decided mid event new → ToldUntil hash_of refused old events new
  told_until {old = old} {mid = mid} {new = new} {events = events} {event = event} {refused = refused} told here session after =
      let settings = after.settings ∙ told.settings in let hasher = after.hasher ∙ told.hasher in
      let moves = chain.join EventMoves (take refused.at events) (event ∷ []) old.left mid.left new.left told.moves (chain.alone EventMoves event mid.left new.left after.moves) in
      record { settings = settings; hasher = hasher; event = event; here = here; session = session; moves = moves; told = λ p stands. let q = told.told p stands in (q.0, q.1, after.told q.0 q.2) }

  -- the one event is refused, and so it is told
  pub told_refused : {old new : WorldState K} {event : Event} {refused : Refused} → refused.at ≡ 0 → refused.session ≡ named event → ToldRefused hash_of refused.decided old event new
      → ToldUntil hash_of refused old (event ∷ []) new
  told_refused {old = old} {event = event} first session after =
      told_until (subst (λ (k : ℕ). Told hash_of old (take k (event ∷ [])) old) (sym first) (told_none old)) (ap (slice_get (event ∷ [])) first) session after

  pub until_only : {refused : Refused} {old new : WorldState K} {event : Event} → ToldUntil hash_of refused old (event ∷ []) new → ToldRefused hash_of refused.decided old event new
  until_only {refused = refused} {old = old} {new = new} {event = event} until = let only = refuses_only hash_of old new in
      let moves = moves_only old.left new.left refused.at event until.event until.here until.moves in
      record { settings = until.settings; hasher = until.hasher; moves = moves; told = λ first stands. only first refused.at refused.decided event until.event until.here (until.told first stands) }

  -- the three events of a turn
  pub turn_told : (n shelf now : ℕ) {old new : WorldState K} → Told hash_of (record old { moment = now }) (Turn n ∷ []) new
      → Told hash_of old (turn_events n shelf now) (record new { left = eight_moved shelf new.left })
  turn_told n shelf now {old = old} {new = new} told = told_by told.settings told.hasher
      (old.left, refl, (new.left, chain.one EventMoves (Turn n) old.left new.left told.moves, (eight_moved shelf new.left, refl, refl))) (λ first stands.
      let moved : PlainWorld = record first { now = now } in let (last, (mid, turns, same), ends) = told.told moved (moment_stands {old = old} now stands) in
      (last, (moved, refl, (mid, turns, (mid, refl, same))), left_stands {old = new} (eight_moved shelf new.left) ends))

-- What is told of some events that went in some way, and of one more.
-- one outcome more
refusals_more : (outcomes : List EventOutcome) (outcome : EventOutcome) → refusals (outcomes ++ outcome ∷ []) ≡ refusals outcomes + refusals (outcome ∷ [])
refusals_more [] outcome = omega arith
refusals_more (was_done ∷ outcomes) outcome = refusals_more outcomes outcome
refusals_more (was_refused decided ∷ outcomes) outcome = omega (arith, refusals_more outcomes outcome)

module _ (hash : List ℕ → ℕ) (shelves : ℕ) where
  -- one event more
  through_more : (events : List Event) (outcomes : List EventOutcome) (event : Event) (outcome : EventOutcome) (first mid last : PlainWorld)
      → RunsThrough hash shelves first events outcomes mid → Goes hash shelves mid event outcome last → RunsThrough hash shelves first (events ++ event ∷ []) (outcomes ++ outcome ∷ []) last
  through_more [] [] event outcome first mid last runs goes = (last, subst (λ (w : PlainWorld). Goes hash shelves w event outcome last) runs goes, refl)
  through_more (e ∷ events) (c ∷ outcomes) event outcome first mid last runs goes = (runs.0, runs.1, through_more events outcomes event outcome runs.0 mid last runs.2 goes)
  through_more events outcomes event outcome first mid last runs goes = absurd runs

  -- a run without refusals
  through_done : (events : List Event) (outcomes : List EventOutcome) → refusals outcomes ≡ 0 → (first last : PlainWorld)
      → RunsThrough hash shelves first events outcomes last → Runs hash shelves first events last
  through_done [] [] none first last runs = runs
  through_done (e ∷ events) (was_done ∷ outcomes) none first last runs = (runs.0, runs.1, through_done events outcomes none runs.0 last runs.2)
  through_done (e ∷ events) (was_refused decided ∷ outcomes) none first last runs = cc
  through_done events outcomes none first last runs = absurd runs

module _ {K : Type 0} {hash_of : K → List ℕ → ℕ} where
  -- no event
  pub through_none : (world : WorldState K) → ToldThrough hash_of 0 world [] world
  through_none world = record { settings = refl; hasher = refl; moves = refl; outcomes = []; count = refl; told = λ first stands. (first, refl, stands) }

  through_on : {count refused : ℕ} {old mid new : WorldState K} {events : List Event} (event : Event) (outcome : EventOutcome) → count + refusals (outcome ∷ []) ≡ refused
      → ToldThrough hash_of count old events mid → new.settings ≡ mid.settings → new.hasher ≡ mid.hasher → EventMoves mid.left event new.left
      → ((first : PlainWorld) → WorldStandsAs first mid → (last : PlainWorld) × Goes (hash_of mid.hasher) mid.settings.shelves first event outcome last × WorldStandsAs last new)
      → ToldThrough hash_of refused old (events ++ event ∷ []) new
  through_on {old = old} {mid = mid} {new = new} {events = events} event outcome is told settings hasher moves goes = record {
    settings = settings ∙ told.settings;
    hasher = hasher ∙ told.hasher;
    moves = chain.join EventMoves events (event ∷ []) old.left mid.left new.left told.moves (chain.alone EventMoves event mid.left new.left moves);
    outcomes = told.outcomes ++ outcome ∷ [];
    count = refusals_more told.outcomes outcome ∙ ap (λ (n : ℕ). n + refusals (outcome ∷ [])) told.count ∙ is;
    told = λ first stands. let (between, runs, there) = told.told first stands in let (last, went, ends) = goes between there in
        let still = subst (λ (s : Settings). Goes (hash_of old.hasher) s.shelves between event outcome last) told.settings
        (subst (λ (h : K). Goes (hash_of h) mid.settings.shelves between event outcome last) told.hasher went) in
        (last, through_more (hash_of old.hasher) old.settings.shelves events told.outcomes event outcome first between last runs still, ends);
  }

  -- one event more of a list, as its result tells
  pub through_next : {T : Type 0} {count : ℕ} {old mid new : WorldState K} (events : List Event) (at : ℕ) (event : Event) (r : Result T TurnFault) → event ≡ get_or events at event
      → at < length events → ToldThrough hash_of count old (take at events) mid → OnOk r (Told hash_of mid (event ∷ []) new)
      → IfErr r (λ fault. ToldRefused hash_of fault.decided mid event new) → (b : Bool) → is_err r ≡ b → ToldThrough hash_of (if b then count + 1 else count) old (take (at + 1) events) new
  through_next {count = count} {old = old} {mid = mid} {new = new} events at event (Ok x) here inside told ok err false is = let same : count + 0 ≡ count = omega arith in
      subst (λ (es : List Event). ToldThrough hash_of count old es new) (ap (λ (e : Event). take at events ++ e ∷ []) here ∙ sym (take_more events at event inside))
      (through_on event was_done same told ok.settings ok.hasher (chain.one EventMoves event mid.left new.left ok.moves) (λ first stands.
      let (last, runs, there) = ok.told first stands in (last, chain.one (Happens _ _) event first last runs, there)))
  through_next {count = count} {old = old} {new = new} events at event (Err fault) here inside told ok err true is =
      subst (λ (es : List Event). ToldThrough hash_of (count + 1) old es new) (ap (λ (e : Event). take at events ++ e ∷ []) here ∙ sym (take_more events at event inside))
      (through_on event (was_refused fault.decided) refl told err.settings err.hasher err.moves (λ first stands.
      let (last, gives, there, takes) = err.told first stands in (last, (gives, takes), there)))
  through_next events at event (Ok x) here inside told ok err true is = cc
  through_next events at event (Err fault) here inside told ok err false is = cc

  -- where none was refused
  pub told_whole : {refused : ℕ} {old new : WorldState K} {events : List Event} → ToldThrough hash_of refused old events new → refused ≡ 0 → Told hash_of old events new
  told_whole {old = old} {events = events} told none = told_by told.settings told.hasher told.moves (λ first stands. let (last, runs, ends) = told.told first stands in
      (last, through_done (hash_of old.hasher) old.settings.shelves events told.outcomes (told.count ∙ none) first last runs, ends))

-- A single event that is refused memory.
-- where no step is decided nothing is done
nothing_done : (decided : Bool) (first last : PlainWorld) (event : Event) → ((state : Plain) → EventDecides first event state → ⊥)
    → GivesUp decided first event last → last ≡ with_end (named event) first
nothing_done true first last event none (state, decides, is) = absurd (none state decides)
nothing_done false first last event none is = is

module _ {K : Type 0} (hash_of : K → List ℕ → ℕ) where
  pub open_refused : (refused : Refused) (old new : WorldState K) → CanStand old → ToldUntil hash_of refused old (Open ∷ []) new → new ≡ old
  open_refused refused old new can until = let (last, gives, ends, takes) = (until_only until).told can.plain can.stands in
      let same = nothing_done refused.decided can.plain last Open (λ state decides. decides) gives in
      let left = (until_only until).moves in
      (λ i. record new { left = left i }) ∙ stands_one can.plain old new can.stands (subst (λ (p : PlainWorld). WorldStandsAs p new) same ends) until.settings until.hasher

  -- so a close is done
  pub closes : (n : ℕ) (r : Result (Unit {0}) Refused) (old new : WorldState K) → OnOk r (Told hash_of old (Close n ∷ []) new)
      → IfErr r (λ refused. ToldUntil hash_of refused old (Close n ∷ []) new) → Told hash_of old (Close n ∷ []) new
  closes n (Ok x) old new told until = told
  closes n (Err refused) old new told until = told_by until.settings until.hasher (chain.alone EventMoves (Close n) old.left new.left (until_only until).moves) (λ first stands.
      let (last, gives, ends, takes) = (until_only until).told first stands in
      (last, (last, nothing_done refused.decided first last (Close n) (λ state decides. decides) gives, refl), ends))

-- What one event makes of the sessions is what it makes of the connections.
-- the plain world of these connections that stands as a world
abbrev plain_of : {K : Type 0} → WorldState K → List Connection → PlainWorld
plain_of w cs = record { greatest = w.settings.greatest; state = w.state; now = w.moment; connections = cs }

plain_stands : {K : Type 0} (w : WorldState K) (cs : List Connection) → StandAll cs w.sessions → WorldStandsAs (plain_of w cs) w
plain_stands w cs all = record { greatest = refl; state = refl; now = refl; sessions = all }

-- and there is no other
is_plain : {K : Type 0} (first : PlainWorld) (w : WorldState K) → WorldStandsAs first w → plain_of w first.connections ≡ first
is_plain first w stands = λ i. record { greatest = stands.greatest i; state = stands.state i; now = stands.now i; connections = first.connections }

-- a session that was just opened is what is left of a fresh connection
fresh_stands : (greatest : ℕ) → Stands (fresh greatest) (opened greatest)
fresh_stands greatest = (refl, record { read = []; follows = refl; taken = refl; among = at_start; out = refl })

-- a piece comes to what stands
piece_stands : (cs : List Connection) (ss : List SessionState) (n : ℕ) (piece : List ℕ) → StandAll cs ss → StandAll (change n cs (with_piece piece)) (at_session ss n (λ s. fed s piece))
piece_stands cs ss n piece all =
    stand_changed AreOpen cs ss n (with_piece piece) (λ s. fed s piece) (open_connection n cs) (open_session n ss) (stand_open cs ss n all) (λ c s h. rest_fed c s piece h.1 h.2 h.0) all

-- one that stands closes, if one is named
end_stands : (cs : List Connection) (ss : List SessionState) (o : Option ℕ) → StandAll cs ss → StandAll (change (number o) cs ended) (sessions_ended o ss)
end_stands cs ss None all = all
end_stands cs ss (Some n) all = stand_changed AreOpen cs ss n ended closed (open_connection n cs) (open_session n ss) (stand_open cs ss n all) (λ c s h. rest_closed c s h.2) all

-- one session more, where there is room
abbrev opened_more : {K : Type 0} → Bool → WorldState K → WorldState K
opened_more b w = if b then record w { sessions = w.sessions ++ opened w.settings.greatest ∷ [] } else w

open_by : {K : Type 0} (w : WorldState K) (cs : List Connection) (b : Bool) → StandAll cs w.sessions
    → (ds : List Connection) × (plain_of (opened_more b w) ds ≡ grown b (plain_of w cs)) × StandAll ds (opened_more b w).sessions
open_by w cs true all = (cs ++ fresh w.settings.greatest ∷ [], refl, stand_more cs w.sessions (fresh w.settings.greatest) (opened w.settings.greatest) all (fresh_stands w.settings.greatest))
open_by w cs false all = (cs, refl, all)

opened_set_up : {K : Type 0} (w : WorldState K) (b : Bool) → ((opened_more b w).settings ≡ w.settings) × ((opened_more b w).hasher ≡ w.hasher)
opened_set_up w true = (refl, refl)
opened_set_up w false = (refl, refl)

opened_left : {K : Type 0} (w : WorldState K) (b : Bool) → (opened_more b w).left ≡ w.left
opened_left w true = refl
opened_left w false = refl

-- a session's connection is open with it
both_by : (c : Option Connection) (s : SessionState) → Opens c (Some s) → (d : Connection) × (c ≡ Some d) × IsRest d s
both_by None s both = absurd both
both_by (Some c) s both = (c, refl, both.2)

open_both : (cs : List Connection) (ss : List SessionState) (n : ℕ) (s : SessionState) → StandAll cs ss → open_session n ss ≡ Some s → (c : Connection) × (open_connection n cs ≡ Some c) × IsRest c s
open_both cs ss n s all is = both_by (open_connection n cs) s (subst (Opens (open_connection n cs)) is (stand_open cs ss n all))

-- a world that is set up as another, at the same moment
set_up_as : {K : Type 0} (old new : WorldState K) → new.settings ≡ old.settings → new.hasher ≡ old.hasher → new.moment ≡ old.moment
    → new ≡ record old { state = new.state; sessions = new.sessions; left = new.left }
set_up_as old new settings hasher moment = λ i. record { settings = settings i; hasher = hasher i; state = new.state; moment = moment i; sessions = new.sessions; left = new.left }

-- the connection that is named closes
end_plain : (w : PlainWorld) (o : Option ℕ) → record w { connections = change (number o) w.connections ended } ≡ with_end o w
end_plain w None = refl
end_plain w (Some n) = refl

module _ {K : Type 0} (hash_of : K → List ℕ → ℕ) where
  abbrev EventGoes : WorldState K → List Connection → Event → WorldState K → Type 0
  EventGoes old cs event new = (ds : List Connection) × Happens (hash_of old.hasher) old.settings.shelves (plain_of old cs) event (plain_of new ds) × StandAll ds new.sessions

  -- a turn, by the connection and the session
  turn_goes : (old : WorldState K) (cs : List Connection) (n : ℕ) (state : Plain) (ss : List SessionState) (c : Option Connection) (s : Option SessionState) → StandAll cs old.sessions
      → Opens c s → TurnBy in_plain s n old.moment old.sessions ss old.state state → let new : WorldState K = record old { state = state; sessions = ss } in
      (ds : List Connection) × MatchOption c (plain_of new ds ≡ plain_of old cs) (λ c. Turns (plain_of old cs) n c (plain_of new ds)) × StandAll ds ss
  turn_goes old cs n state ss None None all both h = (cs, λ i. record (plain_of old cs) { state = h.1 i }, subst (StandAll cs) (sym h.0) all)
  turn_goes old cs n state ss (Some c) (Some s) all both (inl h) = (cs, inl (rest_idle c s both.2 h.0, λ i. record (plain_of old cs) { state = h.2 i }), subst (StandAll cs) (sym h.1) all)
  turn_goes old cs n state ss (Some c) (Some s) all both (inr (next, takes, is)) =
      let after : Connection = after_turn takes.unit takes.text c in let due = is_next in_plain old.moment c s next old.state state both.2 takes in
      let stand = stand_put cs old.sessions n after next all (stands_after in_plain old.moment c s next old.state state both.2 takes both.1) in
      (put n cs after, inr (state, record { unit = takes.unit; at = s.taken; text = takes.text; next = due; answers = takes.answers }, refl), subst (StandAll (put n cs after)) (sym is) stand)
  turn_goes old cs n state ss c s all both h = absurd both

  -- one event
  goes : (old new : WorldState K) (cs : List Connection) (event : Event) → StandAll cs old.sessions → Done hash_of old event new → EventGoes old cs event new
  goes old new cs Open all done =
      subst (EventGoes old cs Open) (sym (done ∙ ap (λ (k : ℕ). opened_more (nat_lt k 65535) old) (stand_length cs old.sessions all))) (open_by old cs (nat_lt (length cs) 65535) all)
  goes old new cs (Piece n piece) all done = subst (EventGoes old cs (Piece n piece)) (sym done) (change n cs (with_piece piece), refl, piece_stands cs old.sessions n piece all)
  goes old new cs (Turn n) all (settings, hasher, moment, turn, moves) = subst (EventGoes old cs (Turn n)) (sym (set_up_as old new settings hasher moment))
      (turn_goes old cs n new.state new.sessions (open_connection n cs) (open_session n old.sessions) all (stand_open cs old.sessions n all) turn)
  goes old new cs (Close n) all done = subst (EventGoes old cs (Close n)) (sym done) (change n cs ended, refl, end_stands cs old.sessions (Some n) all)
  goes old new cs (Purge shelf) all done = subst (EventGoes old cs (Purge shelf)) (sym done.0) (cs, refl, all)
  goes old new cs event all done = subst (EventGoes old cs event) (sym done) (cs, refl, all)

  done_set_up : (old new : WorldState K) (event : Event) → Done hash_of old event new → (new.settings ≡ old.settings) × (new.hasher ≡ old.hasher)
  done_set_up old new Open done = subst (λ (w : WorldState K). (w.settings ≡ old.settings) × (w.hasher ≡ old.hasher)) (sym done) (opened_set_up old (nat_lt (length old.sessions) 65535))
  done_set_up old new (Turn n) done = (done.0, done.1)
  done_set_up old new (Purge shelf) done = (λ i. (done.0 i).settings, λ i. (done.0 i).hasher)
  done_set_up old new event done = (λ i. (done i).settings, λ i. (done i).hasher)

  done_moves : (old new : WorldState K) (event : Event) → Done hash_of old event new → EventMoves old.left event new.left
  done_moves old new Open done = ap (λ (w : WorldState K). w.left) done ∙ opened_left old (nat_lt (length old.sessions) 65535)
  done_moves old new (Turn n) (settings, hasher, moment, turn, moves) = moves
  done_moves old new (Purge shelf) done = done.1
  done_moves old new event done = λ i. (done i).left

  -- what is done is told
  told_one : (old new : WorldState K) (event : Event) → Done hash_of old event new → Told hash_of old (event ∷ []) new
  told_one old new event done = let set_up = done_set_up old new event done in
      told_by set_up.0 set_up.1 (chain.alone EventMoves event old.left new.left (done_moves old new event done)) (λ first stands.
      let (ds, happens, all) = goes old new first.connections event stands.sessions done in let Ran : PlainWorld → Type 0 = λ w. RunsIn hash_of old w (event ∷ []) (plain_of new ds) in
      (plain_of new ds, subst Ran (is_plain first old stands) (plain_of new ds, happens, refl), plain_stands new ds all))

  -- its step is decided, and it takes memory, where the connection's does
  decides_in : (old : WorldState K) (cs : List Connection) (state : Plain) (event : Event) → StandAll cs old.sessions → DecidedIn old event state → EventDecides (plain_of old cs) event state
  decides_in old cs state (Turn n) all (s, is, decides) = let (c, there, rest) = open_both cs old.sessions n s all is in
      let less = slice_get_within (steps decides.command) s.taken decides.step decides.is_step in
      let next = next_of c s rest (Request decides.command) decides.front decides.rest decides.parts decides.spelled (omega (arith, less)) in
      (c, there, record { command = decides.command; at = s.taken; step = decides.step; reply = decides.reply; next = next; is_step = decides.is_step; replied = decides.took_it })
  decides_in old cs state event all h = h

  takes_memory : (old : WorldState K) (cs : List Connection) (event : Event) → StandAll cs old.sessions → EventTakesMemory old event → TakesMemory (plain_of old cs) event
  takes_memory old cs Open all h = let same = stand_length cs old.sessions all in omega (arith, h, same)
  takes_memory old cs (Piece n piece) all (s, is) = let (c, there, rest) = open_both cs old.sessions n s all is in (c, there)
  takes_memory old cs (Turn n) all (s, is, due) = let (c, there, rest) = open_both cs old.sessions n s all is in let next = rest_due c s rest due in (c, there, next.0, next.1, next.2)
  takes_memory old cs event all h = h

  -- a refused event leaves what stands so, with its session closed
  gives_up : (decided : Bool) (old new : WorldState K) (cs : List Connection) (event : Event) → StandAll cs old.sessions → Undone decided old event new
      → plain_of new (change (number (named event)) cs ended) ≡ with_end (named event) (record (plain_of old cs) { state = new.state })
      → GivesUp decided (plain_of old cs) event (plain_of new (change (number (named event)) cs ended))
  gives_up true old new cs event all undone is = (new.state, decides_in old cs new.state event all (undone.decides refl), is)
  gives_up false old new cs event all undone is = is ∙ ap (λ (s : Plain). with_end (named event) (record (plain_of old cs) { state = s })) (undone.undecided refl)

  refuses : (decided : Bool) (old new : WorldState K) (event : Event) → Undone decided old event new → (first : PlainWorld) → WorldStandsAs first old → Refuses hash_of first decided event new
  refuses decided old new event undone first stands = let cs = first.connections in let ds = change (number (named event)) cs ended in
      let is = ap (λ (w : WorldState K). plain_of w ds) (set_up_as old new undone.settings undone.hasher undone.moment) ∙ end_plain (record (plain_of old cs) { state = new.state }) (named event) in
      let all = subst (StandAll ds) (sym undone.sessions) (end_stands cs old.sessions (named event) stands.sessions) in
      subst (λ (w : PlainWorld). Refuses hash_of w decided event new) (is_plain first old stands)
      (plain_of new ds, gives_up decided old new cs event stands.sessions undone is, plain_stands new ds all, takes_memory old cs event stands.sessions undone.takes)

  refused_one : (decided : Bool) (old new : WorldState K) (event : Event) → Undone decided old event new → ToldRefused hash_of decided old event new
  refused_one decided old new event undone = record { settings = undone.settings; hasher = undone.hasher; moves = undone.moves; told = refuses decided old new event undone }

  -- what the result of an event tells of a world as contracts see it; and a plain world still stands
  pub result_told : {T : Type 0} (old new world : WorldState K) (event : Event) (r : Result T TurnFault) → old ≡ world → OnOk r (Done hash_of old event new)
      → OnOk r (Told hash_of world (event ∷ []) new)
  result_told old new world event (Ok x) view done = subst (λ (w : WorldState K). Told hash_of w (event ∷ []) new) view (told_one old new event done)
  result_told old new world event (Err fault) view done = tt

  pub result_refused : {T : Type 0} (old new world : WorldState K) (event : Event) (r : Result T TurnFault) → old ≡ world → IfErr r (λ fault. Undone fault.decided old event new)
      → IfErr r (λ fault. ToldRefused hash_of fault.decided world event new)
  result_refused old new world event (Ok x) view undone = tt
  result_refused old new world event (Err fault) view undone = subst (λ (w : WorldState K). ToldRefused hash_of fault.decided w event new) view (refused_one fault.decided old new event undone)

  pub result_stands : {T : Type 0} (old new : WorldState K) (event : Event) (r : Result T TurnFault) → CanStand old → OnOk r (Done hash_of old event new)
      → IfErr r (λ fault. Undone fault.decided old event new) → CanStand new
  result_stands old new event (Ok x) can done undone = let last = (told_one old new event done).told can.plain can.stands in record { plain = last.0; stands = last.2 }
  result_stands old new event (Err fault) can done undone = let last = (refused_one fault.decided old new event undone).told can.plain can.stands in record { plain = last.0; stands = last.2 }

-- and after bytes were sent
pub sent_stands : {K : Type 0} (old : WorldState K) (number n : ℕ) → CanStand old → CanStand (record old { sessions = changed number old.sessions (λ s. sent s n) (numbered number old.sessions) })
sent_stands old number n can = record {
  plain = record can.plain { connections = changed number can.plain.connections (less n) (numbered number can.plain.connections) };
  stands = record { greatest = can.stands.greatest; state = can.stands.state; now = can.stands.now; sessions = stand_out (drop n) can.plain.connections old.sessions number can.stands.sessions };
}

-- at another moment
pub can_move : {K : Type 0} (old : WorldState K) (now : ℕ) → CanStand old → CanStand (record old { moment = now })
can_move old now can = record { plain = record can.plain { now = now }; stands = moment_stands {old = old} now can.stands }

-- with other entries left to move
pub can_grow : {K : Type 0} (old : WorldState K) (left : List ℕ) → CanStand old → CanStand (record old { left = left })
can_grow old left can = record { plain = can.plain; stands = left_stands {old = old} left can.stands }

-- a world of no sessions stands
pub new_stands : {K : Type 0} (world : WorldState K) → world.sessions ≡ [] → CanStand world
new_stands world none = record { plain = plain_of world []; stands = plain_stands world [] (subst (StandAll []) (sym none) tt) }

pub ruleset result_rules = (result_told, result_refused)
