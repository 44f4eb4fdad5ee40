-- What was served of a session until now, a turn, a write or a read more, and a whole run. First, what was written of a
-- session, in front of its output and of its connection's.
use Rattle.mc_world.proofs.Words.{◌≡◌, ℕ, zero, suc, ◌≤◌, Bool, true, false, List, [], ◌∷◌, ◌++◌, length, take, Option, Some, None, refl, sym, ap, ◌∙◌, subst, arith, append_assoc, if◌then◌else◌}
use Rattle.mc_world.proofs.Words.{option_map, take-append-drop, SessionState, sent, Writes, WritesOnce, Connection, PlainWorld, WorldState, numbered, output_of, open_session, IsIdle, IsClosed}
use Rattle.mc_world.proofs.Words.{StandAll, WorldStandsAs, RunsIn, Told, with_written, in_front, with_front, in_world, with_sent, Event}
use Rattle.mc_world.proofs.Words.{WorldSession, ◌+◌, ◌<◌, length-append, ◌⊎◌, inl, inr, ◌^◌, Result, Ok, Err}
use Rattle.mc_world.proofs.Words.{OnOk, mod-eq_of_lt, lt-ltb, IsAtEnd, Appends-nil, Appends-trans, Consumes-trans, Settings, Progress, ExchangeStep, Exchange, Wrote, Exchanges, HasEnded, Refusal, no_turn, no_piece}
use Rattle.mc_world.proofs.Words.{FallsShort, ServeFault, fresh, ended, Runs, at_connection, Happens, RunsUntil, named, with_end, GivesUp, next_session, waiting, most_waiting, most_turns, shelf_of}
use Rattle.mc_world.proofs.Words.{turn_events, Service, ServiceStep, IsService, turn, piece, write, scene, IsRefusal, refused_turn, refused_piece, UntilRefused, Served, ServedAll, seat, one_more, Begins, HasServed}
use Rattle.mc_world.proofs.Words.{Open, Piece, Turn, Clock, Close, Came, longest_piece, EventMoves, EventsMove}
use Rattle.mc_time.specs.Chains as chains
use Rattle.mc_session.specs.Exchanges as exchanges
use Rattle.mc_session.proofs.ChainLemmas as chain
use Rattle.mc_world.proofs.ConnectionLemmas.{StandsIf, stand_out, stand_length}
use Rattle.mc_world.proofs.EventLemmas.{with_connections, NoneOpens, runs_passed, at_number, changed_is, number_twice, number_nothing, number_get, grown, runs_inside, opens, change_twice}
use Rattle.mc_world.proofs.EventLemmas.{gives_up_fronted, takes_fronted, changed_length, if_opened}
use Rattle.mc_world.proofs.WorldLemmas.{told_by, told_join, moment_stands, runs_still, until_only}

-- bytes in front of a session's output
abbrev pub before : List ℕ → SessionState → SessionState
before bytes s = record s { out = bytes ++ s.out }

-- a world with other sessions
abbrev with_sessions : {K : Type 0} → WorldState K → List SessionState → WorldState K
with_sessions w sessions = record w { sessions = sessions }

-- they stand so too
pub put_on : {K : Type 0} (n : ℕ) (bytes : List ℕ) (p : PlainWorld) (w : WorldState K) → WorldStandsAs p w → WorldStandsAs (with_front n bytes p) (with_written n bytes w)
put_on n bytes p w stands = record { greatest = stands.greatest; state = stands.state; now = stands.now; sessions = stand_out (λ o. bytes ++ o) p.connections w.sessions n stands.sessions }

-- what stands with bytes in front is something that stands without, with the bytes in front
part_by : (bytes : List ℕ) (c : Connection) (s : SessionState) (b : Bool) → StandsIf b c (before bytes s) → let d : Connection = record c { out = s.out } in StandsIf b d s × (bytes ++ s.out ≡ c.out)
part_by bytes c s true (opens, rest) = ((opens, record { read = rest.read; follows = rest.follows; taken = rest.taken; among = rest.among; out = refl }), rest.out)
part_by bytes c s false same = (λ i. record (same i) { out = s.out }, λ i. (same i).out)

parts : (bytes : List ℕ) (n : ℕ) (cs : List Connection) (ss : List SessionState) → StandAll cs (at_number ss n (before bytes))
    → (ds : List Connection) × StandAll ds ss × (at_number ds n (in_front bytes) ≡ cs)
parts bytes zero cs ss all = (cs, all, refl)
parts bytes (suc n) [] [] all = ([], tt, refl)
parts bytes (suc n) (c ∷ cs) [] all = absurd all
parts bytes (suc zero) [] (s ∷ ss) all = absurd all
parts bytes (suc (suc n)) [] (s ∷ ss) all = absurd all
parts bytes (suc zero) (c ∷ cs) (s ∷ ss) all = let part = part_by bytes c s c.is_open all.0 in let d : Connection = record c { out = s.out } in
    (d ∷ cs, (part.0, all.1), λ i. record c { out = part.1 i } ∷ cs)
parts bytes (suc (suc n)) (c ∷ cs) (s ∷ ss) all = let (ds, stand, is) = parts bytes (suc n) cs ss all.1 in (c ∷ ds, (all.0, stand), ap (λ (l : List Connection). c ∷ l) is)

pub fronts : {K : Type 0} (n : ℕ) (bytes : List ℕ) (p : PlainWorld) (w : WorldState K) → WorldStandsAs p (with_written n bytes w) → (q : PlainWorld) × (with_front n bytes q ≡ p) × WorldStandsAs q w
fronts n bytes p w stands = let (ds, stand, is) = parts bytes n p.connections w.sessions (subst (StandAll p.connections) (changed_is n w.sessions (before bytes)) stands.sessions) in
    (with_connections p ds, ap (with_connections p) (changed_is n ds (in_front bytes) ∙ is), record { greatest = stands.greatest; state = stands.state; now = stands.now; sessions = stand })

-- what is told where no session is opened is told with bytes in front too
pub told_written : {K : Type 0} {hash_of : K → List ℕ → ℕ} (n : ℕ) (bytes : List ℕ) {events : List Event} {old new : WorldState K} → NoneOpens events
    → Told hash_of old events new → Told hash_of (with_written n bytes old) events (with_written n bytes new)
told_written {hash_of = hash_of} n bytes {events = events} {old = old} {new = new} none told = told_by told.settings told.hasher told.moves (λ p stands.
    let (q, is, there) = fronts n bytes p old stands in let (last, runs, ends) = told.told q there in
    let passed = runs_passed (hash_of old.hasher) old.settings.shelves n bytes events q last none runs in
    (with_front n bytes last, subst (λ (v : PlainWorld). RunsIn hash_of old v events (with_front n bytes last)) is passed, put_on n bytes last new ends))

-- no bytes, and bytes in front of bytes
pub written_nothing : {K : Type 0} (n : ℕ) (w : WorldState K) → with_written n [] w ≡ w
written_nothing n w = ap (with_sessions w) (changed_is n w.sessions (before []) ∙ number_nothing w.sessions n (before []) (λ s. refl))

pub written_twice : {K : Type 0} (n : ℕ) (a b : List ℕ) (w : WorldState K) → with_written n a (with_written n b w) ≡ with_written n (a ++ b) w
written_twice n a b w = ap (with_sessions w) (simp changed_is (number_twice w.sessions n (before a) (before b) (before (a ++ b)) (λ s i. record s { out = sym (append_assoc a b s.out) i })))

-- bytes that are sent and then put in front
sent_number : (k n : ℕ) (ss : List SessionState) → at_number (at_number ss n (λ s. sent s k)) n (before (take k (output_of (numbered n ss)))) ≡ ss
sent_number k zero ss = refl
sent_number k (suc n) [] = refl
sent_number k (suc zero) (s ∷ ss) = λ i. record s { out = take-append-drop k s.out i } ∷ ss
sent_number k (suc (suc n)) (s ∷ ss) = ap (λ (l : List SessionState). s ∷ l) (sent_number k (suc n) ss)

written_sent : {K : Type 0} (n k : ℕ) (w : WorldState K) → with_written n (take k (output_of (numbered n w.sessions))) (with_sent n k w) ≡ w
written_sent n k w = ap (with_sessions w) (simp changed_is (sent_number k n w.sessions))

-- what was written was the front of the session's output
fronts_written : {K : Type 0} {hash_of : K → List ℕ → ℕ} {s : WorldSession} {old : WorldState K} (fronts : ℕ) (new : WorldSession × WorldState K × List ℕ)
    → chains.Repeats (WritesOnce (in_world hash_of)) fronts (s, old, []) new → (new.0 ≡ s) × (old ≡ with_written s.number new.2 new.1)
fronts_written {s = s} {old = old} fronts new chains.none_yet = (refl, sym (written_nothing s.number old))
fronts_written {s = s} fronts new (chains.one_more {count = count} {mid = mid} writes once) = let so_far = fronts_written count mid writes in let (same, is) = once.sends in
    let part = take once.count (output_of (numbered mid.0.number mid.1.sessions)) in let n = mid.0.number in (
      same ∙ so_far.0,
      so_far.1 ∙ ap (with_written s.number mid.2) (sym (written_sent n once.count mid.1) ∙ ap (with_written n part) (sym is) ∙ ap (λ (m : WorldSession). with_written m.number part new.1) so_far.0)
          ∙ written_twice s.number mid.2 part new.1 ∙ ap (λ (written : List ℕ). with_written s.number written new.1) (sym once.written),
    )

pub was_written : {K : Type 0} {hash_of : K → List ℕ → ℕ} {s : WorldSession} {old : WorldState K} {part : List ℕ} {last : WorldSession} {new : WorldState K}
    → Writes (in_world hash_of) s old part last new → (last ≡ s) × (old ≡ with_written s.number part new)
was_written writes = fronts_written writes.0 _ writes.1

-- they make a session no less idle or closed
numbered_written : {K : Type 0} (n : ℕ) (bytes : List ℕ) (w : WorldState K) → numbered n (with_written n bytes w).sessions ≡ option_map (before bytes) (numbered n w.sessions)
numbered_written n bytes w = ap (numbered n) (changed_is n w.sessions (before bytes)) ∙ number_get w.sessions n (before bytes)

idle_before : (bytes : List ℕ) (o : Option SessionState) → IsIdle o → IsIdle (option_map (before bytes) o)
idle_before bytes None idle = idle
idle_before bytes (Some s) idle = (idle.0, idle.1)

pub idle_written : {K : Type 0} (n : ℕ) (bytes : List ℕ) (w : WorldState K) → IsIdle (numbered n w.sessions) → IsIdle (numbered n (with_written n bytes w).sessions)
idle_written n bytes w idle = subst IsIdle (sym (numbered_written n bytes w)) (idle_before bytes (numbered n w.sessions) idle)

-- a session that was opened and isn't open is closed
shut_by : (s : SessionState) (b : Bool) → s.is_open ≡ b → (if b then Some s else None) ≡ None → s.is_open ≡ false
shut_by s true is none = cc
shut_by s false is none = is

closed_before : (bytes : List ℕ) (n : ℕ) (ss : List SessionState) → 1 ≤ n → n ≤ length ss → open_session n ss ≡ None → IsClosed (option_map (before bytes) (numbered n ss))
closed_before bytes zero ss some inside none = absurd (omega (arith, some))
closed_before bytes (suc n) [] some inside none = absurd (omega (arith, inside))
closed_before bytes (suc zero) (s ∷ ss) some inside none = shut_by s s.is_open refl none
closed_before bytes (suc (suc n)) (s ∷ ss) some inside none = closed_before bytes (suc n) ss (omega arith) (omega (arith, inside)) none

pub closed_written : {K : Type 0} (n : ℕ) (bytes : List ℕ) (w : WorldState K) → 1 ≤ n → n ≤ length w.sessions → open_session n w.sessions ≡ None
    → IsClosed (numbered n (with_written n bytes w).sessions)
closed_written n bytes w some inside none = subst IsClosed (sym (numbered_written n bytes w)) (closed_before bytes n w.sessions some inside none)

-- a service begins with an opening
abbrev BeginsOpen : List Event → Type 0
BeginsOpen events = (rest : List Event) × (events ≡ Open ∷ rest)

opens_more : (events more : List Event) → BeginsOpen events → BeginsOpen (events ++ more)
opens_more events more (rest, is) = (rest ++ more, ap (λ (l : List Event). l ++ more) is)

step_opens : {K : Type 0} {hash_of : K → List ℕ → ℕ} {may_give : ℕ → Type 0} {n : ℕ} {first : WorldState K} (old new : Service) → ServiceStep hash_of may_give n first old new
    → BeginsOpen old.events → BeginsOpen new.events
step_opens old new (turn now gives room) begins = opens_more _ _ begins
step_opens old new (piece bytes short idle all_written) begins = opens_more _ _ begins
step_opens old new (write bytes) begins = begins

service_opens : {K : Type 0} {hash_of : K → List ℕ → ℕ} {may_give : ℕ → Type 0} {n : ℕ} {first : WorldState K} {done : Service}
    → IsService hash_of may_give n first done → BeginsOpen done.events
service_opens {hash_of = hash_of} {may_give = may_give} {n = n} {first = first} service =
    chain.repeats_keep (ServiceStep hash_of may_give n first) (λ done. BeginsOpen done.events) step_opens service.0 _ _ service.1 ([], refl)

-- one connection more is there behind an opening
opened_behind : (hash : List ℕ → ℕ) (shelves : ℕ) (first last : PlainWorld) (rest : List Event) → length first.connections < 65535 → Runs hash shelves first (Open ∷ rest) last
    → length first.connections + 1 ≤ length last.connections
opened_behind hash shelves first last rest room (mid, happens, runs) = let more : length mid.connections ≡ length first.connections + 1 =
    ap (λ (w : PlainWorld). length w.connections) (happens ∙ ap (λ (b : Bool). grown b first) (lt-ltb (length first.connections) 65535 room))
    ∙ length-append first.connections (fresh first.greatest ∷ []) in runs_inside hash shelves (length first.connections + 1) [] rest mid last runs (omega (arith, more))

module _ {K : Type 0} {hash_of : K → List ℕ → ℕ} {may_give : ℕ → Type 0} {n : ℕ} {first : WorldState K} where
  -- a step more
  pub one_step : {done now : Service} → IsService hash_of may_give n first done → ServiceStep hash_of may_give n first done now → IsService hash_of may_give n first now
  one_step service step = (service.0 + 1, chains.one_more service.1 step)

  -- more events behind what was served
  pub told_behind : {turns : ℕ} {read written : List ℕ} {now new : WorldState K} {more : List Event} (served : HasServed hash_of may_give n first turns read written now)
      → NoneOpens more → Told hash_of now more new → Told hash_of first (served.events ++ more) (with_written n written new)
  told_behind {written = written} served none told = told_join served.told (told_written n written none told)

  -- before the first round
  pub served_nothing : {new : WorldState K} → Begins hash_of n first new → HasServed hash_of may_give n first 0 [] [] new
  served_nothing {new = new} begins = record { events = Open ∷ []; service = (0, chains.none_yet); told = subst (λ (w : WorldState K). Told hash_of first (Open ∷ []) w) (sym (written_nothing n new)) begins.told }

  -- the session was opened
  pub served_inside : {start now : WorldState K} {turns : ℕ} {read written : List ℕ} → Begins hash_of n first start
      → HasServed hash_of may_give n first turns read written now → (1 ≤ n) × (n ≤ length now.sessions)
  served_inside {now = now} {written = written} begins served = let (rest, opens) = service_opens served.service in
      let (last, runs, ends) = served.told.told begins.stands.plain begins.stands.stands in let few = stand_length begins.stands.plain.connections first.sessions begins.stands.stands.sessions in
      let more = opened_behind (hash_of first.hasher) first.settings.shelves begins.stands.plain last rest (omega (arith, begins.room, few))
      (subst (λ (es : List Event). RunsIn hash_of first begins.stands.plain es last) opens runs) in let many = stand_length last.connections (with_written n written now).sessions ends.sessions in
      let same = changed_length n now.sessions (before written) (numbered n now.sessions) in (omega (arith, begins.number), omega (arith, begins.number, few, more, many, same))

  -- a turn
  then_turned : {turns : ℕ} {read written : List ℕ} {old new : WorldState K} (now : ℕ) → may_give now → waiting n old < most_waiting
      → Told hash_of old (turn_events n (shelf_of turns old.settings.shelves) now) new → HasServed hash_of may_give n first turns read written old
      → HasServed hash_of may_give n first (turns + 1) read written new
  then_turned {turns = turns} {written = written} {old = old} {new = new} now gives room told served = let events : ℕ → List Event = λ shelves. turn_events n (shelf_of turns shelves) now in
      let all = subst (λ (s : Settings). Told hash_of first (served.events ++ events s.shelves) (with_written n written new)) served.told.settings (told_behind served tt told) in
      record { events = served.events ++ events first.settings.shelves; service = one_step served.service (turn now gives (record { world = old; told = served.told; room = room })); told = all }

  -- a write
  then_wrote : {turns : ℕ} {read written : List ℕ} {old new : WorldState K} (part : List ℕ) → old ≡ with_written n part new
      → HasServed hash_of may_give n first turns read written old → HasServed hash_of may_give n first turns read (written ++ part) new
  then_wrote {written = written} {new = new} part parts served =
      let all = subst (λ (w : WorldState K). Told hash_of first served.events w) (ap (with_written n written) parts ∙ written_twice n written part new) served.told in
      record { events = served.events; service = one_step served.service (write part); told = all }

  -- a read
  then_read : {turns : ℕ} {read written : List ℕ} {old new : WorldState K} (bytes : List ℕ) → length bytes ≤ longest_piece
      → IsIdle (numbered n old.sessions) → output_of (numbered n old.sessions) ≡ []
      → Told hash_of old (Piece n bytes ∷ []) new → HasServed hash_of may_give n first turns read written old → HasServed hash_of may_give n first turns (read ++ bytes) written new
  then_read {old = old} bytes short idle all_written told served =
      record { events = served.events ++ Piece n bytes ∷ []; service = one_step served.service (piece bytes short (record { world = old; told = served.told; idle = idle }) all_written); told = told_behind served tt told }

module _ {K : Type 0} (hash_of : K → List ℕ → ℕ) (may_give : ℕ → Type 0) (n : ℕ) (first : WorldState K) where
  -- what was done with the session as an endpoint of its world was served, if it is few turns
  abbrev Serves : Progress WorldSession (WorldState K) → Type 0
  Serves done = done.turns ≤ most_turns → (done.endpoint ≡ seat n done.turns) × HasServed hash_of may_give n first done.turns done.read done.written done.store

  step_serves : (old new : Progress WorldSession (WorldState K)) → ExchangeStep (in_world hash_of) may_give old new → Serves old → Serves new
  step_serves old new (exchanges.turn now gives small (same, told)) so_far few = let (is, served) = so_far (omega (arith, few)) in (
    same ∙ ap one_more is ∙ ap (seat n) (mod-eq_of_lt (omega (arith, few))),
    then_turned now gives (subst (λ (s : WorldSession). waiting s.number old.store < most_waiting) is small)
        (subst (λ (s : WorldSession). Told hash_of old.store (turn_events s.number (shelf_of s.turns old.store.settings.shelves) now) new.store) is told) served,
  )
  step_serves old new (exchanges.piece bytes short idle all_written (same, told)) so_far few = let (is, served) = so_far few in (
    same ∙ is,
    then_read bytes short (subst (λ (s : WorldSession). IsIdle (numbered s.number old.store.sessions)) is idle) (subst (λ (s : WorldSession). output_of (numbered s.number old.store.sessions) ≡ []) is all_written)
        (subst (λ (s : WorldSession). Told hash_of old.store (Piece s.number bytes ∷ []) new.store) is told) served,
  )
  step_serves old new (exchanges.write bytes writes) so_far few = let (is, served) = so_far few in let wrote = was_written writes in
      (wrote.0 ∙ is, then_wrote bytes (subst (λ (s : WorldSession). old.store ≡ with_written s.number bytes new.store) is wrote.1) served)

  pub served_by : {start : WorldState K} {turns : ℕ} {read written : List ℕ} {last : WorldSession} {after : WorldState K}
      → Exchange (in_world hash_of) may_give (seat n 0) start turns read written last after → turns ≤ most_turns → HasServed hash_of may_give n first 0 [] [] start
      → (last ≡ seat n turns) × HasServed hash_of may_give n first turns read written after
  served_by exchange few begun = chain.repeats_keep (ExchangeStep (in_world hash_of) may_give) Serves step_serves exchange.0 _ _ exchange.1 (λ _. (refl, begun)) few

-- What was served of a session until memory ran out, and the close of it.
-- a connection that was closed is closed
ended_by : (c : Connection) (b : Bool) → c.is_open ≡ b → if_opened opens ended (if b then ended c else c) ≡ (if b then ended c else c)
ended_by c true is = refl
ended_by c false is = ap (λ (b : Bool). if b then ended c else c) is

ended_twice : (n : ℕ) (w : PlainWorld) → at_connection (at_connection w n ended) n ended ≡ at_connection w n ended
ended_twice n w = ap (with_connections w) (change_twice n w.connections ended ended ended (λ c. ended_by c c.is_open refl))

-- an event that names a session and is given up closes it
ends_by : (n : ℕ) (w last : PlainWorld) (o : Option ℕ) → o ≡ Some n → last ≡ with_end o w → at_connection last n ended ≡ last
ends_by n w last o names is = let it : last ≡ at_connection w n ended = is ∙ ap (λ (o : Option ℕ). with_end o w) names in ap (λ (v : PlainWorld). at_connection v n ended) it ∙ ended_twice n w ∙ sym it

given_ends : (decided : Bool) (n : ℕ) (mid last : PlainWorld) (event : Event) → named event ≡ Some n → GivesUp decided mid event last → at_connection last n ended ≡ last
given_ends true n mid last event names (state, decides, is) = ends_by n (record mid { state = state }) last (named event) names is
given_ends false n mid last event names is = ends_by n mid last (named event) names is

module _ {K : Type 0} (hash_of : K → List ℕ → ℕ) where
  -- what is told of events and of one that is refused behind them
  abbrev TellsUntil : WorldState K → List Event → Bool → Event → WorldState K → Type 0
  TellsUntil old events decided event new = (plain : PlainWorld) → WorldStandsAs plain old → RunsUntil hash_of old plain events decided event new

  -- what stays over events, and how the growths move on with them
  abbrev GoesOn : WorldState K → List Event → WorldState K → Type 0
  GoesOn old events new = (new.settings ≡ old.settings) × (new.hasher ≡ old.hasher) × EventsMove old.left events new.left

  -- so it is behind others, with bytes in front, and with a close behind it that does nothing
  module _ (before : List Event) (decided : Bool) (event : Event) where
    until_join : {old mid new : WorldState K} {events : List Event} → Told hash_of old events mid → TellsUntil mid before decided event new → TellsUntil old (events ++ before) decided event new
    until_join {old = old} {mid = mid} {events = events} told each plain stands = let (first, runs, there) = told.told plain stands in let (last, others, refuses) = each first there in
        let still = runs_still hash_of old mid told.settings told.hasher first before last others in
        (last, chain.join (Happens (hash_of old.hasher) old.settings.shelves) events before plain first last runs still, refuses)

    until_written : (old new : WorldState K) (n : ℕ) (bytes : List ℕ) → NoneOpens before → TellsUntil old before decided event new
        → TellsUntil (with_written n bytes old) before decided event (with_written n bytes new)
    until_written old new n bytes none each plain stands = let (q, is, there) = fronts n bytes plain old stands in let (mid, runs, (last, gives, ends, takes)) = each q there in
        let hash = hash_of old.hasher in let shelves = old.settings.shelves in (
          with_front n bytes mid,
          subst (λ (v : PlainWorld). RunsIn hash_of old v before (with_front n bytes mid)) is (runs_passed hash shelves n bytes before q mid none runs),
          (with_front n bytes last, gives_up_fronted hash shelves n bytes decided mid last event gives, put_on n bytes last new ends, takes_fronted hash shelves n bytes mid event takes),
        )

  until_closed : (first : WorldState K) {old new : WorldState K} (events : List Event) (decided : Bool) (event : Event) (n : ℕ) → named event ≡ Some n → Told hash_of old (Close n ∷ []) new
      → TellsUntil first events decided event old → TellsUntil first events decided event new
  until_closed first {new = new} events decided event n names told each plain stands = let (mid, runs, (last, gives, there, takes)) = each plain stands in
      let (after, (closed, is, same), ends) = told.told last there in
      (mid, runs, (last, gives, subst (λ (v : PlainWorld). WorldStandsAs v new) (same ∙ is ∙ given_ends decided n mid last event names gives) ends, takes))

  -- what memory was refused for, as an event of the session
  module _ (may_give : ℕ → Type 0) (n : ℕ) (first : WorldState K) where
    abbrev Lost : (turns : ℕ) → List Event → (written lost : List ℕ) → (old new : WorldState K) → Type 0
    Lost turns events written lost old new = (before : List Event) × (event : Event) × (calls : ℕ) × (decided : Bool)
        × IsRefusal hash_of may_give n first events written before event lost calls × (turns + calls ≤ most_turns) × NoneOpens before × (named event ≡ Some n) × TellsUntil old before decided event new
        × GoesOn old (before ++ event ∷ []) new

    lost_of : {turns : ℕ} {read written lost : List ℕ} {old new : WorldState K} {last : WorldSession} → turns ≤ most_turns → (served : HasServed hash_of may_give n first turns read written old)
        → Refusal (in_world hash_of) may_give turns (seat n turns) old last new lost → Lost turns served.events written lost old new
    lost_of {old = old} {new = new} few served (no_turn now fewer small gives (refused, told)) = let tells : TellsUntil old (Clock now ∷ []) refused.decided (Turn n) new =
        λ plain stands. let moved : PlainWorld = record plain { now = now } in (moved, (moved, refl, refl), (until_only told).told moved (moment_stands {old = old} now stands)) in
        let goes : GoesOn old (Clock now ∷ Turn n ∷ []) new = (told.settings, told.hasher, (old.left, refl, chain.alone EventMoves (Turn n) old.left new.left (until_only told).moves)) in
        let refusal = refused_turn now gives (record { world = old; told = served.told; room = small }) in
        (Clock now ∷ [], Turn n, 1, refused.decided, refusal, omega (arith, fewer), tt, refl, tells, goes)
    lost_of {old = old} {new = new} few served (no_piece bytes some short idle (refused, told)) =
        let tells : TellsUntil old [] refused.decided (Piece n bytes) new = λ plain stands. (plain, refl, (until_only told).told plain stands) in
        let goes : GoesOn old (Piece n bytes ∷ []) new = (told.settings, told.hasher, chain.alone EventMoves (Piece n bytes) old.left new.left (until_only told).moves) in
        let refusal = refused_piece bytes some short (record { world = old; told = served.told; idle = idle }) in
        ([], Piece n bytes, 0, refused.decided, refusal, omega (arith, few), tt, refl, tells, goes)

-- A whole run: the worlds before it, after the opening, after the rounds and after the close, and the seat after the rounds.
pub record Ran {K : Type 0} (hash_of : K → List ℕ → ℕ) (may_give : ℕ → Type 0) (w0 w2 w3 : WorldState K) (s : WorldSession) (r0 r1 o0 o1 : Option (List ℕ)) : Type 0 where
  pub w1 : WorldState K
  pub run : Exchanges (in_world hash_of) may_give (2 ^ 40) (exchanges.scene (seat (next_session w0) 0) w1 r0 o0) (exchanges.scene s w2 r1 o1)
  pub at : s ≡ seat (next_session w0) run.turns
  pub served : HasServed hash_of may_give (next_session w0) w0 run.turns run.read run.written w2
  pub inside : (1 ≤ next_session w0) × (next_session w0 ≤ length w2.sessions)
  pub closes : Told hash_of w2 (Close (next_session w0) ∷ []) w3

module _ {K : Type 0} {hash_of : K → List ℕ → ℕ} {may_give : ℕ → Type 0} {w0 w2 w3 : WorldState K} {s : WorldSession} {r0 r1 o0 o1 : Option (List ℕ)} where
  pub ran_of : {n : ℕ} {w1 : WorldState K} → Begins hash_of n w0 w1 → Told hash_of w2 (Close n ∷ []) w3
      → Exchanges (in_world hash_of) may_give (2 ^ 40) (exchanges.scene (seat n 0) w1 r0 o0) (exchanges.scene s w2 r1 o1) → Ran hash_of may_give w0 w2 w3 s r0 r1 o0 o1
  ran_of {w1 = w1} begins closes run = let (begun, closed, ran) = subst (λ (n : ℕ). Begins hash_of n w0 w1 × Told hash_of w2 (Close n ∷ []) w3
      × Exchanges (in_world hash_of) may_give (2 ^ 40) (exchanges.scene (seat n 0) w1 r0 o0) (exchanges.scene s w2 r1 o1)) begins.number (begins, closes, run) in
      let (is, served) = served_by hash_of may_give (next_session w0) w0 ran.exchange ran.few (served_nothing begun) in record { w1 = w1; run = ran; at = is; served = served; inside = served_inside begun served; closes = closed }

  pub ran_short : {n : ℕ} {w1 : WorldState K} → Begins hash_of n w0 w1 → Told hash_of w2 (Close n ∷ []) w3
      → FallsShort (in_world hash_of) may_give (exchanges.scene (seat n 0) w1 r0 o0) (exchanges.scene s w2 r1 o1) → UntilRefused hash_of may_give (next_session w0) w0 r0 o0 (scene w3 r1 o1)
  ran_short {w1 = w1} begins closes run = let (begun, closed, short) = subst (λ (n : ℕ). Begins hash_of n w0 w1 × Told hash_of w2 (Close n ∷ []) w3
      × FallsShort (in_world hash_of) may_give (exchanges.scene (seat n 0) w1 r0 o0) (exchanges.scene s w2 r1 o1)) begins.number (begins, closes, run) in let ran = short.exchanges in
      let n = next_session w0 in let (is, served) = served_by hash_of may_give n w0 ran.exchange ran.few (served_nothing begun) in let (before, event, calls, decided, refusal, few, none, names, tells, goes) =
      lost_of hash_of may_give n w0 ran.few served (subst (λ (t : WorldSession). Refusal (in_world hash_of) may_give ran.turns t short.between s w2 short.lost) is short.refusal) in record {
        done = record { events = served.events; read = ran.read; written = ran.written; turns = ran.turns };
        before = before;
        event = event;
        brings = short.lost;
        calls = calls;
        decided = decided;
        service = served.service;
        refusal = refusal;
        few = few;
        consumes = Consumes-trans r0 short.reader r1 ran.read short.lost ran.consumes short.consumes;
        appends = ran.appends;
        settings = closed.settings ∙ goes.0 ∙ served.told.settings;
        hasher = closed.hasher ∙ goes.1 ∙ served.told.hasher;
        moves = subst (EventsMove w0.left (served.events ++ (before ++ event ∷ []))) (sym (chain.one EventMoves (Close n) w2.left w3.left closed.moves))
            (chain.join EventMoves served.events (before ++ event ∷ []) w0.left short.between.left w2.left served.told.moves goes.2);
        told = until_closed hash_of w0 (served.events ++ before) decided event n names (told_written n ran.written tt closed)
            (until_join hash_of before decided event served.told (until_written hash_of before decided event short.between w2 n ran.written none tells));
      }

  -- what was left was written behind the close, or a part of it
  module _ {last : WorldSession} {w4 : WorldState K} {o2 : Option (List ℕ)} (ran : Ran hash_of may_give w0 w2 w3 s r0 r1 o0 o1) (wrote : Wrote (in_world hash_of) s w3 last w4 o1 o2) where
    abbrev pub ran_and_wrote : Served hash_of may_give (scene w0 r0 o0) (scene w4 r1 o2)
    ran_and_wrote = let n = next_session w0 in let run = ran.run in let had = ran.served in let part = wrote.written in
        let parts : w3 ≡ with_written n part w4 = subst (λ (t : WorldSession). w3 ≡ with_written t.number part w4) ran.at (was_written wrote.writes).1 in
        let all = Appends-trans o0 o1 o2 run.written part run.appends wrote.appends in let came : Came hash_of may_give (scene w0 r0 o0) (scene w4 r1 o2) =
        record { done = record { events = had.events; read = run.read; written = run.written ++ part; turns = run.turns }; service = one_step had.service (write part); few = run.few; consumes = run.consumes; appends = all } in
        let same = ap (with_written n run.written) parts ∙ written_twice n run.written part w4 in
        record { came = came; told = subst (λ (v : WorldState K). Told hash_of w0 (had.events ++ Close n ∷ []) v) same (told_behind had tt ran.closes) }

    run_ended : HasEnded (in_world hash_of) (seat (next_session w0) ran.run.turns) w2 r1
        → let end = numbered (next_session w0) (with_written (next_session w0) ran.run.written w2).sessions in IsClosed end ⊎ (IsIdle end × IsAtEnd r1)
    run_ended (inl none) = inl (closed_written (next_session w0) ran.run.written w2 ran.inside.0 ran.inside.1 none)
    run_ended (inr (idle, end)) = inr (idle_written (next_session w0) ran.run.written w2 idle, end)

    pub ran_whole : HasEnded (in_world hash_of) s w2 r1 → output_of (numbered last.number w4.sessions) ≡ [] → ServedAll hash_of may_give (scene w0 r0 o0) (scene w4 r1 o2)
    ran_whole ended all = let none = subst (λ (t : WorldSession). output_of (numbered t.number w4.sessions) ≡ []) ((was_written wrote.writes).0 ∙ ran.at) all in
        let end = run_ended (subst (λ (t : WorldSession). HasEnded (in_world hash_of) t w2 r1) ran.at ended) in
        record { served = ran_and_wrote; written = none; last = with_written (next_session w0) ran.run.written w2; until = ran.served.told; ended = end }

  pub ran_served : Ran hash_of may_give w0 w2 w3 s r0 r1 o0 o1 → Served hash_of may_give (scene w0 r0 o0) (scene w3 r1 o1)
  ran_served ran = ran_and_wrote {last = s} ran (record { written = []; writes = (0, chains.none_yet); appends = Appends-nil o1 })

-- what follows of an outcome
pub all_follows : {T : Type 0} {A B : Type 0} (r : Result T ServeFault) → (A → B) → OnOk r A → OnOk r B
all_follows (Ok x) f a = f a
all_follows (Err e) f a = tt
