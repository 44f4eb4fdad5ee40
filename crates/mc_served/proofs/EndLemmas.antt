-- A whole run of one session: what was written is the transcript of what was read.
use Rattle.mc_world.proofs.Words.{◌≡◌, ◌⊎◌, inl, inr, ℕ, zero, suc, ◌+◌, ◌<◌, Bool, true, false, List, [], ◌∷◌, ◌++◌, length, Option, Some, None, refl, sym, ap, ◌∙◌, subst, arith, option_map}
use Rattle.mc_world.proofs.Words.{if◌then◌else◌, nat_lt, lt-ltb}
use Rattle.mc_world.proofs.Words.{append-nil, slice_get, MatchBool, Plain, ProtocolUnit, AreUnits, turns, same_units, some_units, SessionState, NoTurnDue, Connection, HasNoNext, IsRest, Stands, shut}
use Rattle.mc_world.proofs.Words.{fresh}
use Rattle.mc_world.proofs.Words.{ended}
use Rattle.mc_world.proofs.Words.{PlainWorld, WorldState, StandAll, WorldStandsAs, CanStand, numbered, at_connection, Happens, RunsIn, output_of, IsIdle, IsClosed, with_written}
use Rattle.mc_world.proofs.Words.{Service, ServiceStep, IsService, turn, piece, write, turn_events, shelf_of, next_session, Served, ServedAll, UntilRefused, IsAtEnd}
use Rattle.mc_world.specs.declared.event.Event.TheVariants.{Open, Piece, Close}
use Rattle.mc_world.specs.Serving.{WorldScene, RanShort}
use Rattle.std.specs.Io.KnownBytes.{Appends, Consumes}
use Rattle.mc_session.proofs.ChainLemmas as chain
use Rattle.mc_world.proofs.ConnectionLemmas.{stand_length, due_both}
use Rattle.mc_world.proofs.EventLemmas.{changed_is, number_get}
use Rattle.mc_world.proofs.ServeLemmas.{before}
use Rattle.mc_served.specs.Transcripts.{Transcript, AreAnsweredSoFar, AreAnsweredUntilRefused, text_of}
use Rattle.mc_served.proofs.GrownLemmas.{no_later}
use Rattle.mc_served.proofs.SameLemmas.{runs_same, stands_out, transcript_once}
use Rattle.mc_served.proofs.RunLemmas.{split, IsServed, SoFar, changed_at, served_piece, served_turn}
use Rattle.mc_served.proofs.ShortLemmas.{shut_at, answered_so_far, refused_short}

-- a session and its connection
stands_at : (cs : List Connection) (ss : List SessionState) (n : ℕ) (c : Connection) → StandAll cs ss → numbered n cs ≡ Some c → (s : SessionState) × (numbered n ss ≡ Some s) × Stands c s
stands_at cs ss zero c all here = absurd (cc)
stands_at [] ss (suc n) c all here = absurd (cc)
stands_at (d ∷ cs) [] (suc n) c all here = absurd all
stands_at (d ∷ cs) (s ∷ ss) (suc zero) c all here = (s, refl, let same : d ≡ c = cc in subst (λ (x : Connection). Stands x s) same all.0)
stands_at (d ∷ cs) (s ∷ ss) (suc (suc n)) c all here = stands_at cs ss (suc n) c all.1 here

closed_too : (c : Connection) (s : SessionState) (b : Bool) → c.is_open ≡ b → MatchBool b ((s.is_open ≡ true) × IsRest c s) (s ≡ shut c) → s.is_open ≡ false → c.is_open ≡ false
closed_too c s true is stands none = absurd (let no : true ≡ false = sym stands.0 ∙ none in cc)
closed_too c s false is stands none = is

open_too : (c : Connection) (s : SessionState) (b : Bool) → c.is_open ≡ b → MatchBool b ((s.is_open ≡ true) × IsRest c s) (s ≡ shut c) → s.is_open ≡ true → c.is_open ≡ true
open_too c s true is stands opens = is
open_too c s false is stands opens = absurd (let no : true ≡ false = sym opens ∙ ap (λ (x : SessionState). x.is_open) stands in cc)

-- how a session that ended stands
abbrev Ended : Connection → (left : List ℕ) → Type 0
Ended c left = (c.is_open ≡ false) ⊎ ((c.is_open ≡ true) × HasNoNext c × (left ≡ []))

closed_ended : (c : Connection) (s : SessionState) (o : Option SessionState) (left : List ℕ) → o ≡ Some s → Stands c s → IsClosed o → Ended c left
closed_ended c s None left is stands closed = absurd closed
closed_ended c s (Some t) left is stands closed =
    let same : t ≡ s = cc in inl (closed_too c s c.is_open refl stands (subst (λ (x : SessionState). x.is_open ≡ false) same closed))

idle_ended : (c : Connection) (s : SessionState) (o : Option SessionState) (left : List ℕ) → left ≡ [] → o ≡ Some s → Stands c s → IsIdle o → Ended c left
idle_ended c s None left none is stands idle = absurd idle
idle_ended c s (Some t) left none is stands idle =
    let same : t ≡ s = cc in
    let opens : c.is_open ≡ true = open_too c s c.is_open refl stands (subst (λ (x : SessionState). x.is_open ≡ true) same idle.0) in
    inr (opens, (due_both c s stands opens).0 (subst NoTurnDue same idle.1), none)

number_last : (cs : List Connection) (x : Connection) (n : ℕ) → n ≡ length cs + 1 → numbered n (cs ++ x ∷ []) ≡ Some x
number_last [] x zero e = absurd (omega (arith, e))
number_last [] x (suc zero) e = refl
number_last [] x (suc (suc n)) e = absurd (omega (arith, e))
number_last (c ∷ cs) x zero e = absurd (omega (arith, e))
number_last (c ∷ cs) x (suc zero) e = absurd (omega (arith, e))
number_last (c ∷ cs) x (suc (suc n)) e = number_last cs x (suc n) (omega (arith, e))

-- the output of a session, in front of which stands what was written
written_out : (written : List ℕ) (s : SessionState) (o : Option SessionState) → option_map (before written) o ≡ Some s → s.out ≡ written ++ output_of o
written_out written s None is = absurd (cc)
written_out written s (Some t) is = let same : before written t ≡ s = cc in ap (λ (x : SessionState). x.out) (sym same)

text_at : {K : Type 0} (n : ℕ) (written : List ℕ) (w : PlainWorld) (new : WorldState K) (c : Connection) → WorldStandsAs w (with_written n written new) → numbered n w.connections ≡ Some c
    → c.out ≡ written ++ output_of (numbered n new.sessions)
text_at n written w new c stands here =
    let s = stands_at w.connections (with_written n written new).sessions n c stands.sessions here in
    sym (stands_out c s.0 s.2)
    ∙ written_out written s.0 (numbered n new.sessions) (sym (ap (numbered n) (changed_is n new.sessions (before written)) ∙ number_get new.sessions n (before written)) ∙ s.1)

from_closed : (out last text : List ℕ) → last ≡ out → last ≡ text → out ≡ text
from_closed out last text same is = sym same ∙ is

all_out : (out written waits : List ℕ) → out ≡ written ++ waits → waits ≡ [] → out ≡ written
all_out out written waits is none = is ∙ ap (λ more. written ++ more) none ∙ append-nil written

-- what the reader had left, and the writer's bytes
left_of : (o p : Option (List ℕ)) (input bytes : List ℕ) → o ≡ Some input → Consumes o p bytes → (left : List ℕ) × (input ≡ bytes ++ left) × (IsAtEnd p → left ≡ [])
left_of None p input bytes is h = absurd (cc)
left_of (Some xs) None input bytes is h = absurd h
left_of (Some xs) (Some ys) input bytes is h = let same : xs ≡ input = cc in (ys, sym same ∙ h, λ end. end)

out_of : (o p : Option (List ℕ)) (bytes : List ℕ) → o ≡ Some [] → Appends o p bytes → p ≡ Some bytes
out_of None p bytes is h = absurd (cc)
out_of (Some xs) None bytes is h = absurd h
out_of (Some xs) (Some ys) bytes is h = let none : xs ≡ [] = cc in let same : ys ≡ bytes = h ∙ ap (λ l. l ++ bytes) none in ap (λ l. Some l) same

module _ {K : Type 0} (hash_of : K → List ℕ → ℕ) (may_give : ℕ → Type 0) where
  module _ (old : WorldState K) (first : PlainWorld) (few : length old.sessions < 65535) (stands : WorldStandsAs first old) where
    abbrev n : ℕ
    n = next_session old

    abbrev Is : List ℕ → PlainWorld → Type 0
    Is read w = IsServed may_give first.greatest first.state n read w

    as_many : length old.sessions ≡ length first.connections
    as_many = stand_length first.connections old.sessions stands.sessions

    opened_by : (w : PlainWorld) (b : Bool) → b ≡ true → w ≡ (if b then record first { connections = first.connections ++ fresh first.greatest ∷ [] } else first) → Is [] w
    opened_by w false none h = absurd (cc)
    opened_by w true is h = subst (Is []) (sym h) record {
      c = fresh first.greatest;
      here = number_last first.connections (fresh first.greatest) n (let many = as_many in omega (arith, many));
      done = [];
      taken = refl;
      transcript = (refl, refl);
      so = (refl, refl, refl, λ units are. (turns units, refl));
    }

    served_open : (w : PlainWorld) → RunsIn hash_of old first (Open ∷ []) w → Is [] w
    served_open w h = subst (Is []) (sym h.2) (opened_by h.0 (nat_lt (length first.connections) 65535) (lt-ltb (length first.connections) 65535 (let many = as_many in omega (arith, few, many))) h.1)

    abbrev Holds : Service → Type 0
    Holds done = (w : PlainWorld) → RunsIn hash_of old first done.events w → Is done.read w

    abbrev step_of : Service → Service → Type 0
    step_of = ServiceStep hash_of may_give n old

    step_holds : (was is : Service) → step_of was is → Holds was → Holds is
    step_holds was is (turn now gives room) holds w runs =
        let shelves = old.settings.shelves in
        let shelf = shelf_of was.turns shelves in
        let parts = split (Happens (hash_of old.hasher) shelves) was.events (turn_events n shelf now) first w runs in
        served_turn may_give first.greatest first.state n (hash_of old.hasher) shelves shelf now was.read parts.0 w (holds parts.0 parts.1) gives parts.2
    step_holds was is (piece bytes short found all_out) holds w runs =
        let happens = Happens (hash_of old.hasher) old.settings.shelves in
        let parts = split happens was.events (Piece n bytes ∷ []) first w runs in
        served_piece may_give first.greatest first.state n was.read bytes parts.0 w (holds parts.0 parts.1) (chain.one happens (Piece n bytes) parts.0 w parts.2)
    step_holds was is (write bytes) holds w runs = holds w runs

    service_holds : (done : Service) → IsService hash_of may_give n old done → Holds done
    service_holds done service = chain.repeats_keep step_of Holds step_holds service.0 _ _ service.1 served_open

    -- the turns of all that was read are done
    all_done : (read left : List ℕ) (w : PlainWorld) (is : Is read w) → Ended is.c left → (units : List ProtocolUnit) → AreUnits first.greatest 0 (read ++ left) units → turns units ≡ is.done
    all_done read left w is (inl shut) units are = subst (SoFar first.greatest read is.done is.c) shut is.so left units are
    all_done read left w is (inr (opens, none, at_end)) units are =
        let g = first.greatest in
        let so : SoFar g read is.done is.c true = subst (SoFar g read is.done is.c) opens is.so in
        let here : AreUnits g 0 read units = subst (λ s. AreUnits g 0 s units) (ap (λ s. read ++ s) at_end ∙ append-nil read) are in
        let c = is.c in
        let has : AreUnits g 0 read none.units =
        subst (λ k. AreUnits k 0 read none.units) so.0 (subst (λ p. AreUnits c.greatest p read none.units) so.1 (subst (λ s. AreUnits c.greatest c.passed s none.units) so.2 none.are)) in
        let was = so.3 none.units has in
        let ends : was.0 ≡ [] = no_later is.done was.0 (sym (λ i. slice_get (was.1 i) (is.taken i)) ∙ none.none) in
        ap turns (same_units g 0 read units none.units here has) ∙ was.1 ∙ ap (λ ts. is.done ++ ts) ends ∙ append-nil is.done

  -- a run that was served whole
  module _ (old new : WorldScene K) (first : PlainWorld) (few : length old.world.sessions < 65535) (stands : WorldStandsAs first old.world) (all : ServedAll hash_of may_give old new) where
    abbrev session : ℕ
    session = next_session old.world

    abbrev read : List ℕ
    read = all.served.came.done.read

    abbrev written : List ℕ
    written = all.served.came.done.written

    ends_by : (c : Connection) (s : SessionState) (o : Option SessionState) (left : List ℕ) → o ≡ Some s → Stands c s → (IsAtEnd new.reader → left ≡ [])
        → IsClosed o ⊎ (IsIdle o × IsAtEnd new.reader) → Ended c left
    ends_by c s o left is stands at_end (inl closed) = closed_ended c s o left is stands closed
    ends_by c s o left is stands at_end (inr (idle, end)) = idle_ended c s o left (at_end end) is stands idle

    pub whole : (left : List ℕ) → (IsAtEnd new.reader → left ≡ []) → (units : List ProtocolUnit) → AreUnits first.greatest 0 (read ++ left) units
        → Transcript may_give first.state (turns units) written new.world.state
    whole left at_end units are =
        let done = all.served.came.done in
        let n = session in
        let u = all.until.told first stands in
        let t = all.served.told.told first stands in
        let hash = hash_of old.world.hasher in
        let shelves = old.world.settings.shelves in
        let is = service_holds old.world first few stands done all.served.came.service u.0 u.1 in
        let parts = split (Happens hash shelves) done.events (Close n ∷ []) first t.0 t.1 in
        let same = runs_same hash shelves done.events first parts.0 u.0 parts.1 u.1 in
        let close : t.0 ≡ at_connection u.0 n ended =
        subst (λ (m : PlainWorld). t.0 ≡ at_connection m n ended) same (chain.one (Happens hash shelves) (Close n) parts.0 t.0 parts.2) in
        let there = stands_at u.0.connections all.last.sessions n is.c u.2.sessions is.here in
        let ends : Ended is.c left = ends_by is.c there.0 (numbered n all.last.sessions) left there.1 there.2 at_end all.ended in
        let d = shut_at n u.0 is.c is.c.is_open is.here refl in
        let text = text_at n written t.0 new.world d.0 t.2 (ap (λ (m : PlainWorld). numbered n m.connections) close ∙ d.1) in
        let out = from_closed is.c.out d.0.out written d.2 (all_out d.0.out written (output_of (numbered n new.world.sessions)) text all.written) in
        let left_state : u.0.state ≡ new.world.state = sym (t.2.state ∙ ap (λ (m : PlainWorld). m.state) close) in
        let ts : is.done ≡ turns units = sym (all_done old.world first few stands read left u.0 is ends units are) in
        subst (λ (st : Plain). Transcript may_give first.state (turns units) written st) left_state
        (subst (λ o. Transcript may_give first.state (turns units) o u.0.state) out (subst (λ l. Transcript may_give first.state l is.c.out u.0.state) ts is.transcript))

    pub read_whole : (units : List ProtocolUnit) → AreUnits first.greatest 0 read units → Transcript may_give first.state (turns units) written new.world.state
    read_whole units are = whole [] (λ _. refl) units (subst (λ s. AreUnits first.greatest 0 s units) (sym (append-nil read)) are)

    pub known_whole : (input : List ℕ) (units : List ProtocolUnit) → old.reader ≡ Some input → old.writer ≡ Some [] → AreUnits first.greatest 0 input units
        → (output : List ℕ) × (new.writer ≡ Some output) × Transcript may_give first.state (turns units) output new.world.state
    known_whole input units reads writes are =
        let left = left_of old.reader new.reader input read reads all.served.came.consumes in (
          written,
          out_of old.writer new.writer written writes all.served.came.appends,
          whole left.0 left.2 units (subst (λ s. AreUnits first.greatest 0 s units) left.1 are),
        )

nothing_done : (may_give : ℕ → Type 0) (old new : Plain) (units : List ProtocolUnit) → new ≡ old → AreAnsweredUntilRefused may_give old units [] new
nothing_done may_give old new units same =
    record { mid = old; so_far = record { done = []; later = turns units; parts = refl; transcript = (refl, refl) }; last = inl same }

-- a run that ended, whole or not
module _ {K : Type 0} (hash_of : K → List ℕ → ℕ) (may_give : ℕ → Type 0) (old new : WorldScene K) (few : length old.world.sessions < 65535) (can : CanStand old.world) where
  abbrev first : PlainWorld
  first = can.plain

  units_from : (bytes : List ℕ) (units : List ProtocolUnit) → AreUnits old.world.settings.greatest 0 bytes units → AreUnits first.greatest 0 bytes units
  units_from bytes units are = subst (λ g. AreUnits g 0 bytes units) can.stands.greatest are

  pub so_far : (served : Served hash_of may_give old new) (more : List ℕ) (units : List ProtocolUnit) → AreUnits old.world.settings.greatest 0 (served.came.done.read ++ more) units
      → AreAnsweredSoFar may_give old.world.state units (text_of old.world served.came.done.written new.world) new.world.state
  so_far served more units are =
      let done = served.came.done in
      let n = next_session old.world in
      let shelves = old.world.settings.shelves in
      let hash = hash_of old.world.hasher in
      let t = served.told.told first can.stands in
      let parts = split (Happens hash shelves) done.events (Close n ∷ []) first t.0 t.1 in
      let is = service_holds hash_of may_give old.world first few can.stands done served.came.service parts.0 parts.1 in
      let close = chain.one (Happens hash shelves) (Close n) parts.0 t.0 parts.2 in
      let d = shut_at n parts.0 is.c is.c.is_open is.here refl in
      let text = text_at n done.written t.0 new.world d.0 t.2 (ap (λ (m : PlainWorld). numbered n m.connections) close ∙ d.1) in
      let all : List ℕ = text_of old.world done.written new.world in
      let answers = answered_so_far may_give first.greatest first.state n done.read more parts.0 is units (units_from (done.read ++ more) units are) all
      (from_closed is.c.out d.0.out all d.2 text) in
      let left : parts.0.state ≡ new.world.state = sym (t.2.state ∙ ap (λ (m : PlainWorld). m.state) close) in
      subst (λ (st : Plain). AreAnsweredSoFar may_give st units all new.world.state) (sym can.stands.state)
      (subst (λ (st : Plain). AreAnsweredSoFar may_give first.state units all st) left answers)

  pub until_refused : (short : UntilRefused hash_of may_give (next_session old.world) old.world old.reader old.writer new) (more : List ℕ) (units : List ProtocolUnit)
      → AreUnits old.world.settings.greatest 0 ((short.done.read ++ short.brings) ++ more) units
      → AreAnsweredUntilRefused may_give old.world.state units (text_of old.world short.done.written new.world) new.world.state
  until_refused short more units are =
      let done = short.done in
      let n = next_session old.world in
      let t = short.told first can.stands in
      let last : PlainWorld = t.2.0 in
      let is = refused_short may_give first.greatest first.state n hash_of old.world first done.events done.written done.read
      (service_holds hash_of may_give old.world first few can.stands done short.service) more units t.0 last short.before short.event short.brings short.calls short.decided short.refusal t.1 t.2.1
      (units_from ((done.read ++ short.brings) ++ more) units are) in
      let text = text_at n done.written last new.world is.c t.2.2 is.here in
      let all : List ℕ = text_of old.world done.written new.world in
      subst (λ (st : Plain). AreAnsweredUntilRefused may_give st units all new.world.state) (sym can.stands.state)
      (subst (λ (st : Plain). AreAnsweredUntilRefused may_give first.state units all st) (sym t.2.2.state)
      (subst (λ (out : List ℕ). AreAnsweredUntilRefused may_give first.state units out last.state) text is.answers))

  pub of_read : (all : ServedAll hash_of may_give old new) (units : List ProtocolUnit) → AreUnits old.world.settings.greatest 0 all.served.came.done.read units
      → Transcript may_give old.world.state (turns units) all.served.came.done.written new.world.state
  of_read all units are = subst (λ (st : Plain). Transcript may_give st (turns units) all.served.came.done.written new.world.state) (sym can.stands.state)
      (read_whole hash_of may_give old new first few can.stands all units (units_from all.served.came.done.read units are))

  pub of_input : ServedAll hash_of may_give old new → (input : List ℕ) (units : List ProtocolUnit) → old.reader ≡ Some input → old.writer ≡ Some []
      → AreUnits old.world.settings.greatest 0 input units
      → (output : List ℕ) × (new.writer ≡ Some output) × Transcript may_give old.world.state (turns units) output new.world.state
  of_input all input units reads writes are =
      let said = known_whole hash_of may_give old new first few can.stands all input units reads writes (units_from input units are) in
      (said.0, said.1, subst (λ (st : Plain). Transcript may_give st (turns units) said.0 new.world.state) (sym can.stands.state) said.2)

  -- the same of an input that is known
  pub of_failed : (served : Served hash_of may_give old new) (input : List ℕ) (units : List ProtocolUnit) → old.reader ≡ Some input → old.writer ≡ Some []
      → AreUnits old.world.settings.greatest 0 input units
      → (output : List ℕ) × (new.writer ≡ Some output) × (waits : List ℕ) × AreAnsweredSoFar may_give old.world.state units (output ++ waits) new.world.state
  of_failed served input units reads writes are =
      let done = served.came.done in
      let left = left_of old.reader new.reader input done.read reads served.came.consumes in (
        done.written,
        out_of old.writer new.writer done.written writes served.came.appends,
        output_of (numbered (next_session old.world) new.world.sessions),
        so_far served left.0 units (subst (λ s. AreUnits old.world.settings.greatest 0 s units) left.1 are),
      )

  pub of_refused : RanShort hash_of may_give old new → (input : List ℕ) (units : List ProtocolUnit) → old.reader ≡ Some input → old.writer ≡ Some []
      → AreUnits old.world.settings.greatest 0 input units
      → (output : List ℕ) × (new.writer ≡ Some output) × (waits : List ℕ) × AreAnsweredUntilRefused may_give old.world.state units (output ++ waits) new.world.state
  of_refused (inl same) input units reads writes are =
      ([], ap (λ (s : WorldScene K). s.writer) same ∙ writes, [], nothing_done may_give old.world.state new.world.state units (ap (λ (s : WorldScene K). s.world.state) same))
  of_refused (inr short) input units reads writes are =
      let done = short.done in
      let left = left_of old.reader new.reader input (done.read ++ short.brings) reads short.consumes in (
        done.written,
        out_of old.writer new.writer done.written writes short.appends,
        output_of (numbered (next_session old.world) new.world.sessions),
        until_refused short left.0 units (subst (λ s. AreUnits old.world.settings.greatest 0 s units) left.1 are),
      )

-- two runs of one input, at one moment
pub one_answer : {K O : Type 0} (hash_of : K → List ℕ → ℕ) (other_hash_of : O → List ℕ → ℕ) (may_give : ℕ → Type 0) (moment : ℕ) → ((now : ℕ) → may_give now → now ≡ moment)
    → (old new : WorldScene K) (other_old other_new : WorldScene O) (input : List ℕ) → other_old.world.state ≡ old.world.state → other_old.world.settings.greatest ≡ old.world.settings.greatest
    → length old.world.sessions < 65535 → length other_old.world.sessions < 65535 → CanStand old.world → CanStand other_old.world → ServedAll hash_of may_give old new
    → ServedAll other_hash_of may_give other_old other_new → old.reader ≡ Some input → other_old.reader ≡ Some input → old.writer ≡ Some [] → other_old.writer ≡ Some []
    → (other_new.writer ≡ new.writer) × (other_new.world.state ≡ new.world.state)
one_answer hash_of other_hash_of may_give moment still old new other_old other_new input states greatests few others_few stands other_stands all other_all reads other_reads writes other_writes =
    let us = some_units old.world.settings.greatest 0 input in
    let a = of_input hash_of may_give old new few stands all input us.0 reads writes us.1 in
    let b = of_input other_hash_of may_give other_old other_new others_few other_stands other_all input us.0 other_reads other_writes (subst (λ g. AreUnits g 0 input us.0) (sym greatests) us.1) in
    let same = transcript_once may_give moment still (turns us.0) old.world.state other_new.world.state new.world.state b.0 a.0
    (subst (λ (s : Plain). Transcript may_give s (turns us.0) b.0 other_new.world.state) states b.2) a.2 in
    (b.1 ∙ ap (λ t. Some t) same.1 ∙ sym a.1, same.0)
