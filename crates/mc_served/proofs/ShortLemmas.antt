-- A session that is served until its reader, its writer or memory fails.
use Rattle.mc_world.proofs.Words.{◌≡◌, ◌⊎◌, inl, inr, ℕ, Bool, true, false, List, [], ◌∷◌, ◌++◌, Option, Some, None, refl, sym, ap, ◌∙◌, subst, if◌then◌else◌, append_assoc, append-nil, slice_get}
use Rattle.mc_world.proofs.Words.{MatchOption}
use Rattle.mc_world.proofs.Words.{Plain, KeyStep, Command, steps, ProtocolUnit, Request, AreUnits, turns, plain_text, reply_text, Answers, AnswersStep, Connection, ended, PlainWorld, WorldState}
use Rattle.mc_world.proofs.Words.{in_plain, numbered, if_open, IsNextTurn}
use Rattle.mc_world.proofs.Words.{at_connection, Happens, RunsIn, GivesUp, EventDecides, IsRefusal, refused_turn, refused_piece}
use Rattle.mc_world.specs.declared.event.Event.{Event}
use Rattle.mc_world.specs.declared.event.Event.TheVariants.{Turn, Piece, Clock}
use Rattle.mc_protocol.specs.declared.reply.Reply.{Reply}
use Rattle.mc_world.specs.Worlds.{replies}
use Rattle.mc_session.proofs.ChainLemmas as chain
use Rattle.mc_served.specs.Transcripts.{Transcript, AreAnsweredSoFar, AreAnsweredUntilRefused, LacksText}
use Rattle.mc_served.proofs.GrownLemmas.{grown, turns_both}
use Rattle.mc_served.proofs.RunLemmas.{split, IsServed, SoFar, grown_so, is_same, changed_at, next_of}

-- an end changes no output
pub shut_at : (n : ℕ) (w : PlainWorld) (c : Connection) (b : Bool) → numbered n w.connections ≡ Some c → c.is_open ≡ b
    → (d : Connection) × (numbered n (at_connection w n ended).connections ≡ Some d) × (d.out ≡ c.out)
shut_at n w c true here is = (ended c, changed_at (λ _. ⊥) 0 w.state n w ended c true here is, refl)
shut_at n w c false here is = (c, changed_at (λ _. ⊥) 0 w.state n w ended c false here is, refl)

-- the command's step, with its text
step_text : (command : Command) (at now : ℕ) (step : KeyStep) (reply : Reply) (old new : Plain) → slice_get (steps command) at ≡ Some step → replies old step now reply new
    → Answers in_plain (Request command) at now old new (reply_text command at reply)
step_text command at now step reply old new is replied =
    let text : List ℕ = reply_text command at reply in
    subst (λ (o : Option KeyStep). MatchOption o ((text ≡ plain_text command) × (new ≡ old)) (λ s. AnswersStep in_plain command at s now old new text)) (sym is) (inl (reply, replied, refl))

opened_is : (c d : Connection) (b : Bool) → c.is_open ≡ b → (if b then Some c else None) ≡ Some d → (c.is_open ≡ true) × (c ≡ d)
opened_is c d true is same = (is, let it : c ≡ d = cc in it)
opened_is c d false is same = absurd (cc)

module _ (may_give : ℕ → Type 0) (g : ℕ) (state : Plain) (n : ℕ) where
  abbrev Is : (read : List ℕ) → PlainWorld → Type 0
  Is read w = IsServed may_give g state n read w

  later_of : (read more : List ℕ) (done : List (ProtocolUnit × ℕ)) (c : Connection) (b : Bool) → SoFar g read done c b → (units : List ProtocolUnit) → AreUnits g 0 (read ++ more) units
      → (later : List (ProtocolUnit × ℕ)) × (turns units ≡ done ++ later)
  later_of read more done c true so units are = grown_so may_give g state n read more done so.3 units are
  later_of read more done c false so units are = ([], so more units are ∙ sym (append-nil done))

  -- what was done of a longer stream
  pub answered_so_far : (read more : List ℕ) (w : PlainWorld) (is : Is read w) (units : List ProtocolUnit) → AreUnits g 0 (read ++ more) units → (text : List ℕ) → is.c.out ≡ text
      → AreAnsweredSoFar may_give state units text w.state
  answered_so_far read more w is units are text out =
      let later = later_of read more is.done is.c is.c.is_open is.so units are in
      record { done = is.done; later = later.0; parts = later.1; transcript = subst (λ (t : List ℕ). Transcript may_give state is.done t w.state) out is.transcript }

  -- the session is closed after an event that was refused
  pub record Short (units : List ProtocolUnit) (last : PlainWorld) : Type 0 where
    pub c : Connection
    pub here : numbered n last.connections ≡ Some c
    pub answers : AreAnsweredUntilRefused may_give state units c.out last.state

  -- nothing was done
  short_none : (read more : List ℕ) (mid last : PlainWorld) → Is read mid → (units : List ProtocolUnit) → AreUnits g 0 (read ++ more) units → last ≡ at_connection mid n ended → Short units last
  short_none read more mid last is units are same =
      let d = shut_at n mid is.c is.c.is_open is.here refl in record {
        c = d.0;
        here = ap (λ (m : PlainWorld). numbered n m.connections) same ∙ d.1;
        answers = record {
          mid = mid.state;
          so_far = answered_so_far read more mid is units are d.0.out (sym d.2);
          last = inl (ap (λ (m : PlainWorld). m.state) same);
        };
      }

  -- the next turn was taken without its text
  lacking : (read more : List ℕ) (done : List (ProtocolUnit × ℕ)) (unit : ProtocolUnit) (at now : ℕ) (old mid new : Plain) (units us : List ProtocolUnit)
      (rest : List (ProtocolUnit × ℕ)) (out text missing : List ℕ) → AreUnits g 0 read us → AreUnits g 0 (read ++ more) units → turns us ≡ done ++ (unit, at) ∷ rest
      → Transcript may_give old done out mid → out ≡ text → may_give now
      → Answers in_plain unit at now mid new missing → AreAnsweredUntilRefused may_give old units text new
  lacking read more done unit at now old mid new units us rest out text missing are longer next transcript same gives answers =
      let others = grown g 0 read more us units are longer in record {
        mid = mid;
        so_far = record {
          done = done;
          later = (unit, at) ∷ (rest ++ turns others.0);
          parts = ap turns others.1 ∙ turns_both us others.0 ∙ ap (λ ts. ts ++ turns others.0) next ∙ append_assoc done ((unit, at) ∷ rest) (turns others.0);
          transcript = subst (λ (t : List ℕ). Transcript may_give old done t mid) same transcript;
        };
        last = inr (now, gives, missing, answers);
      }

  short_turn : (read more : List ℕ) (mid last : PlainWorld) (now : ℕ) → Is read mid → may_give now → mid.now ≡ now → (units : List ProtocolUnit) → AreUnits g 0 (read ++ more) units → (left : Plain)
      → EventDecides mid (Turn n) left → last ≡ at_connection (record mid { state = left }) n ended → Short units last
  short_turn read more mid last now is gives at_now units are left (connection, opens, step) same =
      let found = opened_is is.c connection is.c.is_open refl (sym (ap (if_open (λ (c : Connection). c.is_open)) is.here) ∙ opens) in
      let so : SoFar g read is.done is.c true = subst (SoFar g read is.done is.c) found.0 is.so in
      let next = subst (λ (d : Connection). IsNextTurn d (Request step.command) step.at) (sym found.1) step.next in
      let turn = next_of may_give g state n read is.done is.c (Request step.command) step.at so is.taken next in
      let moved : PlainWorld = record mid { state = left } in
      let d = shut_at n moved is.c is.c.is_open is.here refl in
      let answers = step_text step.command step.at now step.step step.reply mid.state left step.is_step
      (subst (λ (m : ℕ). replies mid.state step.step m step.reply left) at_now step.replied) in
      let lacks = lacking read more is.done (Request step.command) step.at now state mid.state left units next.units turn.1 is.c.out d.0.out
      (reply_text step.command step.at step.reply) turn.0 are turn.2 is.transcript (sym d.2) gives answers in record {
        c = d.0;
        here = ap (λ (m : PlainWorld). numbered n m.connections) same ∙ d.1;
        answers = subst (λ (s : Plain). AreAnsweredUntilRefused may_give state units d.0.out s) (sym (ap (λ (m : PlainWorld). m.state) same)) lacks;
      }

  -- by the event that was refused
  pub refused_short : {K : Type 0} (hash_of : K → List ℕ → ℕ) (old : WorldState K) (first : PlainWorld) (events : List Event) (written read : List ℕ)
      → ((w : PlainWorld) → RunsIn hash_of old first events w → Is read w) → (more : List ℕ) (units : List ProtocolUnit) (mid last : PlainWorld) (before : List Event) (event : Event) (brings : List ℕ)
      (calls : ℕ) (decided : Bool) → IsRefusal hash_of may_give n old events written before event brings calls → RunsIn hash_of old first (events ++ before) mid → GivesUp decided mid event last
      → AreUnits g 0 ((read ++ brings) ++ more) units → Short units last
  refused_short hash_of old first events written read holds more units mid last before event brings calls decided (refused_turn now gives room) runs up are =
      let parts = split (Happens (hash_of old.hasher) old.settings.shelves) events (Clock now ∷ []) first mid runs in
      let clock = chain.one (Happens (hash_of old.hasher) old.settings.shelves) (Clock now) parts.0 mid parts.2 in
      let is = is_same may_give g state n read parts.0 mid (ap (λ (w : PlainWorld). w.connections) clock) (ap (λ (w : PlainWorld). w.state) clock) (holds parts.0 parts.1) in
      let longer : AreUnits g 0 (read ++ more) units = subst (λ s. AreUnits g 0 (s ++ more) units) (append-nil read) are in
      by_turn decided up is longer (ap (λ (w : PlainWorld). w.now) clock)
    where
      by_turn : (b : Bool) → GivesUp b mid (Turn n) last → Is read mid → AreUnits g 0 (read ++ more) units → mid.now ≡ now → Short units last
      by_turn true (left, decides, same) is longer at_now = short_turn read more mid last now is gives at_now units longer left decides same
      by_turn false same is longer at_now = short_none read more mid last is units longer same
  refused_short hash_of old first events written read holds more units mid last before event brings calls decided (refused_piece bytes some short idle) runs up are =
      let parts = split (Happens (hash_of old.hasher) old.settings.shelves) events [] first mid runs in
      let is : Is read mid = subst (Is read) (sym parts.2) (holds parts.0 parts.1) in
      by_piece decided up is (subst (λ s. AreUnits g 0 s units) (append_assoc read bytes more) are)
    where
      by_piece : (b : Bool) → GivesUp b mid (Piece n bytes) last → Is read mid → AreUnits g 0 (read ++ (bytes ++ more)) units → Short units last
      by_piece true (left, decides, same) is longer = absurd decides
      by_piece false same is longer = short_none read (bytes ++ more) mid last is units longer same
