-- A run of events has one result, and so has a transcript at one moment.
use Rattle.mc_world.proofs.Words.{◌≡◌, inl, inr, ℕ, zero, suc, Bool, true, false, MatchBool, List, [], ◌∷◌, ◌++◌, Option, Some, None, refl, sym, ap, ◌∙◌, subst, append_assoc, append-nil, MatchOption}
use Rattle.mc_world.proofs.Words.{slice_get, steps, Command, Plain, Spent, KeyStep}
use Rattle.mc_world.proofs.Words.{ProtocolUnit, Request, Fault, LongLine, plain_text, reply_text, Answers, AnswersStep, SessionState, Connection, IsRest, Stands, shut, PlainWorld, WorldState}
use Rattle.mc_world.proofs.Words.{StandAll, WorldStandsAs}
use Rattle.mc_world.proofs.Words.{in_plain, open_connection, numbered, output_of, put, after_turn, Turns, Happens, Runs, Told}
use Rattle.mc_world.specs.declared.event.Event.{Event}
use Rattle.mc_world.specs.declared.event.Event.TheVariants.{Open, Piece, Turn, Clock, Grow, Purge, Close}
use Rattle.mc_protocol.specs.declared.reply.Reply.{Reply}
use Rattle.mc_protocol.specs.Plain.{Answered}
use Rattle.mc_world.proofs.ConnectionLemmas.{next_is, no_next}
use Rattle.mc_served.specs.Transcripts.{Transcript}

one_reply : (r s : Reply) (a b : Plain) → Answered r a ≡ Answered s b → (r ≡ s) × (a ≡ b)
one_reply r s a b is = (cc, cc)

not_spent : (r : Reply) (a : Plain) → Answered r a ≡ Spent → ⊥
not_spent r a is = cc

step_same : (command : Command) (at now : ℕ) (o : Option KeyStep) (before a b : Plain) (t u : List ℕ)
    → MatchOption o ((t ≡ plain_text command) × (a ≡ before)) (λ step. AnswersStep in_plain command at step now before a t)
    → MatchOption o ((u ≡ plain_text command) × (b ≡ before)) (λ step. AnswersStep in_plain command at step now before b u) → (a ≡ b) × (t ≡ u)
step_same command at now None before a b t u h k = (h.1 ∙ sym k.1, h.0 ∙ sym k.0)
step_same command at now (Some step) before a b t u (inl h) (inl k) =
    let one = one_reply h.0 k.0 a b (sym h.1 ∙ k.1) in (one.1, h.2 ∙ ap (reply_text command at) one.0 ∙ sym k.2)
step_same command at now (Some step) before a b t u (inl h) (inr k) = absurd (not_spent h.0 a (sym h.1 ∙ k.0))
step_same command at now (Some step) before a b t u (inr h) (inl k) = absurd (not_spent k.0 b (sym k.1 ∙ h.0))
step_same command at now (Some step) before a b t u (inr h) (inr k) = (h.1 ∙ sym k.1, h.2 ∙ sym k.2)

pub answers_same : (unit : ProtocolUnit) (at now : ℕ) (before a b : Plain) (t u : List ℕ) → Answers in_plain unit at now before a t → Answers in_plain unit at now before b u → (a ≡ b) × (t ≡ u)
answers_same (Request command) at now before a b t u h k = step_same command at now (slice_get (steps command) at) before a b t u h k
answers_same (Fault fault) at now before a b t u h k = (h.1 ∙ sym k.1, h.0 ∙ sym k.0)
answers_same LongLine at now before a b t u h k = (h.1 ∙ sym k.1, h.0 ∙ sym k.0)

-- one event
turned : (old : PlainWorld) (n : ℕ) (c : Connection) (state : Plain) (unit : ProtocolUnit) (text : List ℕ) → PlainWorld
turned old n c state unit text = record old { state = state; connections = put n old.connections (after_turn unit text c) }

one_turn : (t u : ProtocolUnit × ℕ) → Some t ≡ Some u → t ≡ u
one_turn t u is = cc

turns_same : (old : PlainWorld) (n : ℕ) (c : Connection) (new other : PlainWorld) → Turns old n c new → Turns old n c other → new ≡ other
unfolding turned
turns_same old n c new other (inl h) (inl k) = h.1 ∙ sym k.1
turns_same old n c new other (inl h) (inr k) = absurd (no_next c k.1.unit k.1.at k.1.next h.0)
turns_same old n c new other (inr h) (inl k) = absurd (no_next c h.1.unit h.1.at h.1.next k.0)
turns_same old n c new other (inr h) (inr k) =
    let t = h.1 in
    let u = k.1 in
    let it : (t.unit, t.at) ≡ (u.unit, u.at) = one_turn (t.unit, t.at) (u.unit, u.at) (sym (next_is c t.unit t.at t.next) ∙ next_is c u.unit u.at u.next) in
    let one = answers_same u.unit u.at old.now old.state h.0 k.0 t.text u.text
    (subst (λ (v : ProtocolUnit × ℕ). Answers in_plain v.0 v.1 old.now old.state h.0 t.text) it t.answers) u.answers in
    h.2 ∙ (λ i. turned old n c (one.0 i) (it i).0 (one.1 i)) ∙ sym k.2

found_same : (old : PlainWorld) (n : ℕ) (o : Option Connection) (new other : PlainWorld) → MatchOption o (new ≡ old) (λ c. Turns old n c new) → MatchOption o (other ≡ old) (λ c. Turns old n c other)
    → new ≡ other
found_same old n None new other h k = h ∙ sym k
found_same old n (Some c) new other h k = turns_same old n c new other h k

module _ (hash : List ℕ → ℕ) (shelves : ℕ) where
  happens_same : (old : PlainWorld) (event : Event) (new other : PlainWorld) → Happens hash shelves old event new → Happens hash shelves old event other → new ≡ other
  happens_same old Open new other h k = h ∙ sym k
  happens_same old (Piece n piece) new other h k = h ∙ sym k
  happens_same old (Turn n) new other h k = found_same old n (open_connection n old.connections) new other h k
  happens_same old (Clock now) new other h k = h ∙ sym k
  happens_same old (Grow shelf) new other h k = h ∙ sym k
  happens_same old (Purge shelf) new other h k = h ∙ sym k
  happens_same old (Close n) new other h k = h ∙ sym k

  pub runs_same : (events : List Event) (old new other : PlainWorld) → Runs hash shelves old events new → Runs hash shelves old events other → new ≡ other
  runs_same [] old new other h k = h ∙ sym k
  runs_same (event ∷ events) old new other h k =
      runs_same events k.0 new other (subst (λ (m : PlainWorld). Runs hash shelves m events new) (happens_same old event h.0 k.0 h.1 k.1) h.2) k.2

-- ---- worlds
pub stands_out : (c : Connection) (s : SessionState) → Stands c s → s.out ≡ c.out
stands_out c s stands = by_open c.is_open stands
  where
    by_open : (b : Bool) → MatchBool b ((s.is_open ≡ true) × IsRest c s) (s ≡ shut c) → s.out ≡ c.out
    by_open true is = is.1.out
    by_open false is = ap (λ (x : SessionState). x.out) is

-- sessions that represent the same connections have the same output
same_out : (cs : List Connection) (ss ts : List SessionState) (n : ℕ) → StandAll cs ss → StandAll cs ts → output_of (slice_get ts n) ≡ output_of (slice_get ss n)
same_out [] [] [] n a b = refl
same_out [] [] (t ∷ ts) n a b = absurd b
same_out [] (s ∷ ss) ts n a b = absurd a
same_out (c ∷ cs) [] ts n a b = absurd a
same_out (c ∷ cs) (s ∷ ss) [] n a b = absurd b
same_out (c ∷ cs) (s ∷ ss) (t ∷ ts) zero a b = stands_out c t b.0 ∙ sym (stands_out c s a.0)
same_out (c ∷ cs) (s ∷ ss) (t ∷ ts) (suc n) a b = same_out cs ss ts n a.1 b.1

number_out : (cs : List Connection) (ss ts : List SessionState) (n : ℕ) → StandAll cs ss → StandAll cs ts → output_of (numbered n ts) ≡ output_of (numbered n ss)
number_out cs ss ts zero a b = refl
number_out cs ss ts (suc n) a b = same_out cs ss ts n a b

pub worlds_same : {K O : Type 0} (hash_of : K → List ℕ → ℕ) (other_hash_of : O → List ℕ → ℕ) (first : PlainWorld) (old new : WorldState K) (other_old other_new : WorldState O) (events : List Event)
    → WorldStandsAs first old → WorldStandsAs first other_old → other_hash_of other_old.hasher ≡ hash_of old.hasher → other_old.settings.shelves ≡ old.settings.shelves
    → Told hash_of old events new → Told other_hash_of other_old events other_new
    → (other_new.state ≡ new.state) × ((n : ℕ) → output_of (numbered n other_new.sessions) ≡ output_of (numbered n new.sessions))
worlds_same hash_of other_hash_of first old new other_old other_new events stands other_stands hashes shelves told other_told =
    let a = told.told first stands in
    let b = other_told.told first other_stands in
    let runs : Runs (hash_of old.hasher) old.settings.shelves first events b.0 =
    subst (λ (k : ℕ). Runs (hash_of old.hasher) k first events b.0) shelves (subst (λ (h : List ℕ → ℕ). Runs h other_old.settings.shelves first events b.0) hashes b.1) in
    let same = runs_same (hash_of old.hasher) old.settings.shelves events first b.0 a.0 runs a.1 in
    let others : WorldStandsAs a.0 other_new = subst (λ (w : PlainWorld). WorldStandsAs w other_new) same b.2 in
    (others.state ∙ sym a.2.state, λ n. number_out a.0.connections new.sessions other_new.sessions n a.2.sessions others.sessions)

-- ---- transcripts
module _ (may_give : ℕ → Type 0) where
  -- a turn more
  pub transcript_more : (ts : List (ProtocolUnit × ℕ)) (turn : ProtocolUnit × ℕ) (old mid new : Plain) (text said : List ℕ) (now : ℕ) → Transcript may_give old ts text mid → may_give now
      → Answers in_plain turn.0 turn.1 now mid new said → Transcript may_give old (ts ++ turn ∷ []) (text ++ said) new
  transcript_more [] turn old mid new text said now h gives answers = (
    now,
    gives,
    new,
    said,
    [],
    subst (λ (m : Plain). Answers in_plain turn.0 turn.1 now m new said) h.1 answers,
    ap (λ t. t ++ said) h.0 ∙ sym (append-nil said),
    (refl, refl),
  )
  transcript_more (t ∷ ts) turn old mid new text said now h gives answers = (
    h.0,
    h.1,
    h.2,
    h.3,
    h.4 ++ said,
    h.5,
    ap (λ b. b ++ said) h.6 ∙ append_assoc h.3 h.4 said,
    transcript_more ts turn h.2 mid new h.4 said now h.7 gives answers,
  )

  -- at one moment there is one
  pub transcript_once : (moment : ℕ) → ((now : ℕ) → may_give now → now ≡ moment) → (ts : List (ProtocolUnit × ℕ)) (old a b : Plain) (t u : List ℕ) → Transcript may_give old ts t a
      → Transcript may_give old ts u b
      → (a ≡ b) × (t ≡ u)
  transcript_once moment still [] old a b t u h k = (h.1 ∙ sym k.1, h.0 ∙ sym k.0)
  transcript_once moment still (turn ∷ ts) old a b t u h k =
      let one = answers_same turn.0 turn.1 k.0 old h.2 k.2 h.3 k.3
      (subst (λ (now : ℕ). Answers in_plain turn.0 turn.1 now old h.2 h.3) (still h.0 h.1 ∙ sym (still k.0 k.1)) h.5) k.5 in
      let more = transcript_once moment still ts k.2 a b h.4 k.4 (subst (λ (m : Plain). Transcript may_give m ts h.4 a) one.0 h.7) k.7 in
      (more.0, h.6 ∙ (λ i. one.1 i ++ more.1 i) ∙ sym k.6)
