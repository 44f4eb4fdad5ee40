-- A session's connection follows from its own events and from what its steps are answered.
use Rattle.mc_world.proofs.Words.{◌≡◌, inl, inr, ℕ, ◌==◌, Bool, true, false, List, [], ◌∷◌, ◌++◌, length, Option, Some, None, nat_lt, refl, sym, ap, ◌∙◌, subst, if◌then◌else◌, slice_get, MatchBool}
use Rattle.mc_world.proofs.Words.{MatchOption, option_map, eqb-true, eqb-false, steps, Command, Plain, KeyStep, ProtocolUnit, Request, Fault, LongLine, reply_text, plain_text, fault_text, long_text}
use Rattle.mc_world.proofs.Words.{spent_text, Answers, AnswersStep, Connection, IsNextTurn, HasNoNext, fresh, with_piece, after_turn, ended, PlainWorld, in_plain, numbered, if_open, open_connection}
use Rattle.mc_world.proofs.Words.{at_connection, Turns, Happens, Runs, named, step_of, Answer, Replied, NumbersSpent, answer_in, answers_in, AnswersNext, AnswersOf, RunsAnswering, HasAnswers}
use Rattle.mc_world.proofs.Words.{is_number, events_of, Leaves, Event, Open, Piece, Turn, Close}
use Rattle.mc_world.proofs.ConnectionLemmas.{next_in, next_is, none_is, no_next}
use Rattle.mc_world.proofs.EventLemmas.{opens, changed_open, found_apart, does, grown, if_opened, number_found, put_get, number_more}

-- the text of a turn that is answered by the first of these answers, if it has a step, and the other answers
abbrev step_told : Command → ℕ → Option KeyStep → List Answer → List ℕ × List Answer
step_told command at None answers = (plain_text command, answers)
step_told command at (Some step) [] = ([], [])
step_told command at (Some step) (Replied reply ∷ answers) = (reply_text command at reply, answers)
step_told command at (Some step) (NumbersSpent ∷ answers) = (spent_text command, answers)

abbrev told : ProtocolUnit → ℕ → List Answer → List ℕ × List Answer
told (Request command) at answers = step_told command at (slice_get (steps command) at) answers
told (Fault fault) at answers = (fault_text fault, answers)
told LongLine at answers = (long_text, answers)

-- so it is with the answers of a turn
told_step : (old : PlainWorld) (command : Command) (at : ℕ) (o : Option KeyStep) (after : Plain) (text : List ℕ) (others : List Answer)
    → MatchOption o ((text ≡ plain_text command) × (after ≡ old.state)) (λ step. AnswersStep in_plain command at step old.now old.state after text)
    → step_told command at o (answers_in old o ++ others) ≡ (text, others)
told_step old command at None after text others h = ap (λ t. (t, others)) (sym h.0)
told_step old command at (Some step) after text others (inl (reply, said, is)) = ap (λ o. step_told command at (Some step) (answer_in o ∷ others)) said ∙ ap (λ t. (t, others)) (sym is)
told_step old command at (Some step) after text others (inr (spent, same, is)) = ap (λ o. step_told command at (Some step) (answer_in o ∷ others)) spent ∙ ap (λ t. (t, others)) (sym is)

told_is : (old : PlainWorld) (unit : ProtocolUnit) (at : ℕ) (after : Plain) (text : List ℕ) (others : List Answer) → Answers in_plain unit at old.now old.state after text
    → told unit at (answers_in old (step_of unit at) ++ others) ≡ (text, others)
told_is old (Request command) at after text others h = told_step old command at (slice_get (steps command) at) after text others h
told_is old (Fault fault) at after text others h = ap (λ t. (t, others)) (sym h.0)
told_is old LongLine at after text others h = ap (λ t. (t, others)) (sym h.0)

-- what a turn makes of a connection and of the answers that are to come
abbrev turned : Option (ProtocolUnit × ℕ) → Connection → List Answer → Connection × List Answer
turned None c answers = (c, answers)
turned (Some turn) c answers = let text = told turn.0 turn.1 answers in (after_turn turn.0 text.0 c, text.1)

-- and an event of its own, and one after another
abbrev own : Event → Connection → List Answer → Connection × List Answer
own (Piece k piece) c answers = (if_opened opens (with_piece piece) c, answers)
own (Turn k) c answers = if c.is_open then turned (next_in c) c answers else (c, answers)
own (Close k) c answers = (if_opened opens ended c, answers)
own event c answers = (c, answers)

abbrev owns : List Event → Connection → List Answer → Connection
owns [] c answers = c
owns (event ∷ events) c answers = let next = own event c answers in owns events next.0 next.1

-- an event that may be its own
abbrev if_own : Bool → Event → Connection → List Answer → Connection × List Answer
if_own mine event c answers = if mine then own event c answers else (c, answers)

owns_more : (mine : Bool) (event : Event) (events : List Event) (c : Connection) (answers : List Answer)
    → owns (if mine then event ∷ events else events) c answers ≡ owns events (if_own mine event c answers).0 (if_own mine event c answers).1
owns_more true event events c answers = refl
owns_more false event events c answers = refl

-- The next event of a run, in which session n has this connection; its steps in it are answered so, and then the others.
module _ (hash : List ℕ → ℕ) (shelves n : ℕ) (old new : PlainWorld) (c : Connection) (here : numbered n old.connections ≡ Some c) (some others : List Answer) where
  abbrev Becomes : Connection × List Answer → Type 0
  Becomes next = (d : Connection) × (numbered n new.connections ≡ Some d) × (next ≡ (d, others))

  -- an event that leaves the connection and has no answers
  left : numbered n new.connections ≡ numbered n old.connections → some ≡ [] → Becomes (c, some ++ others)
  left same none = (c, same ∙ here, ap (λ (l : List Answer). (c, l ++ others)) none)

  -- the answers are those of the one next turn
  next_answers : (unit : ProtocolUnit) (at : ℕ) → IsNextTurn c unit at → AnswersNext old c some → some ≡ answers_in old (step_of unit at)
  next_answers unit at next (inl (none, is)) = absurd (no_next c unit at next none)
  next_answers unit at next (inr (other, to, after, is)) = let one : ProtocolUnit × ℕ = (other, to) in let it : ProtocolUnit × ℕ = (unit, at) in
      let both : Some one ≡ Some it = sym (next_is c other to after) ∙ next_is c unit at next in let same : one ≡ it = cc in
      is ∙ ap (λ (turn : ProtocolUnit × ℕ). answers_in old (step_of turn.0 turn.1)) same

  no_answers : HasNoNext c → AnswersNext old c some → some ≡ []
  no_answers none (inl (other, is)) = is
  no_answers none (inr (unit, at, next, is)) = absurd (no_next c unit at next none)

  open_is : (b : Bool) → c.is_open ≡ b → open_connection n old.connections ≡ (if b then Some c else None)
  open_is b is = ap (if_open opens) here ∙ ap (λ (b : Bool). if b then Some c else None) is

  turn_becomes : (b : Bool) → c.is_open ≡ b → MatchOption (if b then Some c else None) (new ≡ old) (λ c. Turns old n c new)
      → MatchOption (if b then Some c else None) (some ≡ []) (λ c. AnswersNext old c some) → Becomes (if b then turned (next_in c) c (some ++ others) else (c, some ++ others))
  turn_becomes false is h answers = left (λ i. numbered n (h i).connections) answers
  turn_becomes true is (inl h) answers = rw (none_is c h.0) (left (λ i. numbered n (h.1 i).connections) (no_answers h.0 answers))
  turn_becomes true is (inr (state, turn, same)) answers = (
    after_turn turn.unit turn.text c,
    (λ i. numbered n (same i).connections) ∙ put_get old.connections n c (after_turn turn.unit turn.text c) here,
    ap (λ o. turned o c (some ++ others)) (next_is c turn.unit turn.at turn.next) ∙ ap (λ (text : List ℕ × List Answer). (after_turn turn.unit text.0 c, text.1))
        (ap (λ (l : List Answer). told turn.unit turn.at (l ++ others)) (next_answers turn.unit turn.at turn.next answers) ∙ told_is old turn.unit turn.at state turn.text others turn.answers),
  )

  changed_by : (f : Connection → Connection) (b : Bool) → numbered n new.connections ≡ (if b then option_map (if_opened opens f) (numbered n old.connections) else numbered n old.connections)
      → some ≡ [] → Becomes (if b then (if_opened opens f c, some ++ others) else (c, some ++ others))
  changed_by f true is none = (if_opened opens f c, is ∙ ap (option_map (if_opened opens f)) here, ap (λ (l : List Answer). (if_opened opens f c, l ++ others)) none)
  changed_by f false is none = left is none

  changed_becomes : (k : ℕ) (f : Connection → Connection) → new ≡ at_connection old k f → some ≡ [] → Becomes (if k == n then (if_opened opens f c, some ++ others) else (c, some ++ others))
  changed_becomes k f is none =
      changed_by f (k == n) ((λ i. numbered n (is i).connections) ∙ ap (numbered n) (changed_open k old.connections f) ∙ number_found old.connections k n (if_opened opens f)) none

  grown_keeps : (b : Bool) → numbered n (grown b old).connections ≡ numbered n old.connections
  grown_keeps true = number_more old.connections (fresh old.greatest ∷ []) n c here ∙ sym here
  grown_keeps false = refl

  becomes : (event : Event) → Happens hash shelves old event new → AnswersOf n old event some → Becomes (if_own (is_number n (named event)) event c (some ++ others))
  becomes Open h none = left ((λ i. numbered n (h i).connections) ∙ grown_keeps (nat_lt (length old.connections) 65535)) none
  becomes (Piece k piece) h none = changed_becomes k (with_piece piece) h none
  becomes (Close k) h none = changed_becomes k ended h none
  becomes (Turn k) h answers = elim (k == n) as (λ b. (k == n) ≡ b → MatchBool b (MatchOption (open_connection n old.connections) (some ≡ []) (λ c. AnswersNext old c some)) (some ≡ [])
      → Becomes (if_own b (Turn k) c (some ++ others))) [
        | true ↦ λ mine said. turn_becomes c.is_open refl (subst (λ (o : Option Connection). MatchOption o (new ≡ old) (λ c. Turns old n c new)) (open_is c.is_open refl)
            (subst (λ (j : ℕ). Happens hash shelves old (Turn j) new) (eqb-true k n mine) h))
            (subst (λ (o : Option Connection). MatchOption o (some ≡ []) (λ c. AnswersNext old c some)) (open_is c.is_open refl) said)
        | false ↦ λ other none. let d = does hash shelves old new (Turn k) (λ e. cc) h in
            left ((λ i. numbered n (d.is i).connections) ∙ found_apart k n old.connections d.by (λ e. absurd (eqb-false k n other e))) none
      ] refl answers
  becomes event h none = left (λ i. numbered n (h i).connections) none

-- a run makes of a session's connection what its own events make
lives : (hash : List ℕ → ℕ) (shelves n : ℕ) (c : Connection) (old new : PlainWorld) (events : List Event) (answers : List Answer) → numbered n old.connections ≡ Some c
    → RunsAnswering hash shelves n old events answers new → numbered n new.connections ≡ Some (owns (events_of n events) c answers)
lives hash shelves n c old new [] answers here (same, none) = (λ i. numbered n (same i).connections) ∙ here
lives hash shelves n c old new (event ∷ events) answers here (mid, some, others, happens, said, runs, parts) =
    let (d, there, is) = becomes hash shelves n old mid c here some others event happens said in lives hash shelves n d mid new events others there runs
    ∙ ap (λ (next : Connection × List Answer). Some (owns (events_of n events) next.0 next.1)) (sym is ∙ ap (if_own (is_number n (named event)) event c) (sym parts))
    ∙ ap (λ (d : Connection). Some d) (sym (owns_more (is_number n (named event)) event (events_of n events) c answers))

leaves_owned : (n : ℕ) (first : Connection) (own : List Event) (answers : List Answer) (last : Connection) → Leaves n first own answers last → Some last ≡ Some (owns own first answers)
leaves_owned n first own answers last l = sym l.ends ∙ lives l.hash l.shelves n first l.old l.new l.events answers l.begins l.runs ∙ ap (λ (es : List Event). Some (owns es first answers)) l.has

pub leaves_one : (n : ℕ) (first : Connection) (own : List Event) (answers : List Answer) (last other : Connection) → Leaves n first own answers last → Leaves n first own answers other → other ≡ last
leaves_one n first own answers last other one two = let both = leaves_owned n first own answers other two ∙ sym (leaves_owned n first own answers last one) in cc

-- each run has answers
module _ (hash : List ℕ → ℕ) (shelves n : ℕ) where
  next_answered : (old new : PlainWorld) (o : Option Connection) → MatchOption o (new ≡ old) (λ c. Turns old n c new)
      → (answers : List Answer) × MatchOption o (answers ≡ []) (λ c. AnswersNext old c answers)
  next_answered old new None h = ([], refl)
  next_answered old new (Some x) (inl h) = ([], inl (h.0, refl))
  next_answered old new (Some x) (inr (state, turn, is)) = (answers_in old (step_of turn.unit turn.at), inr (turn.unit, turn.at, turn.next, refl))

  answered : (old new : PlainWorld) (event : Event) → Happens hash shelves old event new → (answers : List Answer) × AnswersOf n old event answers
  answered old new (Turn k) h =
      elim (k == n) as (λ b. (k == n) ≡ b → (answers : List Answer) × MatchBool b (MatchOption (open_connection n old.connections) (answers ≡ []) (λ c. AnswersNext old c answers)) (answers ≡ [])) [
        | true ↦ λ mine. next_answered old new (open_connection n old.connections) (subst (λ (j : ℕ). Happens hash shelves old (Turn j) new) (eqb-true k n mine) h)
        | false ↦ λ other. ([], refl)
      ] refl
  answered old new event h = ([], refl)

  runs_answered : (old new : PlainWorld) (events : List Event) → Runs hash shelves old events new → (answers : List Answer) × RunsAnswering hash shelves n old events answers new
  runs_answered old new [] same = ([], (same, refl))
  runs_answered old new (event ∷ events) (mid, happens, runs) = let (some, said) = answered old mid event happens in let (others, rest) = runs_answered mid new events runs in
      (some ++ others, (mid, some, others, happens, said, rest, refl))

  pub runs_answering : (c : Connection) (old new : PlainWorld) (events : List Event) → numbered n old.connections ≡ Some c → Runs hash shelves old events new → HasAnswers hash shelves n old events new
  runs_answering c old new events here runs = let (answers, said) = runs_answered old new events runs in
      (answers, owns (events_of n events) c answers, said, lives hash shelves n c old new events answers here said)
