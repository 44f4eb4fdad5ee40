-- Turns over a store are turns over what contracts see of it; and the turn of one session among others.
use Rattle.mc_world.proofs.Words.{◌≡◌, inl, inr, ℕ, List, Bool, true, false, Option, Some, None, Result, Ok, Err, IfErr, OnOk, OnErr, IsTrue, IsFalse, MatchOption, slice_get, refl, ap, ◌-◌, get_or}
use Rattle.mc_world.proofs.Words.{slice_set, sym, ◌∙◌, arith, add-one, if◌then◌else◌, set-get_or, get_or_from_slice_get, Command, steps, plain, Spent, KeyStep, Relations, ProtocolUnit, Request, Fault}
use Rattle.mc_world.proofs.Words.{LongLine, plain_text, SessionState, Answers, AnswersStep, TakesTurn, closed, DecidesStep, TurnIsDue, FindsNoTurn, FindsClosed, SessionTurn, TurnFault, Store}
use Rattle.mc_world.proofs.Words.{HoldSame, TookStep, Did, Idle, Closed, WorldState, open_session, in_plain, numbered, if_open, put, changed, TurnBy, TurnOf, DecidedOf, SessionIsDue, Done, Undone}
use Rattle.mc_world.proofs.Words.{at_session, IsOpenAt, TurnGiven, Turn, IsIdle, StepMoves, TurnMoves}
use Rattle.mc_protocol.specs.declared.step.KeyStep.TheVariants.{Flush}

-- a store's steps
abbrev in_store : {K : Type 0} → Relations (Store K)
in_store = record { took = λ old step now reply new. TookStep old step now reply new; spent = λ old step now. plain old.plain step now ≡ Spent; same = λ old new. HoldSame old new }

-- what a step leaves to move is what a turn may
turn_moves : (step : KeyStep) {old new : List ℕ} → StepMoves step old new → TurnMoves old new
turn_moves (Flush delay) moves = inr moves
turn_moves step moves = inl moves

-- What a turn keeps of a store, beside what it is to the plain state.
module _ {K : Type 0} where
  abbrev Kept : Store K → Store K → Type 0
  Kept b a = ((a.settings ≡ b.settings) × (a.hasher ≡ b.hasher)) × TurnMoves b.left a.left

  same_kept : (b a : Store K) → a ≡ b → Kept b a × (a.plain ≡ b.plain)
  same_kept b a e =
      (((ap (λ (s : Store K). s.settings) e, ap (λ (s : Store K). s.hasher) e), inl (inl (ap (λ (s : Store K). s.left) e))), ap (λ (s : Store K). s.plain) e)

  request_seen : (command : Command) (at now : ℕ) (b a : Store K) (text : List ℕ) (o : Option KeyStep)
      → MatchOption o ((text ≡ plain_text command) × (a ≡ b)) (λ step. AnswersStep in_store command at step now b a text)
      → Kept b a × MatchOption o ((text ≡ plain_text command) × (a.plain ≡ b.plain)) (λ step. AnswersStep in_plain command at step now b.plain a.plain text)
  request_seen command at now b a text None h = let same = same_kept b a h.1 in (same.0, (h.0, same.1))
  request_seen command at now b a text (Some step) (inl (reply, took, is)) = ((took.1, turn_moves step took.2), inl (reply, took.0, is))
  request_seen command at now b a text (Some step) (inr (spent, same, is)) = (((same.settings, same.hasher), inl same.moves), inr (spent, same.plain, is))

  answers_seen : (unit : ProtocolUnit) (at now : ℕ) (b a : Store K) (text : List ℕ) → Answers in_store unit at now b a text → Kept b a × Answers in_plain unit at now b.plain a.plain text
  answers_seen (Request command) at now b a text h = request_seen command at now b a text (slice_get (steps command) at) h
  answers_seen (Fault fault) at now b a text h = let same = same_kept b a h.1 in (same.0, (h.0, same.1))
  answers_seen LongLine at now b a text h = let same = same_kept b a h.1 in (same.0, (h.0, same.1))

  turn_seen : (o : Option SessionState) (n now : ℕ) (old new : List SessionState) (b a : Store K) → TurnBy in_store o n now old new b a → Kept b a × TurnBy in_plain o n now old new b.plain a.plain
  turn_seen None n now old new b a h = let same = same_kept b a h.1 in (same.0, (h.0, same.1))
  turn_seen (Some session) n now old new b a (inl h) = let same = same_kept b a h.2 in (same.0, inl (h.0, h.1, same.1))
  turn_seen (Some session) n now old new b a (inr (next, t, is)) =
      let (kept, answers) = answers_seen t.unit session.taken now b a t.text t.answers in let seen : TakesTurn in_plain now session next b.plain a.plain =
      record { unit = t.unit; front = t.front; rest = t.rest; text = t.text; opens = t.opens; parts = t.parts; spelled = t.spelled; due = t.due; answers = answers; moves = t.moves } in
      (kept, inr (next, seen, is))

  decided_seen : (n now : ℕ) (old : List SessionState) (b a : Store K) → DecidedOf in_store n now old b a → Kept b a × DecidedOf in_plain n now old b.plain a.plain
  decided_seen n now old b a (session, here, h) = let took = h.took_it.0 in let seen : DecidesStep in_plain now session b.plain a.plain =
      record { command = h.command; front = h.front; rest = h.rest; step = h.step; reply = h.reply; opens = h.opens; parts = h.parts; spelled = h.spelled; is_step = h.is_step; took_it = took } in
      ((h.took_it.1, turn_moves h.step h.took_it.2), (session, here, seen))

-- What a turn of a session with a store says of the world.
module _ {K : Type 0} (n now : ℕ) (old new : List SessionState) (b a : Store K) where
  abbrev with_store : List SessionState → Store K → WorldState K
  with_store sessions store = record { settings = store.settings; hasher = store.hasher; state = store.plain; moment = now; sessions = sessions; left = store.left }

  pub result_done : (hash_of : K → List ℕ → ℕ) (r : Result SessionTurn TurnFault) → OnOk r (TurnOf in_store n now old new b a) → OnOk r (Done hash_of (with_store old b) (Turn n) (with_store new a))
  result_done hash_of (Ok t) h = let (kept, seen) = turn_seen (open_session n old) n now old new b a h in (kept.0.0, kept.0.1, refl, seen, kept.1)
  result_done hash_of (Err fault) h = tt

  decided_kept : (decided : Bool) → (IsFalse decided → HoldSame b a) → (IsTrue decided → DecidedOf in_store n now old b a) → Kept b a
  decided_kept true undecided decides = (decided_seen n now old b a (decides refl)).0
  decided_kept false undecided decides = let same = undecided refl in ((same.settings, same.hasher), inl same.moves)

  pub result_undone : (r : Result SessionTurn TurnFault) → OnErr r (new ≡ at_session old n closed) → OnErr r (SessionIsDue n old)
      → IfErr r (λ fault. IsFalse fault.decided → HoldSame b a) → IfErr r (λ fault. IsTrue fault.decided → DecidedOf in_store n now old b a)
      → IfErr r (λ fault. Undone fault.decided (with_store old b) (Turn n) (with_store new a))
  result_undone (Ok t) shut due undecided decides = tt
  result_undone (Err fault) shut due undecided decides =
      let kept : Kept b a = decided_kept fault.decided undecided decides in let state : IsFalse fault.decided → a.plain ≡ b.plain = λ is. (undecided is).plain in
      let seen : IsTrue fault.decided → DecidedOf in_plain n now old b.plain a.plain = λ is. (decided_seen n now old b a (decides is)).1 in
      record { settings = kept.0.0; hasher = kept.0.1; moment = refl; sessions = shut; moves = kept.1; takes = due; undecided = state; decides = seen }

-- The turn of one session among others.
-- the session x at the place is the open one of number n, and y comes in its place
module _ {S : Type 0} (relations : Relations S) (n now : ℕ) (old : List SessionState) (at : ℕ) (x y : SessionState) (before after : S)
    (is_at : IsOpenAt old n at) (in_place : x ≡ get_or old at x) where
  is_it : is_at.session ≡ x
  is_it = sym (get_or_from_slice_get old at is_at.session x is_at.here) ∙ sym in_place

  opens : x.is_open ≡ true
  opens = ap (λ (s : SessionState). s.is_open) (sym is_it) ∙ is_at.opens

  there : numbered n old ≡ Some x
  there = ap (λ (k : ℕ). numbered k old) (is_at.number ∙ add-one at) ∙ is_at.here ∙ ap (λ (s : SessionState). Some s) is_it

  found : open_session n old ≡ Some x
  found = ap (if_open (λ s. s.is_open)) there ∙ ap (λ b. if b then Some x else None) opens

  put_is : slice_set old at y ≡ put n old y
  put_is = let e : at ≡ n - 1 = omega (arith, is_at.number) in ap (λ (k : ℕ). slice_set old k y) e

  stays : y ≡ x → slice_set old at y ≡ old
  stays same = ap (λ (s : SessionState). slice_set old at s) (same ∙ in_place) ∙ set-get_or old at x

  is_open : IsFalse x.is_open → ⊥
  is_open shut = let e : true ≡ false = sym opens ∙ shut in cc

  is_due : TakesTurn relations now x y before after → SessionIsDue n old
  is_due turn = (x, found, λ none. none.none turn.unit turn.front turn.rest turn.parts turn.spelled)

  turn_of : (t : SessionTurn) → (t ≡ Did → TakesTurn relations now x y before after) → (t ≡ Idle → FindsNoTurn x y before after) → (t ≡ Closed → FindsClosed x y before after)
      → TurnOf relations n now old (slice_set old at y) before after
  turn_of Did did idle shut = rw found (inr (y, did refl, put_is))
  turn_of Idle did idle shut = let h = idle refl in rw found (inl (h.0, stays h.2, h.3))
  turn_of Closed did idle shut = absurd (is_open (shut refl).0)

  pub given : (r : Result SessionTurn TurnFault) → (r ≡ Ok Did → TakesTurn relations now x y before after) → (r ≡ Ok Idle → FindsNoTurn x y before after)
      → (r ≡ Ok Closed → FindsClosed x y before after) → OnErr r (y ≡ closed x) → OnErr r (TurnIsDue x)
      → IfErr r (λ fault. IsFalse fault.decided → relations.same before after) → IfErr r (λ fault. IsTrue fault.decided → DecidesStep relations now x before after)
      → TurnGiven relations n now r old (slice_set old at y) before after
  given (Ok t) did idle shut err due undecided decided = let took = turn_of t (λ e. did (ap (λ k. Ok k) e)) (λ e. idle (ap (λ k. Ok k) e)) (λ e. shut (ap (λ k. Ok k) e)) in
      let still : FindsNoTurn x y before after → IsIdle (numbered n old) × (slice_set old at y ≡ old) × (after ≡ before) = λ h. (rw there (h.1, h.0), stays h.2, h.3) in
      record { ok = took; did = λ is. is_due (did is); idle = λ is. still (idle is); closed = λ is. absurd (is_open (shut is).0); err = tt; due = tt; undecided = tt; decided = tt }
  given (Err fault) did idle shut err due undecided decided = let shuts = put_is ∙ ap (put n old) err ∙ ap (changed n old closed) (sym found) in
      record { ok = tt; did = λ is. cc; idle = λ is. absurd (cc); closed = λ is. absurd (cc); err = shuts; due = (x, found, due.1); undecided = undecided; decided = λ is. (x, found, decided is) }
