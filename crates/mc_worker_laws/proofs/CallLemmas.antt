-- A worker's calls: its caller's past has them, and those of a guest's turns are the turns' own.
use Rattle.std.specs.Prelude.{slice_get, if◌then◌else◌, MatchOption}
use Rattle.std.proofs.Common.{◌≡◌, ◌⊎◌, inl, inr, ℕ, ◌≤◌, ◌==◌, Bool, true, false, List, [], ◌∷◌, ◌++◌, length, Option, Some, None, refl, sym, ap, ◌∙◌, subst, arith, append-nil, append_assoc}
use Rattle.std.proofs.Common.{length-append}
use Rattle.std.proofs.lemmas.Bool.Decides.{eqb_tells}
use Rattle.std.proofs.lemmas.Option.{slice_get_within}
use Rattle.mc_protocol.specs.Commands.{Command, steps}
use Rattle.mc_protocol.specs.declared.step.KeyStep.{KeyStep}
use Rattle.mc_parse.specs.Units.{ProtocolUnit, Request, Fault, LongLine}
use Rattle.mc_reply.specs.Texts.{plain_text}
use Rattle.mc_session.specs.Turns.{Answers, AnswersStep, DecidesStep}
use Rattle.mc_shared.specs.Asking.{AskingState}
use Rattle.mc_shared.specs.History.{Beginning, HistoryEntry, Purged}
use Rattle.mc_shared.specs.Past.{Past, call, Ordered}
use Rattle.mc_shared.specs.Steps.{entry_of, Agrees}
use Rattle.mc_guests.specs.Links.{LinkState}
use Rattle.mc_guests.specs.Guests.{GuestState, welcomed}
use Rattle.mc_guests.specs.Asks.{MayAsk, NamesKey}
use Rattle.mc_guests.specs.Visits.{Visited, RefusesTurn, RefusesPiece}
use Rattle.mc_guests.specs.Telling.{TakenTurn, turns_of}
use Rattle.mc_guests.specs.declared.guest.Visit.{Visit}
use Rattle.mc_guests.specs.declared.guest.Visit.TheVariants.{Wrote, Turned, Read, Later, Served, Broken, Refused}
use Rattle.mc_guests.proofs.JudgeLemmas.{length_changed}
use Rattle.mc_laws.specs.Laws.{PastIsWithin}
use Rattle.mc_laws.proofs.OrderLawLemmas.{within_front}
use Rattle.mc_workers.specs.Rounds.{as_caller}
use Rattle.mc_worker_laws.specs.Traces.{Trace, begun, purged, comes, visits, waits, turns_in}
use Rattle.mc_worker_laws.specs.Calls.{StandInOrder, with_entries, PurposedCall, tidies, entries, for_turns_of, is_turn_of, turn_calls, step_call, unit_call, call_of, calls_of}
use Rattle.mc_worker_laws.specs.Calls.{measuring, textless, refusing, visiting, calls_in}

-- ---- calls in two parts
entries_both : (cs ds : List PurposedCall) → entries (cs ++ ds) ≡ entries cs ++ entries ds
entries_both [] ds = refl
entries_both (c ∷ cs) ds = ap (λ es. c.1 ∷ es) (entries_both cs ds)

with_both : (p : Past) (es fs : List HistoryEntry) → with_entries p (es ++ fs) ≡ with_entries (with_entries p es) fs
with_both p [] fs = refl
with_both p (e ∷ es) fs = with_both (call p e) es fs

further_both : (p q r : Past) (cs ds : List PurposedCall) → q ≡ with_entries p (entries cs) → r ≡ with_entries q (entries ds) → r ≡ with_entries p (entries (cs ++ ds))
further_both p q r cs ds first second =
    second ∙ ap (λ m. with_entries m (entries ds)) first ∙ sym (with_both p (entries cs) (entries ds)) ∙ ap (with_entries p) (sym (entries_both cs ds))

put_in : (b : Bool) (e : HistoryEntry) (es fs : List HistoryEntry) → (if b then e ∷ (es ++ fs) else es ++ fs) ≡ (if b then e ∷ es else es) ++ fs
put_in true e es fs = refl
put_in false e es fs = refl

turn_calls_both : (at : ℕ) (cs ds : List PurposedCall) → turn_calls at (cs ++ ds) ≡ turn_calls at cs ++ turn_calls at ds
turn_calls_both at [] ds = refl
turn_calls_both at (c ∷ cs) ds =
    ap (λ es. if is_turn_of at c.0 then c.1 ∷ es else es) (turn_calls_both at cs ds) ∙ put_in (is_turn_of at c.0) c.1 (turn_calls at cs) (turn_calls at ds)

-- ---- where a history has them
in_longer : (more calls es : List HistoryEntry) → StandInOrder calls es → StandInOrder (more ++ calls) es
in_longer more calls [] s = tt
in_longer more calls (e ∷ es) s = (more ++ s.0, s.1, ap (λ cs. more ++ cs) s.2 ∙ sym (append_assoc more s.0 (e ∷ s.1)), s.3)

in_order : (p : Past) (es log : List HistoryEntry) → Ordered log (with_entries p es)
    → (front : List HistoryEntry) × (back : List HistoryEntry) × (log ≡ front ++ back) × Ordered front p × StandInOrder back es
in_order p [] log o = (log, [], sym (append-nil log), o, tt)
in_order p (e ∷ es) log o =
    let more = in_order (call p e) es log o in
    let here = more.3 in (
      here.0,
      e ∷ (here.1 ++ more.1),
      more.2 ∙ ap (λ cs. cs ++ more.1) here.2 ∙ append_assoc here.0 (e ∷ here.1) more.1,
      here.3,
      ([], here.1 ++ more.1, refl, in_longer here.1 more.1 es more.4),
    )

in_more : (calls more es : List HistoryEntry) → StandInOrder calls es → StandInOrder (calls ++ more) es
in_more calls more [] s = tt
in_more calls more (e ∷ es) s = (s.0, s.1 ++ more, ap (λ cs. cs ++ more) s.2 ∙ append_assoc s.0 (e ∷ s.1) more, in_more s.1 more es s.3)

-- what went into a past stands in the history that keeps it
pub among_all : (p whole : Past) (es : List HistoryEntry) (start : Beginning) (agrees : Agrees start whole) → PastIsWithin (with_entries p es) whole → StandInOrder agrees.log es
among_all p whole es start agrees within =
    let front = within_front (with_entries p es) whole agrees.log agrees.keeps.ordered within in
    let parts = in_order p es front.0 front.3 in
    subst (λ log. StandInOrder log es) (sym front.2) (in_more front.0 front.1 es (subst (λ log. StandInOrder log es) (sym parts.2) (in_longer parts.0 parts.1 es parts.4)))

module _ {K : Type 0} (hash_of : K → List ℕ → ℕ) where
  abbrev Became : (a b : AskingState K) → List PurposedCall → Type 0
  Became a b calls = b.past ≡ with_entries a.past (entries calls)

  abbrev Keeps : (a b : AskingState K) → Type 0
  Keeps a b = (as_caller hash_of).same a b

  became_same : (a b : AskingState K) → b ≡ a → b.past ≡ a.past
  became_same a b same = ap (λ (s : AskingState K). s.past) same

  -- ---- the past has them
  step_became : (command : Command) (at now : ℕ) (a b : AskingState K) (text : List ℕ) (o : Option KeyStep)
      → (answer : MatchOption o ((text ≡ plain_text command) × (b ≡ a)) (λ step. AnswersStep (as_caller hash_of) command at step now a b text))
      → b.past ≡ with_entries a.past (step_call hash_of command at now a b text o answer)
  step_became command at now a b text None answer = became_same a b answer.1
  step_became command at now a b text (Some step) (inl took) = became_same _ b took.1.past
  step_became command at now a b text (Some step) (inr spent) = became_same a b spent.1

  unit_became : (unit : ProtocolUnit) (at now : ℕ) (a b : AskingState K) (text : List ℕ) (answer : Answers (as_caller hash_of) unit at now a b text)
      → b.past ≡ with_entries a.past (unit_call hash_of unit at now a b text answer)
  unit_became (Request command) at now a b text answer = step_became command at now a b text (slice_get (steps command) at) answer
  unit_became (Fault fault) at now a b text answer = became_same a b answer.1
  unit_became LongLine at now a b text answer = became_same a b answer.1

  turns_entries : (at : ℕ) (es : List HistoryEntry) → entries (for_turns_of at es) ≡ es
  turns_entries at [] = refl
  turns_entries at (e ∷ es) = ap (λ fs. e ∷ fs) (turns_entries at es)

  measuring_became : (at now : ℕ) (names : List ℕ → Type 0) (a b : AskingState K) (asks : MayAsk (as_caller hash_of) now names a b) → Became a b (measuring hash_of at now names a b asks)
  measuring_became at now names a b (inl none) = became_same a b none
  measuring_became at now names a b (inr (inl same)) = became_same a b same
  measuring_became at now names a b (inr (inr reads)) = became_same _ b reads.took_it.past

  textless_became : (at now : ℕ) (old : GuestState) (a b : AskingState K) (store : Keeps a b ⊎ DecidesStep (as_caller hash_of) now old.session a b) → Became a b (textless hash_of at now old a b store)
  textless_became at now old a b (inl same) = became_same a b same
  textless_became at now old a b (inr decides) = became_same _ b decides.took_it.past

  refusing_became : (at now : ℕ) (old new : GuestState) (a b : AskingState K) (does : RefusesTurn (as_caller hash_of) now old new a b ⊎ (RefusesPiece old new × (b ≡ a)))
      → Became a b (refusing hash_of at now old new a b does)
  refusing_became at now old new a b (inl turn) = textless_became at now old a b turn.store
  refusing_became at now old new a b (inr piece) = became_same a b piece.1

  visiting_became : (at now : ℕ) (answer : Visit) (old new : GuestState) (a b : AskingState K) (visited : Visited (as_caller hash_of) now answer old new a b)
      → Became a b (visiting hash_of at now answer old new a b visited)
  visiting_became at now answer old new a b (inl ended) = became_same a b ended.store
  visiting_became at now Turned old new a b (inr due) =
      let t = due.does.takes in
      unit_became t.unit old.session.taken now a b t.text t.answers ∙ ap (with_entries a.past) (sym (turns_entries at (unit_call hash_of t.unit old.session.taken now a b t.text t.answers)))
  visiting_became at now Wrote old new a b (inr due) = became_same a b due.does.1
  visiting_became at now Read old new a b (inr due) = became_same a b due.does.1
  visiting_became at now Later old new a b (inr due) = became_same a b due.does.1
  visiting_became at now Served old new a b (inr due) = became_same a b due.does.1
  visiting_became at now Broken old new a b (inr due) = became_same a b due.does.1
  visiting_became at now Refused old new a b (inr due) = refusing_became at now old new a b due.does

  -- ---- those of a guest's turns
  turns_mine : (at other : ℕ) (es : List HistoryEntry) → turn_calls at (for_turns_of other es) ≡ (if at == other then es else [])
  turns_mine at other es = by_test (at == other) refl es
    where
      by_test : (b : Bool) → (at == other) ≡ b → (fs : List HistoryEntry) → turn_calls at (for_turns_of other fs) ≡ (if b then fs else [])
      by_test true is [] = refl
      by_test false is [] = refl
      by_test true is (e ∷ fs) = ap (λ (c : Bool). if c then e ∷ turn_calls at (for_turns_of other fs) else turn_calls at (for_turns_of other fs)) is ∙ ap (λ gs. e ∷ gs) (by_test true is fs)
      by_test false is (e ∷ fs) = ap (λ (c : Bool). if c then e ∷ turn_calls at (for_turns_of other fs) else turn_calls at (for_turns_of other fs)) is ∙ by_test false is fs

  none_measuring : (at other now : ℕ) (names : List ℕ → Type 0) (a b : AskingState K) (asks : MayAsk (as_caller hash_of) now names a b)
      → turn_calls at (measuring hash_of other now names a b asks) ≡ []
  none_measuring at other now names a b (inl none) = refl
  none_measuring at other now names a b (inr (inl same)) = refl
  none_measuring at other now names a b (inr (inr reads)) = refl

  none_refusing : (at other now : ℕ) (old new : GuestState) (a b : AskingState K) (does : RefusesTurn (as_caller hash_of) now old new a b ⊎ (RefusesPiece old new × (b ≡ a)))
      → turn_calls at (refusing hash_of other now old new a b does) ≡ []
  none_refusing at other now old new a b (inl turn) = by_store turn.store
    where
      by_store : (store : Keeps a b ⊎ DecidesStep (as_caller hash_of) now old.session a b) → turn_calls at (textless hash_of other now old a b store) ≡ []
      by_store (inl same) = refl
      by_store (inr decides) = refl
  none_refusing at other now old new a b (inr piece) = refl

  if_none : (b : Bool) → ◌≡◌ {A = List HistoryEntry} [] (if b then [] else [])
  if_none true = refl
  if_none false = refl

  visiting_mine : (at other now : ℕ) (answer : Visit) (old new : GuestState) (a b : AskingState K) (visited : Visited (as_caller hash_of) now answer old new a b)
      → turn_calls at (visiting hash_of other now answer old new a b visited) ≡ (if at == other then calls_of hash_of (turns_of (as_caller hash_of) now answer old new a b visited) else [])
  visiting_mine at other now answer old new a b (inl ended) = if_none (at == other)
  visiting_mine at other now Turned old new a b (inr due) =
      let t = due.does.takes in
      let es = unit_call hash_of t.unit old.session.taken now a b t.text t.answers in
      turns_mine at other es ∙ ap (λ fs. if at == other then fs else []) (sym (append-nil es))
  visiting_mine at other now Wrote old new a b (inr due) = if_none (at == other)
  visiting_mine at other now Read old new a b (inr due) = if_none (at == other)
  visiting_mine at other now Later old new a b (inr due) = if_none (at == other)
  visiting_mine at other now Served old new a b (inr due) = if_none (at == other)
  visiting_mine at other now Broken old new a b (inr due) = if_none (at == other)
  visiting_mine at other now Refused old new a b (inr due) = none_refusing at other now old new a b due.does ∙ if_none (at == other)

  calls_both : (ts us : List (TakenTurn (as_caller hash_of))) → calls_of hash_of (ts ++ us) ≡ calls_of hash_of ts ++ calls_of hash_of us
  calls_both [] us = refl
  calls_both (t ∷ ts) us = ap (λ es. call_of hash_of t ++ es) (calls_both ts us) ∙ sym (append_assoc (call_of hash_of t) (calls_of hash_of ts) (calls_of hash_of us))

  if_more : (b : Bool) (ts us : List (TakenTurn (as_caller hash_of))) → calls_of hash_of ts ++ (if b then calls_of hash_of us else []) ≡ calls_of hash_of (if b then ts ++ us else ts)
  if_more true ts us = sym (calls_both ts us)
  if_more false ts us = append-nil (calls_of hash_of ts)

  module _ (may_give : ℕ → Type 0) (begin : AskingState K) where
    pub trace_became : (links : List (ℕ × LinkState)) (guests : List GuestState) (a : AskingState K) (trace : Trace hash_of may_give begin links guests a)
        → Became begin a (calls_in hash_of may_give trace)
    trace_became links guests a begun = refl
    trace_became links guests a (purged {before = before} shelf now trace gives once) =
        further_both begin.past before.past a.past (calls_in hash_of may_give trace) ((tidies, entry_of before.past (Purged shelf now)) ∷ [])
        (trace_became links guests before trace) (became_same _ a once.past)
    trace_became all more a (comes {links = links} {guests = guests} greatest link trace) = trace_became links guests a trace
    trace_became links later a (visits {guests = guests} {before = before} at now answer old new trace is gives visit) =
        let asks = measuring hash_of at now (NamesKey old.session) before visit.between visit.asks in
        let visited = visiting hash_of at now answer old new visit.between a visit.visits in
        further_both begin.past before.past a.past (calls_in hash_of may_give trace) (asks ++ visited) (trace_became links guests before trace)
        (further_both before.past visit.between.past a.past asks visited (measuring_became at now (NamesKey old.session) before visit.between visit.asks)
        (visiting_became at now answer old new visit.between a visit.visits))
    trace_became links later a (waits {guests = guests} {before = before} at now old new trace is gives kept) =
        further_both begin.past before.past a.past (calls_in hash_of may_give trace) (measuring hash_of at now (NamesKey old.session) before a kept.asks) (trace_became links guests before trace)
        (measuring_became at now (NamesKey old.session) before a kept.asks)

    -- a guest that isn't there yet took no turn
    none_beyond : (links : List (ℕ × LinkState)) (guests : List GuestState) (a : AskingState K) (trace : Trace hash_of may_give begin links guests a) (at : ℕ)
        → length guests ≤ at → turns_in hash_of may_give trace at ≡ []
    none_beyond links guests a begun at far = refl
    none_beyond links guests a (purged {before = before} shelf now trace gives once) at far = none_beyond links guests before trace at far
    none_beyond all more a (comes {links = links} {guests = guests} greatest link trace) at far =
        let long = length-append guests (welcomed greatest link ∷ []) in
        elim (eqb_tells at (length guests)) [
          | inl hit ↦ absurd (let same = hit.1 in omega (arith, same, long, far))
          | inr miss ↦
              ap (λ (b : Bool). if b then [] else turns_in hash_of may_give trace at) miss.0 ∙ none_beyond links guests a trace at (omega (arith, long, far))
        ]
    none_beyond links later a (visits {guests = guests} {before = before} {after = after} other now answer old new trace is gives visit) at far =
        let long = length_changed (λ (_ : GuestState). new) other guests in
        let within = slice_get_within guests other old is in
        let own = turns_in hash_of may_give trace at in
        elim (eqb_tells at other) [
          | inl hit ↦ absurd (let same = hit.1 in omega (arith, same, long, far, within))
          | inr miss ↦
              ap (λ (b : Bool). if b then own ++ turns_of (as_caller hash_of) now answer old new visit.between a visit.visits else own) miss.0
              ∙ none_beyond links guests before trace at (omega (arith, long, far))
        ]
    none_beyond links later a (waits {guests = guests} {before = before} other now old new trace is gives kept) at far =
        let long = length_changed (λ (_ : GuestState). new) other guests in none_beyond links guests before trace at (omega (arith, long, far))

    pub trace_mine : (links : List (ℕ × LinkState)) (guests : List GuestState) (a : AskingState K) (trace : Trace hash_of may_give begin links guests a) (at : ℕ)
        → turn_calls at (calls_in hash_of may_give trace) ≡ calls_of hash_of (turns_in hash_of may_give trace at)
    trace_mine links guests a begun at = refl
    trace_mine links guests a (purged {before = before} shelf now trace gives once) at =
        turn_calls_both at (calls_in hash_of may_give trace) ((tidies, entry_of before.past (Purged shelf now)) ∷ [])
        ∙ append-nil (turn_calls at (calls_in hash_of may_give trace)) ∙ trace_mine links guests before trace at
    trace_mine all more a (comes {links = links} {guests = guests} greatest link trace) at = elim (eqb_tells at (length guests)) [
      | inl hit ↦
          (let far : length guests ≤ at = (let same = hit.1 in omega (arith, same)) in
          trace_mine links guests a trace at ∙ ap (calls_of hash_of) (none_beyond links guests a trace at far)
          ∙ ap (λ (b : Bool). calls_of hash_of (if b then [] else turns_in hash_of may_give trace at)) (sym hit.0))
      | inr miss ↦ trace_mine links guests a trace at ∙ ap (λ (b : Bool). calls_of hash_of (if b then [] else turns_in hash_of may_give trace at)) (sym miss.0)
    ]
    trace_mine links later a (visits {guests = guests} {before = before} other now answer old new trace is gives visit) at =
        let calls = calls_in hash_of may_give trace in
        let asks = measuring hash_of other now (NamesKey old.session) before visit.between visit.asks in
        let visited = visiting hash_of other now answer old new visit.between a visit.visits in
        let own = turns_in hash_of may_give trace at in
        let more = turns_of (as_caller hash_of) now answer old new visit.between a visit.visits in
        turn_calls_both at calls (asks ++ visited)
        ∙ (λ i. trace_mine links guests before trace at i ++ (turn_calls_both at asks visited
        ∙ (λ j. none_measuring at other now (NamesKey old.session) before visit.between visit.asks j ++ visiting_mine at other now answer old new visit.between a visit.visits j)) i)
        ∙ if_more (at == other) own more
    trace_mine links later a (waits {guests = guests} {before = before} other now old new trace is gives kept) at =
        let calls = calls_in hash_of may_give trace in
        let asks = measuring hash_of other now (NamesKey old.session) before a kept.asks in
        turn_calls_both at calls asks
        ∙ (λ i. trace_mine links guests before trace at i ++ none_measuring at other now (NamesKey old.session) before a kept.asks i)
        ∙ append-nil (calls_of hash_of (turns_in hash_of may_give trace at))
