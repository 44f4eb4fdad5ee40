-- The turns that visits took are those of the stream that the link gave.
use Rattle.std.specs.Prelude.{MatchOption, map, slice_get, IsTrue, IsFalse}
use Rattle.std.proofs.Common.{◌≡◌, ◌⊎◌, inl, inr, ℕ, List, [], ◌∷◌, ◌++◌, Option, Some, None, refl, sym, ap, ◌∙◌, subst, append_assoc, append-nil}
use Rattle.mc_protocol.specs.Commands.{Command, steps}
use Rattle.mc_protocol.specs.declared.step.KeyStep.{KeyStep}
use Rattle.mc_protocol.specs.declared.step.Steps.{Ghosts as Relations}
use Rattle.mc_parse.specs.Units.{ProtocolUnit, Request, Fault, LongLine}
use Rattle.mc_parse.specs.Streams.{AreUnits}
use Rattle.mc_session.specs.Turns.{SessionState, TakesTurn, Answers, AnswersStep, NoTurnDue, opened, fed}
use Rattle.mc_session.specs.Serving.{with_written, with_out, RunTurn, Run}
use Rattle.mc_session.proofs.TurnLemmas.{OneSpelling}
use Rattle.mc_session.proofs.ChainLemmas as chain
use Rattle.mc_session.proofs.RunLemmas.{run_more, turn_written, fed-fed, fed-with_written}
use Rattle.mc_session.proofs.StreamLemmas.{run_takes_first, run_takes_all}
use Rattle.mc_guests.specs.Links.{LinkState, grown}
use Rattle.mc_guests.specs.Guests.{GuestState, welcomed, ends, has_ended}
use Rattle.mc_guests.specs.Visits.{Visited}
use Rattle.mc_guests.specs.Telling.{TakenTurn, Visits, nothing, visit, texts, turns_of, turn_of}
use Rattle.mc_guests.specs.Telling.{piece_of, part_of, bytes_given, bytes_taken, AnswerFirst, AnswerAll}
use Rattle.mc_guests.specs.declared.guest.Visit.{Visit}
use Rattle.mc_guests.specs.declared.guest.Visit.TheVariants.{Wrote, Turned, Read, Later, Served, Broken, Refused}
use Rattle.mc_links.proofs.LinkLemmas.{grown_nothing, grown_twice}
use Rattle.mc_guests.proofs.TellingLemmas.{moved_out, fed_out, texts_append, served_written}

-- steps of any store
abbrev any_store : Relations (Unit {0})
any_store = record {
  took = λ _ _ _ _ _. Unit {0};
  spent = λ _ _ _. Unit {0};
  same = λ _ _. Unit {0};
}

abbrev at_any_time : ℕ → Type 0
at_any_time _ = Unit {0}

map_append : {A B : Type 0} (f : A → B) (xs ys : List A) → map f (xs ++ ys) ≡ map f xs ++ map f ys
map_append f [] ys = refl
map_append f (x ∷ xs) ys = ap (λ l. f x ∷ l) (map_append f xs ys)

-- what is written of the output stands in front of what is left
split_out : (session : SessionState) (written part rest : List ℕ) → session.out ≡ part ++ rest
    → with_written written session ≡ with_written (written ++ part) (with_out rest session)
split_out session written part rest parts =
    ap (λ out. with_out out session) (ap (λ out. written ++ out) parts ∙ sym (append_assoc written part rest))

-- the same output
same_out : (old new : List ℕ) → new ≡ old → [] ++ new ≡ old ++ []
same_out old new is = is ∙ sym (append-nil old)

-- these bytes more were given, and these were taken
abbrev Grows : (old new : LinkState) (piece part : List ℕ) → Type 0
Grows old new piece part = (new.given ≡ grown old.given piece) × (new.taken ≡ grown old.taken part)

-- a link that is as another that gave and took as much as this one
stays : (old same new : LinkState) → new ≡ same → same.given ≡ old.given → same.taken ≡ old.taken → Grows old new [] []
stays old same new is given taken = (
  ap (λ (l : LinkState). l.given) is ∙ given ∙ sym (grown_nothing old.given),
  ap (λ (l : LinkState). l.taken) is ∙ taken ∙ sym (grown_nothing old.taken),
)

module _ {S : Type 0} (relations : Relations S) where
  step_anywhere : (command : Command) (at : ℕ) (step : KeyStep) (now : ℕ) (before after : S) (text : List ℕ)
      → AnswersStep relations command at step now before after text → AnswersStep any_store command at step now tt tt text
  step_anywhere command at step now before after text (inl r) = inl (r.0, tt, r.2)
  step_anywhere command at step now before after text (inr r) = inr (tt, tt, r.2)

  found_anywhere : (command : Command) (at : ℕ) (found : Option KeyStep) (now : ℕ) (before after : S) (text : List ℕ) (Told : Type 0)
      → MatchOption found (Told × (after ≡ before)) (λ step. AnswersStep relations command at step now before after text)
      → MatchOption found (Told × (tt {0} ≡ tt)) (λ step. AnswersStep any_store command at step now tt tt text)
  found_anywhere command at None now before after text Told h = (h.0, refl)
  found_anywhere command at (Some step) now before after text Told h = step_anywhere command at step now before after text h

  answer_anywhere : (unit : ProtocolUnit) (at now : ℕ) (before after : S) (text : List ℕ)
      → Answers relations unit at now before after text → Answers any_store unit at now tt tt text
  answer_anywhere (Request command) at now before after text h =
      found_anywhere command at (slice_get (steps command) at) now before after text _ h
  answer_anywhere (Fault fault) at now before after text h = (h.0, refl)
  answer_anywhere LongLine at now before after text h = (h.0, refl)

  -- a turn is one of any store
  turn_anywhere : (now : ℕ) (old new : SessionState) (before after : S)
      → TakesTurn relations now old new before after → TakesTurn any_store now old new tt tt
  turn_anywhere now old new before after t =
      let answers = answer_anywhere t.unit old.taken now before after t.text t.answers in
      record { unit = t.unit; front = t.front; rest = t.rest; text = t.text; opens = t.opens; parts = t.parts; spelled = t.spelled; due = t.due; answers = answers; moves = t.moves }

  module _ (greatest : ℕ) where
    -- these turns lead from the stream that was given to this session, with what was taken in front
    abbrev Runs : List (TakenTurn relations) → (given taken : List ℕ) → SessionState → Type 0
    Runs turns given taken last =
        Run any_store at_any_time (fed (opened greatest) given) tt (map (turn_of relations) turns) (with_written taken last) tt

    -- Visits are a run of the stream that was given. It leads to the guest's session, or where the
    -- guest has ended to the session that it had until then.
    record Went (turns : List (TakenTurn relations)) (given taken : List ℕ) (guest : GuestState) : Type 0 where
      pub last : SessionState
      pub run : Runs turns given taken last
      pub goes_on : IsFalse (has_ended guest.last) → guest.session ≡ last
      pub served : guest.last ≡ Some Served → IsFalse last.is_open ⊎ NoTurnDue last

    -- of a guest that goes on
    went_on : (turns : List (TakenTurn relations)) (given taken : List ℕ) (guest : GuestState) (answer : Visit)
        → guest.last ≡ Some answer → (answer ≡ Served → ⊥) → Runs turns given taken guest.session
        → Went turns given taken guest
    went_on turns given taken guest answer is unserved run = record {
      last = guest.session;
      run = run;
      goes_on = λ _. refl;
      served = λ served. absurd (unserved (cc (is, served)));
    }

    -- of one that has ended
    went_off : (turns : List (TakenTurn relations)) (given taken : List ℕ) (guest : GuestState) (answer : Visit)
        (last : SessionState) → guest.last ≡ Some answer → IsTrue (ends answer)
        → (answer ≡ Served → IsFalse last.is_open ⊎ NoTurnDue last) → Runs turns given taken last
        → Went turns given taken guest
    went_off turns given taken guest answer last is ended served run = record {
      last = last;
      run = run;
      goes_on = λ going.
          let both : IsFalse (ends answer) = subst (λ (answer : Option Visit). IsFalse (has_ended answer)) is going in
          absurd (cc (both, ended));
      served = λ last. served (cc (is, last));
    }

    -- with nothing more
    went_same : (turns : List (TakenTurn relations)) (given taken : List ℕ) (guest : GuestState)
        → Went turns given taken guest → Went (turns ++ []) (given ++ []) (taken ++ []) guest
    went_same turns given taken guest went =
        subst (λ turns. Went turns (given ++ []) (taken ++ []) guest) (sym (append-nil turns))
        (subst (λ given. Went turns given (taken ++ []) guest) (sym (append-nil given))
        (subst (λ taken. Went turns given taken guest) (sym (append-nil taken)) went))

    -- the run of a longer stream
    runs_more : (turns : List (TakenTurn relations)) (given taken piece : List ℕ) (last : SessionState)
        → Runs turns given taken last → Runs turns (given ++ piece) taken (fed last piece)
    runs_more turns given taken piece last run =
        let more : Run any_store at_any_time (fed (fed (opened greatest) given) piece) tt (map (turn_of relations) turns) (fed (with_written taken last) piece) tt =
        run_more any_store at_any_time (fed (opened greatest) given) (with_written taken last) tt tt (map (turn_of relations) turns) piece run in
        subst (λ s. Run any_store at_any_time (fed (opened greatest) (given ++ piece)) tt (map (turn_of relations) turns) s tt) (fed-with_written last taken piece)
        (subst (λ s. Run any_store at_any_time s tt (map (turn_of relations) turns) (fed (with_written taken last) piece) tt) (fed-fed greatest given piece) more)

    -- a run with a turn more
    runs_on : (turns : List (TakenTurn relations)) (given taken : List ℕ) (turn : TakenTurn relations)
        → Runs turns given taken turn.old → Runs (turns ++ turn ∷ []) given taken turn.new
    unfolding turn_written turn_anywhere
    runs_on turns given taken turn run =
        subst (λ l. Run any_store at_any_time (fed (opened greatest) given) tt l (with_written taken turn.new) tt)
        (sym (map_append (turn_of relations) turns (turn ∷ [])))
        (chain.more (RunTurn any_store at_any_time) (map (turn_of relations) turns) (turn_of relations turn) _ (with_written taken turn.old, tt) _ run (record {
          now = turn.now;
          gives = tt;
          takes = turn_written any_store turn.now turn.old turn.new tt tt taken (turn_anywhere turn.now turn.old turn.new turn.before turn.after turn.takes);
          is = refl;
        }))

    -- a visit more
    went_visit : (turns : List (TakenTurn relations)) (given taken : List ℕ) (now : ℕ) (answer : Visit) (old new : GuestState) (before after : S)
        → (visited : Visited relations now answer old new before after) → Went turns given taken old
        → Went (turns ++ turns_of relations now answer old new before after visited)
        (given ++ piece_of relations now answer old new before after visited)
        (taken ++ part_of relations now answer old new before after visited) new
    went_visit turns given taken now answer old new before after (inl ended) went =
        went_same turns given taken new (subst (Went turns given taken) (sym ended.guest) went)
    went_visit turns given taken now Wrote old new before after (inr due) went =
        let does = due.does.0 in
        let here : Runs turns given taken old.session = subst (Runs turns given taken) (sym (went.goes_on due.goes_on)) went.run in
        let part = split_out old.session taken does.part new.session.out does.parts ∙ ap (with_written (taken ++ does.part)) (sym does.session) in
        subst (λ turns. Went turns (given ++ []) (taken ++ does.part) new) (sym (append-nil turns))
        (subst (λ given. Went turns given (taken ++ does.part) new) (sym (append-nil given))
        (went_on turns given (taken ++ does.part) new Wrote due.last (λ served. absurd (cc served))
        (subst (λ s. Run any_store at_any_time (fed (opened greatest) given) tt (map (turn_of relations) turns) s tt) part here)))
    went_visit turns given taken now Turned old new before after (inr due) went =
        let here : Runs turns given taken old.session = subst (Runs turns given taken) (sym (went.goes_on due.goes_on)) went.run in
        let turn : TakenTurn relations = record { now = now; old = old.session; new = new.session; before = before; after = after; takes = due.does.takes } in
        subst (λ given. Went (turns ++ turn ∷ []) given (taken ++ []) new) (sym (append-nil given))
        (subst (λ taken. Went (turns ++ turn ∷ []) given taken new) (sym (append-nil taken))
        (went_on (turns ++ turn ∷ []) given taken new Turned due.last (λ served. absurd (cc served)) (runs_on turns given taken turn here)))
    went_visit turns given taken now Read old new before after (inr due) went =
        let does = due.does.0 in
        let here : Runs turns given taken old.session = subst (Runs turns given taken) (sym (went.goes_on due.goes_on)) went.run in
        subst (λ turns. Went turns (given ++ does.piece) (taken ++ []) new) (sym (append-nil turns))
        (subst (λ taken. Went turns (given ++ does.piece) taken new) (sym (append-nil taken))
        (went_on turns (given ++ does.piece) taken new Read due.last (λ served. absurd (cc served))
        (subst (Runs turns (given ++ does.piece) taken) (sym does.session) (runs_more turns given taken does.piece old.session here))))
    went_visit turns given taken now Later old new before after (inr due) went =
        let same : new.session ≡ old.session = due.does.0.session in
        went_same turns given taken new
        (went_on turns given taken new Later due.last (λ served. absurd (cc served))
        (subst (Runs turns given taken) (sym (went.goes_on due.goes_on) ∙ sym same) went.run))
    went_visit turns given taken now Served old new before after (inr due) went =
        let here : Runs turns given taken old.session = subst (Runs turns given taken) (sym (went.goes_on due.goes_on)) went.run in
        let over : IsFalse old.session.is_open ⊎ NoTurnDue old.session = elim due.does.0.over [
          | inl closed_before ↦ inl closed_before.0
          | inr waits ↦ inr waits.0.none_due
        ] in
        went_same turns given taken new (went_off turns given taken new Served old.session due.last refl (λ _. over) here)
    went_visit turns given taken now Broken old new before after (inr due) went =
        let here : Runs turns given taken old.session = subst (Runs turns given taken) (sym (went.goes_on due.goes_on)) went.run in
        went_same turns given taken new (went_off turns given taken new Broken old.session due.last refl (λ served. absurd (cc served)) here)
    went_visit turns given taken now Refused old new before after (inr due) went =
        let here : Runs turns given taken old.session = subst (Runs turns given taken) (sym (went.goes_on due.goes_on)) went.run in
        went_same turns given taken new (went_off turns given taken new Refused old.session due.last refl (λ served. absurd (cc served)) here)

  -- the guest of visits is where they went
  visits_went : (greatest : ℕ) (link : LinkState) (turns : List (TakenTurn relations)) (new : GuestState)
      → (visits : Visits relations turns (welcomed greatest link) new)
      → Went greatest turns (bytes_given relations visits) (bytes_taken relations visits) new
  visits_went greatest link turns new nothing = record {
    last = opened greatest;
    run = refl;
    goes_on = λ _. refl;
    served = λ served. absurd (cc served);
  }
  visits_went greatest link turns new (visit {turns = earlier} {old = mid} {before = before} {after = after} now answer visits visited) =
      went_visit greatest earlier (bytes_given relations visits) (bytes_taken relations visits) now answer mid new before after visited
      (visits_went greatest link earlier mid visits)

  -- what one visit wrote, and what then waits, is what waited and the text of its turn
  visit_text : (now : ℕ) (answer : Visit) (old new : GuestState) (before after : S)
      → (visited : Visited relations now answer old new before after)
      → part_of relations now answer old new before after visited ++ new.session.out
      ≡ old.session.out ++ texts relations (turns_of relations now answer old new before after visited)
  visit_text now answer old new before after (inl ended) =
      same_out old.session.out new.session.out (ap (λ (g : GuestState). g.session.out) ended.guest)
  visit_text now Wrote old new before after (inr due) =
      sym due.does.0.parts ∙ sym (append-nil old.session.out)
  visit_text now Turned old new before after (inr due) =
      let takes = due.does.takes in
      ap (λ (s : SessionState). s.out) takes.moves ∙ moved_out old.session takes.unit takes.rest takes.text
      ∙ ap (λ l. old.session.out ++ l) (sym (append-nil takes.text))
  visit_text now Read old new before after (inr due) =
      same_out old.session.out new.session.out
      (ap (λ (s : SessionState). s.out) due.does.0.session ∙ fed_out old.session due.does.0.piece)
  visit_text now Later old new before after (inr due) =
      same_out old.session.out new.session.out (ap (λ (s : SessionState). s.out) due.does.0.session)
  visit_text now Served old new before after (inr due) =
      same_out old.session.out new.session.out (ap (λ (s : SessionState). s.out) due.does.0.session)
  visit_text now Broken old new before after (inr due) =
      same_out old.session.out new.session.out (ap (λ (s : SessionState). s.out) due.does.0.session)
  visit_text now Refused old new before after (inr due) =
      same_out old.session.out new.session.out (elim due.does [
        | inl turn ↦ ap (λ (s : SessionState). s.out) turn.session
        | inr piece ↦ ap (λ (s : SessionState). s.out) piece.0.session
      ])

  visits_text : (turns : List (TakenTurn relations)) (old new : GuestState) → (visits : Visits relations turns old new)
      → bytes_taken relations visits ++ new.session.out ≡ old.session.out ++ texts relations turns
  visits_text turns old new nothing = sym (append-nil old.session.out)
  visits_text turns old new (visit {turns = earlier} {old = mid} {before = before} {after = after} now answer visits visited) =
      let taken = bytes_taken relations visits in
      let part = part_of relations now answer mid new before after visited in
      let more = turns_of relations now answer mid new before after visited in
      append_assoc taken part new.session.out
      ∙ ap (λ l. taken ++ l) (visit_text now answer mid new before after visited)
      ∙ sym (append_assoc taken mid.session.out (texts relations more))
      ∙ ap (λ l. l ++ texts relations more) (visits_text earlier old mid visits)
      ∙ append_assoc old.session.out (texts relations earlier) (texts relations more)
      ∙ ap (λ l. old.session.out ++ l) (sym (texts_append relations earlier more))

  -- what the link shows grows by what one visit read, and by what it wrote
  visit_grows : (now : ℕ) (answer : Visit) (old new : GuestState) (before after : S)
      → (visited : Visited relations now answer old new before after)
      → Grows old.link new.link (piece_of relations now answer old new before after visited) (part_of relations now answer old new before after visited)
  visit_grows now answer old new before after (inl ended) = stays old.link _ new.link (ap (λ (g : GuestState). g.link) ended.guest) refl refl
  visit_grows now Wrote old new before after (inr due) =
      let is = due.does.0.link in (ap (λ (l : LinkState). l.given) is ∙ sym (grown_nothing old.link.given), ap (λ (l : LinkState). l.taken) is)
  visit_grows now Turned old new before after (inr due) = stays old.link _ new.link due.does.link refl refl
  visit_grows now Read old new before after (inr due) =
      let is = due.does.0.link in (ap (λ (l : LinkState). l.given) is, ap (λ (l : LinkState). l.taken) is ∙ sym (grown_nothing old.link.taken))
  visit_grows now Later old new before after (inr due) = stays old.link _ new.link due.does.0.link refl refl
  visit_grows now Served old new before after (inr due) = elim due.does.0.over [
    | inl closed_before ↦ stays old.link _ new.link closed_before.1 refl refl
    | inr waits ↦ stays old.link _ new.link waits.1 refl refl
  ]
  visit_grows now Broken old new before after (inr due) = stays old.link _ new.link due.does.0.link refl refl
  visit_grows now Refused old new before after (inr due) = elim due.does [
    | inl turn ↦ stays old.link _ new.link turn.link refl refl
    | inr piece ↦ stays old.link _ new.link piece.0.link refl refl
  ]

  visits_grow : (turns : List (TakenTurn relations)) (old new : GuestState) → (visits : Visits relations turns old new)
      → Grows old.link new.link (bytes_given relations visits) (bytes_taken relations visits)
  visits_grow turns old new nothing = (sym (grown_nothing old.link.given), sym (grown_nothing old.link.taken))
  visits_grow turns old new (visit {turns = earlier} {old = mid} {before = before} {after = after} now answer visits visited) =
      let piece = piece_of relations now answer mid new before after visited in
      let part = part_of relations now answer mid new before after visited in
      let one = visit_grows now answer mid new before after visited in
      let all = visits_grow earlier old mid visits in (
        one.0 ∙ ap (λ known. grown known piece) all.0 ∙ grown_twice old.link.given (bytes_given relations visits) piece,
        one.1 ∙ ap (λ known. grown known part) all.1 ∙ grown_twice old.link.taken (bytes_taken relations visits) part,
      )

  pub visits_given : (turns : List (TakenTurn relations)) (old new : GuestState) → (visits : Visits relations turns old new)
      → new.link.given ≡ grown old.link.given (bytes_given relations visits)
  visits_given turns old new visits = (visits_grow turns old new visits).0

  pub visits_taken : (turns : List (TakenTurn relations)) (old new : GuestState) → (visits : Visits relations turns old new)
      → new.link.taken ≡ grown old.link.taken (bytes_taken relations visits)
  visits_taken turns old new visits = (visits_grow turns old new visits).1

  pub visits_first : (law : OneSpelling) (turns : List (TakenTurn relations)) (greatest : ℕ) (link : LinkState)
      (new : GuestState) (units : List ProtocolUnit) → (visits : Visits relations turns (welcomed greatest link) new)
      → AreUnits greatest 0 (bytes_given relations visits) units
      → AnswerFirst relations units turns (bytes_taken relations visits ++ new.session.out)
  visits_first law taken greatest link new units visits are =
      let went = visits_went greatest link taken new visits in
      let front = run_takes_first any_store at_any_time law greatest (bytes_given relations visits) units (map (turn_of relations) taken)
      (with_written (bytes_taken relations visits) went.last) tt tt are went.run in
      record { later = front.0; first = front.1; told = visits_text taken (welcomed greatest link) new visits }

  pub visits_all : (law : OneSpelling) (turns : List (TakenTurn relations)) (greatest : ℕ) (link : LinkState)
      (new : GuestState) (units : List ProtocolUnit) → (visits : Visits relations turns (welcomed greatest link) new)
      → AreUnits greatest 0 (bytes_given relations visits) units → new.last ≡ Some Served
      → AnswerAll relations units turns (bytes_taken relations visits)
  visits_all law taken greatest link new units visits are served =
      let went = visits_went greatest link taken new visits in
      let written : new.session.out ≡ [] = served_written relations taken greatest link new visits served in
      record {
        all = run_takes_all any_store at_any_time law greatest (bytes_given relations visits) units (map (turn_of relations) taken)
            (with_written (bytes_taken relations visits) went.last) tt tt are went.run (went.served served);
        told = sym (append-nil (bytes_taken relations visits)) ∙ ap (λ l. bytes_taken relations visits ++ l) (sym written)
            ∙ visits_text taken (welcomed greatest link) new visits;
      }
