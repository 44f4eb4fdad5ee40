-- The life of one guest: its visits, its turns, and their calls.
use Rattle.std.proofs.Common.{◌≡◌, inl, inr, ℕ, List, [], ◌∷◌, ◌++◌, Some, refl, sym, ap, ◌∙◌, subst, append-nil, IsTrue}
use Rattle.std.proofs.lemmas.Bool.{both_ways}
use Rattle.mc_protocol.specs.declared.step.KeyStep.{KeyStep}
use Rattle.mc_protocol.specs.declared.reply.Reply.{Reply}
use Rattle.mc_session.specs.Turns.{SessionState}
use Rattle.mc_session.proofs.TurnLemmas.{OneSpelling}
use Rattle.mc_shared.specs.Asking.{AskingState}
use Rattle.mc_shared.specs.History.{Stepped, start_of}
use Rattle.mc_guests.specs.Links.{LinkState}
use Rattle.mc_guests.specs.Guests.{GuestState, welcomed, has_ended}
use Rattle.mc_guests.specs.Asks.{MayAsk, NamesKey, LosesLink, StaysOrLosesLink}
use Rattle.mc_guests.specs.Visits.{Visited}
use Rattle.mc_guests.specs.Telling.{TakenTurn, Visits, nothing, visit, turns_of, bytes_taken, AnswerFirst}
use Rattle.mc_guests.specs.declared.guest.Visit.{Visit}
use Rattle.mc_guests.specs.declared.guest.Visit.TheVariants.{Wrote, Turned, Read, Later, Served, Broken, Refused}
use Rattle.mc_guests.proofs.AnswerLemmas.{visits_first, visits_all, visits_given, visits_taken}
use Rattle.mc_workers.specs.Tending.{GoesFurther}
use Rattle.mc_workers.specs.Rounds.{as_caller}
use Rattle.mc_workers.proofs.WorkLemmas.{does_keep, goes_none, goes_both, goes_once, goes_same}
use Rattle.mc_worker_laws.specs.Traces.{AreAmong, IsAnswered}
use Rattle.mc_worker_laws.proofs.Lives.{Lives, unborn, others, measured, visited, lost}

-- one that lost its link keeps what it gave and took, and its output
given_of_gone : (last gone : GuestState) → StaysOrLosesLink last gone → gone.link.given ≡ last.link.given
given_of_gone last gone (inl same) = ap (λ (g : GuestState). g.link.given) same
given_of_gone last gone (inr loses) = ap (λ (l : LinkState). l.given) loses.link

taken_of_gone : (last gone : GuestState) → StaysOrLosesLink last gone → gone.link.taken ≡ last.link.taken
taken_of_gone last gone (inl same) = ap (λ (g : GuestState). g.link.taken) same
taken_of_gone last gone (inr loses) = ap (λ (l : LinkState). l.taken) loses.link

out_of_gone : (last gone : GuestState) → StaysOrLosesLink last gone → gone.session.out ≡ last.session.out
out_of_gone last gone (inl same) = ap (λ (g : GuestState). g.session.out) same
out_of_gone last gone (inr loses) = ap (λ (s : SessionState). s.out) loses.session

module _ {K : Type 0} (hash_of : K → List ℕ → ℕ) (may_give : ℕ → Type 0) where
  -- a step is a further call
  pub step_goes : (now : ℕ) → may_give now → (a : AskingState K) (step : KeyStep) (reply : Reply) (b : AskingState K)
      → (as_caller hash_of).took a step now reply b → GoesFurther may_give a b
  step_goes now gives a step reply b took = goes_once may_give (start_of hash_of a.began) (Stepped step now reply) a b gives took

  pub same_goes : (a b : AskingState K) → (as_caller hash_of).same a b → GoesFurther may_give a b
  same_goes a b e = goes_same may_give a b e

  -- a measuring read is a further call, or none
  pub ask_goes : (now : ℕ) → may_give now → (names : List ℕ → Type 0) (a b : AskingState K) → MayAsk (as_caller hash_of) now names a b → GoesFurther may_give a b
  ask_goes now gives names a b (inl e) = goes_same may_give a b e
  ask_goes now gives names a b (inr (inl e)) = goes_same may_give a b e
  ask_goes now gives names a b (inr (inr r)) = step_goes now gives a _ r.reply b r.took_it

  pub visit_goes : (now : ℕ) → may_give now → (answer : Visit) (old new : GuestState) (a b : AskingState K) → Visited (as_caller hash_of) now answer old new a b → GoesFurther may_give a b
  visit_goes now gives answer old new a b (inl ended) = goes_same may_give a b ended.store
  visit_goes now gives answer old new a b (inr due) =
      does_keep (as_caller hash_of) now (GoesFurther may_give) (goes_none may_give) same_goes (step_goes now gives) answer old new a b due.does

  -- ---- the calls of turns, among those of the caller

  among_more : (begin mid end : AskingState K) (turns : List (TakenTurn (as_caller hash_of))) → AreAmong hash_of may_give begin turns mid → GoesFurther may_give mid end
      → AreAmong hash_of may_give begin turns end
  among_more begin mid end [] goes more = goes_both may_give begin mid end goes more
  among_more begin mid end (turn ∷ turns) (gives, goes, own, rest) more = (gives, goes, own, among_more turn.after mid end turns rest more)

  among_turn : (begin mid end : AskingState K) (turns : List (TakenTurn (as_caller hash_of))) (turn : TakenTurn (as_caller hash_of)) → may_give turn.now
      → AreAmong hash_of may_give begin turns mid → turn.before ≡ mid → turn.after ≡ end → GoesFurther may_give mid end → AreAmong hash_of may_give begin (turns ++ turn ∷ []) end
  among_turn begin mid end [] turn gives goes first last own = (
    gives,
    subst (GoesFurther may_give begin) (sym first) goes,
    subst (λ (s : AskingState K). GoesFurther may_give s turn.after) (sym first) (subst (GoesFurther may_give mid) (sym last) own),
    subst (GoesFurther may_give turn.after) last (goes_none may_give turn.after),
  )
  among_turn begin mid end (one ∷ turns) turn gives (given, goes, taken, rest) first last own =
      (given, goes, taken, among_turn one.after mid end turns turn gives rest first last own)

  among_visit : (begin before after : AskingState K) (turns : List (TakenTurn (as_caller hash_of))) (now : ℕ) (answer : Visit) (old new : GuestState) → may_give now
      → AreAmong hash_of may_give begin turns before → (v : Visited (as_caller hash_of) now answer old new before after)
      → AreAmong hash_of may_give begin (turns ++ turns_of (as_caller hash_of) now answer old new before after v) after
  among_visit begin before after turns now answer old new gives front v = by_answer answer v
    where
      none : GoesFurther may_give before after → AreAmong hash_of may_give begin (turns ++ []) after
      none goes = subst (λ (l : List (TakenTurn (as_caller hash_of))). AreAmong hash_of may_give begin l after) (sym (append-nil turns)) (among_more begin before after turns front goes)

      by_answer : (answer : Visit) → (v : Visited (as_caller hash_of) now answer old new before after)
          → AreAmong hash_of may_give begin (turns ++ turns_of (as_caller hash_of) now answer old new before after v) after
      by_answer answer (inl ended) = none (goes_same may_give before after ended.store)
      by_answer Wrote (inr due) = none (visit_goes now gives Wrote old new before after (inr due))
      by_answer Turned (inr due) = among_turn begin before after turns _ gives front refl refl (visit_goes now gives Turned old new before after (inr due))
      by_answer Read (inr due) = none (visit_goes now gives Read old new before after (inr due))
      by_answer Later (inr due) = none (visit_goes now gives Later old new before after (inr due))
      by_answer Served (inr due) = none (visit_goes now gives Served old new before after (inr due))
      by_answer Broken (inr due) = none (visit_goes now gives Broken old new before after (inr due))
      by_answer Refused (inr due) = none (visit_goes now gives Refused old new before after (inr due))

  -- the calls of a guest's turns are among those of its caller
  pub lives_among : (begin : AskingState K) (first : GuestState) (turns : List (TakenTurn (as_caller hash_of))) (guest : GuestState) (caller : AskingState K)
      → Lives hash_of may_give begin first turns guest caller → AreAmong hash_of may_give begin turns caller
  lives_among begin first turns guest caller unborn = goes_none may_give begin
  lives_among begin first turns guest caller (others {before = before} life goes) = among_more begin before caller turns (lives_among begin first turns guest before life) goes
  lives_among begin first turns guest caller (measured {before = before} {now = now} life gives asks) =
      among_more begin before caller turns (lives_among begin first turns guest before life) (ask_goes now gives (NamesKey guest.session) before caller asks)
  lives_among begin first all guest caller (visited {turns = turns} {old = old} {before = before} {now = now} {answer = answer} life gives v) =
      among_visit begin before caller turns now answer old guest gives (lives_among begin first turns old before life) v
  lives_among begin first turns guest caller (lost {old = old} life loses) = lives_among begin first turns old caller life

  -- ---- its visits

  pub record Seen (first : GuestState) (turns : List (TakenTurn (as_caller hash_of))) (guest : GuestState) : Type 0 where
    pub last : GuestState
    pub visits : Visits (as_caller hash_of) turns first last
    pub stays : StaysOrLosesLink last guest

  seen_visit : (first old new : GuestState) (turns : List (TakenTurn (as_caller hash_of))) (now : ℕ) (answer : Visit) (before after : AskingState K) → Seen first turns old
      → (v : Visited (as_caller hash_of) now answer old new before after) → Seen first (turns ++ turns_of (as_caller hash_of) now answer old new before after v) new
  seen_visit first old new turns now answer before after seen v = elim seen.stays [
    | inl same ↦ record {
      last = new;
      visits = visit now answer (subst (Visits (as_caller hash_of) turns first) (sym same) seen.visits) v;
      stays = inl refl;
    }
    | inr loses ↦ lost_one loses v
  ]
    where
      lost_one : LosesLink seen.last old → (v : Visited (as_caller hash_of) now answer old new before after) → Seen first (turns ++ turns_of (as_caller hash_of) now answer old new before after v) new
      lost_one loses (inl ended) = record {
        last = seen.last;
        visits = subst (λ (l : List (TakenTurn (as_caller hash_of))). Visits (as_caller hash_of) l first seen.last) (sym (append-nil turns)) seen.visits;
        stays = inr (subst (LosesLink seen.last) (sym ended.guest) loses);
      }
      lost_one loses (inr due) = absurd (both_ways (has_ended old.last) due.goes_on (ap has_ended loses.last))

  pub lives_seen : (begin : AskingState K) (first : GuestState) (turns : List (TakenTurn (as_caller hash_of))) (guest : GuestState) (caller : AskingState K)
      → Lives hash_of may_give begin first turns guest caller → Seen first turns guest
  lives_seen begin first turns guest caller unborn = record { last = first; visits = nothing; stays = inl refl }
  lives_seen begin first turns guest caller (others {before = before} life goes) = lives_seen begin first turns guest before life
  lives_seen begin first turns guest caller (measured {before = before} life gives asks) = lives_seen begin first turns guest before life
  lives_seen begin first all guest caller (visited {turns = turns} {old = old} {before = before} {now = now} {answer = answer} life gives v) =
      seen_visit first old guest turns now answer before caller (lives_seen begin first turns old before life) v
  lives_seen begin first turns guest caller (lost {old = old} life loses) = loses_one (lives_seen begin first turns old caller life)
    where
      loses_one : Seen first turns old → Seen first turns guest
      loses_one seen = elim seen.stays [
        | inl same ↦ record { last = seen.last; visits = seen.visits; stays = inr (subst (λ (g : GuestState). LosesLink g guest) same loses) }
        | inr before ↦ absurd (both_ways (has_ended old.last) loses.goes_on (ap has_ended before.last))
      ]

  -- a guest that has ended is answered
  pub is_answered : (law : OneSpelling) (greatest : ℕ) (link : LinkState) (begin end : AskingState K) (turns : List (TakenTurn (as_caller hash_of))) (gone : GuestState)
      → Lives hash_of may_give begin (welcomed greatest link) turns gone end → IsTrue (has_ended gone.last) → IsAnswered hash_of may_give turns greatest link gone begin end
  is_answered law greatest link begin end turns gone life ended =
      let seen = lives_seen begin (welcomed greatest link) turns gone end life in record {
        last = seen.last;
        visits = seen.visits;
        stays = seen.stays;
        given = given_of_gone seen.last gone seen.stays ∙ visits_given (as_caller hash_of) turns (welcomed greatest link) seen.last seen.visits;
        taken = taken_of_gone seen.last gone seen.stays ∙ visits_taken (as_caller hash_of) turns (welcomed greatest link) seen.last seen.visits;
        ended = ended;
        answers = λ units are. subst (λ (out : List ℕ). AnswerFirst (as_caller hash_of) units turns (bytes_taken (as_caller hash_of) seen.visits ++ out))
            (sym (out_of_gone seen.last gone seen.stays)) (visits_first (as_caller hash_of) law turns greatest link seen.last units seen.visits are);
        all = λ units are served. visits_all (as_caller hash_of) law turns greatest link seen.last units seen.visits are (elim seen.stays [
          | inl same ↦ sym (ap (λ (g : GuestState). g.last) same) ∙ served
          | inr loses ↦ absurd (let no : Some Broken ≡ Some Served = sym loses.last ∙ served in cc)
        ]);
        order = lives_among begin (welcomed greatest link) turns gone end life;
      }
