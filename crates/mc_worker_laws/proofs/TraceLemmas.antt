-- The life of one guest in a worker's trace.
use Rattle.std.specs.Prelude.{slice_get, if◌then◌else◌}
use Rattle.std.proofs.Common.{◌≡◌, inl, inr, ℕ, ◌+◌, Bool, List, [], ◌∷◌, ◌++◌, length, Some, refl, sym, ap, ◌∙◌, subst, arith, length-append}
use Rattle.std.proofs.lemmas.Bool.Decides.{eqb_tells}
use Rattle.std.proofs.lemmas.Option.{none-some, same_Some}
use Rattle.mc_shared.specs.Asking.{AskingState}
use Rattle.mc_shared.specs.History.{Purged, start_of}
use Rattle.mc_guests.specs.Links.{LinkState}
use Rattle.mc_guests.specs.Guests.{GuestState, welcomed}
use Rattle.mc_guests.specs.Asks.{NamesKey, AsksAndVisits, IsKeptWaiting}
use Rattle.mc_guests.specs.declared.guest.Visit.{Visit}
use Rattle.mc_guests.specs.Books.{changed}
use Rattle.mc_guests.specs.Telling.{TakenTurn, turns_of}
use Rattle.mc_guests.proofs.SwapLemmas.{changed_here, changed_other}
use Rattle.mc_guests.proofs.JudgeLemmas.{length_changed}
use Rattle.mc_workers.specs.Tending.{GoesFurther}
use Rattle.mc_workers.specs.Rounds.{as_caller}
use Rattle.mc_workers.proofs.WorkLemmas.{goes_none, goes_both, goes_once}
use Rattle.mc_worker_laws.proofs.Lives.{Lives, unborn, others, measured, visited, lost}
use Rattle.mc_worker_laws.specs.Traces.{Trace, begun, purged, comes, visits, waits, turns_in}
use Rattle.mc_worker_laws.proofs.LifeLemmas.{ask_goes, visit_goes}
use Rattle.mc_worker_laws.proofs.RowLemmas.{get_left, get_end, get_last}

module _ {K : Type 0} (hash_of : K → List ℕ → ℕ) (may_give : ℕ → Type 0) (begin : AskingState K) where
  visit_further : (now : ℕ) → may_give now → (answer : Visit) (old new : GuestState) (a b : AskingState K) → AsksAndVisits (as_caller hash_of) now answer old new a b → GoesFurther may_give a b
  visit_further now gives answer old new a b v =
      goes_both may_give a v.between b (ask_goes hash_of may_give now gives (NamesKey old.session) a v.between v.asks) (visit_goes hash_of may_give now gives answer old new v.between b v.visits)

  wait_further : (now : ℕ) → may_give now → (old new : GuestState) (a b : AskingState K) → IsKeptWaiting (as_caller hash_of) now old new a b → GoesFurther may_give a b
  wait_further now gives old new a b w = ask_goes hash_of may_give now gives (NamesKey old.session) a b w.asks

  pub trace_goes : (links : List (ℕ × LinkState)) (guests : List GuestState) (a : AskingState K) → Trace hash_of may_give begin links guests a → GoesFurther may_give begin a
  trace_goes links guests a begun = goes_none may_give begin
  trace_goes links guests a (purged {before = before} shelf now trace gives ask) =
      goes_both may_give begin before a (trace_goes links guests before trace) (goes_once may_give (start_of hash_of before.began) (Purged shelf now) before a gives ask)
  trace_goes all more a (comes {links = links} {guests = guests} greatest link trace) = trace_goes links guests a trace
  trace_goes links later a (visits {guests = guests} {before = before} at now answer old new trace is gives visit) =
      goes_both may_give begin before a (trace_goes links guests before trace) (visit_further now gives answer old new before a visit)
  trace_goes links later a (waits {guests = guests} {before = before} at now old new trace is gives kept) =
      goes_both may_give begin before a (trace_goes links guests before trace) (wait_further now gives old new before a kept)

  pub trace_long : (links : List (ℕ × LinkState)) (guests : List GuestState) (a : AskingState K) → Trace hash_of may_give begin links guests a → length links ≡ length guests
  trace_long links guests a begun = refl
  trace_long links guests a (purged {before = before} shelf now trace gives ask) = trace_long links guests before trace
  trace_long all more a (comes {links = links} {guests = guests} greatest link trace) =
      let e = trace_long links guests a trace in
      let one : List (ℕ × LinkState) = (greatest, link) ∷ [] in
      let x : length (links ++ one) ≡ length links + 1 = length-append links one in
      let y = length-append guests (welcomed greatest link ∷ []) in
      omega (arith, e, x, y)
  trace_long links later a (visits {guests = guests} {before = before} at now answer old new trace is gives visit) =
      let e = trace_long links guests before trace in let f = length_changed (λ (_ : GuestState). new) at guests in omega (arith, e, f)
  trace_long links later a (waits {guests = guests} {before = before} at now old new trace is gives kept) =
      let e = trace_long links guests before trace in let f = length_changed (λ (_ : GuestState). new) at guests in omega (arith, e, f)

  -- a guest and its life
  abbrev pub LivesIn : (first : GuestState) (turns : List (TakenTurn (as_caller hash_of))) (guests : List GuestState) (at : ℕ) (a : AskingState K) → Type 0
  LivesIn first turns guests at a = (guest : GuestState) × (slice_get guests at ≡ Some guest) × Lives hash_of may_give begin first turns guest a

  lives_on : (first : GuestState) (turns : List (TakenTurn (as_caller hash_of))) (guests : List GuestState) (at : ℕ) (a b : AskingState K)
      → LivesIn first turns guests at a → GoesFurther may_give a b → LivesIn first turns guests at b
  lives_on first turns guests at a b l goes = (l.0, l.1, others l.2 goes)

  pub trace_lives : (links : List (ℕ × LinkState)) (guests : List GuestState) (a : AskingState K) → (trace : Trace hash_of may_give begin links guests a)
      → (at : ℕ) (p : ℕ × LinkState) → slice_get links at ≡ Some p → LivesIn (welcomed p.0 p.1) (turns_in hash_of may_give trace at) guests at a
  trace_lives links guests a begun at p is = absurd (none-some p is)
  trace_lives links guests a (purged {before = before} shelf now trace gives ask) at p is =
      lives_on (welcomed p.0 p.1) (turns_in hash_of may_give trace at) guests at before a (trace_lives links guests before trace at p is)
      (goes_once may_give (start_of hash_of before.began) (Purged shelf now) before a gives ask)
  trace_lives all more a (comes {links = links} {guests = guests} greatest link trace) at p is =
      let long = trace_long links guests a trace in
      elim (eqb_tells at (length guests)) [
        | inl hit ↦
            (let e : at ≡ length links = hit.1 ∙ sym long in
            let same = (get_last links (greatest, link) at p is).1 e in
            let q = subst (λ (r : ℕ × LinkState). LivesIn (welcomed r.0 r.1) [] (guests ++ welcomed greatest link ∷ []) at a) (sym same) (
              welcomed greatest link,
              ap (slice_get (guests ++ welcomed greatest link ∷ [])) hit.1 ∙ get_end guests (welcomed greatest link),
              others unborn (trace_goes links guests a trace),
            ) in
            subst (λ (l : List (TakenTurn (as_caller hash_of))). LivesIn (welcomed p.0 p.1) l (guests ++ welcomed greatest link ∷ []) at a)
            (sym (ap (λ (b : Bool). if b then [] else turns_in hash_of may_give trace at) hit.0)) q)
        | inr miss ↦
            (let before = trace_lives links guests a trace at p ((get_last links (greatest, link) at p is).0 (λ e. miss.1 (e ∙ long))) in
            subst (λ (l : List (TakenTurn (as_caller hash_of))). LivesIn (welcomed p.0 p.1) l (guests ++ welcomed greatest link ∷ []) at a)
            (sym (ap (λ (b : Bool). if b then [] else turns_in hash_of may_give trace at) miss.0))
            (before.0, get_left guests (welcomed greatest link ∷ []) at before.0 before.1, before.2))
      ]
  trace_lives links later a (visits {guests = guests} {before = before} other now answer old new trace is_it gives visit) at p is =
      let mine = trace_lives links guests before trace at p is in
      let own = turns_in hash_of may_give trace at in
      let more = turns_of (as_caller hash_of) now answer old new visit.between a visit.visits in
      elim (eqb_tells at other) [
        | inl hit ↦
            (let same : mine.0 ≡ old = same_Some mine.0 old (sym mine.1 ∙ ap (slice_get guests) hit.1 ∙ is_it) in
            subst (λ (l : List (TakenTurn (as_caller hash_of))). LivesIn (welcomed p.0 p.1) l (changed (λ (_ : GuestState). new) other guests) at a)
            (sym (ap (λ (b : Bool). if b then own ++ more else own) hit.0)) (
              new,
              ap (slice_get (changed (λ (_ : GuestState). new) other guests)) hit.1 ∙ changed_here (λ (_ : GuestState). new) other guests old is_it,
              visited (measured (subst (λ (g : GuestState). Lives hash_of may_give begin (welcomed p.0 p.1) own g before) same mine.2) gives visit.asks) gives visit.visits,
            ))
        | inr miss ↦
            subst (λ (l : List (TakenTurn (as_caller hash_of))). LivesIn (welcomed p.0 p.1) l (changed (λ (_ : GuestState). new) other guests) at a)
            (sym (ap (λ (b : Bool). if b then own ++ more else own) miss.0)) (
              mine.0,
              changed_other (λ (_ : GuestState). new) other at guests miss.1 ∙ mine.1,
              others mine.2 (visit_further now gives answer old new before a visit),
            )
      ]
  trace_lives links later a (waits {guests = guests} {before = before} other now old new trace is_it gives kept) at p is =
      let mine = trace_lives links guests before trace at p is in
      let own = turns_in hash_of may_give trace at in
      elim (eqb_tells at other) [
        | inl hit ↦
            (let same : mine.0 ≡ old = same_Some mine.0 old (sym mine.1 ∙ ap (slice_get guests) hit.1 ∙ is_it) in
            let asked = measured (subst (λ (g : GuestState). Lives hash_of may_give begin (welcomed p.0 p.1) own g before) same mine.2) gives kept.asks in (
              new,
              ap (slice_get (changed (λ (_ : GuestState). new) other guests)) hit.1 ∙ changed_here (λ (_ : GuestState). new) other guests old is_it,
              elim kept.stays [
                | inl stays ↦ subst (λ (g : GuestState). Lives hash_of may_give begin (welcomed p.0 p.1) own g a) (sym stays) asked
                | inr lose ↦ lost asked lose
              ],
            ))
        | inr miss ↦ (mine.0, changed_other (λ (_ : GuestState). new) other at guests miss.1 ∙ mine.1, others mine.2 (wait_further now gives old new before a kept))
      ]
