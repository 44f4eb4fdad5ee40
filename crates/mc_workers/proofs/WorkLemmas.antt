-- What a round does to the store that it is lent, and to a caller's past.
use Rattle.std.specs.Prelude.{MatchOption, slice_get}
use Rattle.std.proofs.Common.{◌≡◌, inl, inr, ℕ, ◌+◌, Bool, List, Option, Some, None, refl, sym, ap, ◌∙◌, subst}
use Rattle.mc_protocol.specs.Commands.{steps}
use Rattle.mc_protocol.specs.Commands.{Command}
use Rattle.mc_protocol.specs.declared.step.KeyStep.{KeyStep}
use Rattle.mc_protocol.specs.declared.step.KeyStep.TheVariants.{Read as ReadStep}
use Rattle.mc_protocol.specs.declared.step.Steps.{Ghosts as Relations}
use Rattle.mc_protocol.specs.declared.reply.Reply.{Reply}
use Rattle.mc_parse.specs.Units.{ProtocolUnit, Request, Fault, LongLine}
use Rattle.mc_session.specs.Turns.{Answers, AnswersStep}
use Rattle.mc_shared.specs.History.{Beginning, Operation, Purged}
use Rattle.mc_shared.specs.Past.{Past}
use Rattle.mc_shared.specs.Asking.{AskingState, AsksOnce}
use Rattle.mc_workers.specs.Tending.{TidiesInTurn, TidiesNext, moment_of, CallsOnce, Further, GoesFurther}
use Rattle.mc_time.specs.Chains.{Repeats, none_yet, one_more}
use Rattle.mc_guests.specs.Guests.{GuestState}
use Rattle.mc_guests.specs.Visits.{Does, Visited}
use Rattle.mc_guests.specs.Asks.{MayAsk, NamesKey, ComesToOne, MakesRound}
use Rattle.mc_guests.specs.declared.guest.Visit.{Visit}
use Rattle.mc_guests.specs.declared.guest.Visit.TheVariants.{Wrote, Turned, Read, Later, Served, Broken, Refused}

-- What holds of stores that hold the same, and of each step that is taken, holds of a turn and of a
-- visit, and where it holds of two after one another, of a round.
module _ {S : Type 0} (relations : Relations S) (now : ℕ) (Keeps : S → S → Type 0)
    (none : (s : S) → Keeps s s) (alike : (a b : S) → relations.same a b → Keeps a b)
    (one : (a : S) (step : KeyStep) (reply : Reply) (b : S) → relations.took a step now reply b → Keeps a b) where
  stays : (a b : S) → b ≡ a → Keeps a b
  stays a b e = subst (Keeps a) (sym e) (none a)

  step_keeps : (command : Command) (at : ℕ) (step : KeyStep) (a b : S) (text : List ℕ)
      → AnswersStep relations command at step now a b text → Keeps a b
  step_keeps command at step a b text (inl r) = one a step r.0 b r.1
  step_keeps command at step a b text (inr r) = alike a b r.1

  found_keeps : (command : Command) (at : ℕ) (found : Option KeyStep) (a b : S) (text : List ℕ) (Told : Type 0)
      → MatchOption found (Told × (b ≡ a)) (λ step. AnswersStep relations command at step now a b text)
      → Keeps a b
  found_keeps command at None a b text Told h = stays a b h.1
  found_keeps command at (Some step) a b text Told h = step_keeps command at step a b text h

  pub turn_keeps : (unit : ProtocolUnit) (at : ℕ) (a b : S) (text : List ℕ)
      → Answers relations unit at now a b text → Keeps a b
  turn_keeps (Request command) at a b text h =
      found_keeps command at (slice_get (steps command) at) a b text _ h
  turn_keeps (Fault fault) at a b text h = stays a b h.1
  turn_keeps LongLine at a b text h = stays a b h.1

  pub does_keep : (answer : Visit) (old new : GuestState) (a b : S)
      → Does relations now answer old new a b → Keeps a b
  does_keep Wrote old new a b d = stays a b d.1
  does_keep Turned old new a b d =
      turn_keeps d.takes.unit old.session.taken a b d.takes.text d.takes.answers
  does_keep Read old new a b d = stays a b d.1
  does_keep Later old new a b d = stays a b d.1
  does_keep Served old new a b d = stays a b d.1
  does_keep Broken old new a b d = stays a b d.1
  does_keep Refused old new a b (inl r) =
      elim r.store [ inl e ↦ alike a b e | inr d ↦ one a d.step d.reply b d.took_it ]
  does_keep Refused old new a b (inr r) = stays a b r.1

  visit_keeps : (answer : Visit) (old new : GuestState) (a b : S)
      → Visited relations now answer old new a b → Keeps a b
  visit_keeps answer old new a b (inl ended) = stays a b ended.store
  visit_keeps answer old new a b (inr due) = does_keep answer old new a b due.does

  ask_keeps : (names : List ℕ → Type 0) (a b : S) → MayAsk relations now names a b → Keeps a b
  ask_keeps names a b (inl e) = stays a b e
  ask_keeps names a b (inr r) = elim r [ inl e ↦ alike a b e | inr t ↦ one a (ReadStep t.key) t.reply b t.took_it ]

  -- what comes one after another, and each keeps it
  module _ (both : (a b c : S) → Keeps a b → Keeps b c → Keeps a c) where
    one_keeps : (a b : S) → ComesToOne relations now a b → Keeps a b
    one_keeps a b one = elim one.turn [
      | inl visit ↦ both a visit.1.between b (ask_keeps (NamesKey one.old.session) a visit.1.between visit.1.asks)
          (visit_keeps visit.0 one.old one.new visit.1.between b visit.1.visits)
      | inr waits ↦ ask_keeps (NamesKey one.old.session) a b waits.asks
    ]

    all_keep : (count : ℕ) (a b : S) → Repeats (ComesToOne relations now) count a b → Keeps a b
    all_keep total a b none_yet = none a
    all_keep total a c (one_more {count = count} {mid = b} goes one) = both a b c (all_keep count a b goes) (one_keeps b c one)

    pub round_keeps : (a b : S) → MakesRound relations now a b → Keeps a b
    round_keeps a b (count, goes) = all_keep count a b goes

module _ (may_give : ℕ → Type 0) where
  further_by : (p q r : Past) (count : ℕ) → Further may_give p q → Repeats (CallsOnce may_give) count q r → Further may_give p r
  further_by p q r total calls none_yet = calls
  further_by p q r total calls (one_more {count = count} {mid = mid} more one) =
      let before = further_by p q mid count calls more in
      (before.0 + 1, one_more before.1 one)

  pub goes_none : {K : Type 0} (s : AskingState K) → GoesFurther may_give s s
  goes_none s = record { began = refl; table = refl; calls = (0, none_yet) }

  pub goes_both : {K : Type 0} (a b c : AskingState K) → GoesFurther may_give a b → GoesFurther may_give b c → GoesFurther may_give a c
  goes_both a b c f g = record {
    began = g.began ∙ f.began;
    table = g.table ∙ f.table;
    calls = further_by a.past b.past c.past g.calls.0 f.calls g.calls.1;
  }

  pub goes_once : {K : Type 0} (start : Beginning) (what : Operation) (old new : AskingState K)
      → may_give (moment_of what) → AsksOnce start what old new → GoesFurther may_give old new
  goes_once {K} start what old new gives call = record {
    began = ap (λ (s : AskingState K). s.began) call.past;
    table = ap (λ (s : AskingState K). s.table) call.past;
    calls = (1, one_more none_yet (record { what = what; given = gives; past = ap (λ (s : AskingState K). s.past) call.past }));
  }

  pub goes_same : {K : Type 0} (a b : AskingState K) → b ≡ a → GoesFurther may_give a b
  goes_same a b e = subst (GoesFurther may_give a) (sym e) (goes_none a)

  -- purges are further calls
  pub goes_tidied : {K : Type 0} (hash_of : K → List ℕ → ℕ) (now : ℕ) → may_give now
      → (count : ℕ) (old new : ℕ × AskingState K) → Repeats (TidiesNext hash_of now) count old new → GoesFurther may_give old.1 new.1
  goes_tidied hash_of now gives total old new none_yet = goes_none old.1
  goes_tidied hash_of now gives total old new (one_more {count = count} {mid = mid} tidied one) =
      goes_both old.1 mid.1 new.1 (goes_tidied hash_of now gives count old mid tidied) (goes_once _ (Purged mid.0 now) mid.1 new.1 gives one.0)

  -- so are the purges before a round
  pub goes_in_turn : {K : Type 0} (hash_of : K → List ℕ → ℕ) (risen : Bool) (now : ℕ) → may_give now → (turn next : ℕ) (old new : AskingState K)
      → TidiesInTurn hash_of risen now turn next old new → GoesFurther may_give old new
  goes_in_turn hash_of risen now gives turn next old new tidies = goes_tidied hash_of now gives _ (_, old) (next, new) tidies.tidied

-- at that moment
abbrev pub at : ℕ → ℕ → Type 0
at now moment = moment ≡ now

-- what holds of two states holds of those that are the same
pub of_same : {S : Type 0} (Holds : S → S → Type 0) {old before new after : S} → old ≡ before → after ≡ new → Holds old new → Holds before after
of_same {S} Holds {old} {before} {new} {after} first last held = subst (λ (s : S). Holds s after) first (subst (Holds old) (sym last) held)

-- calls at one moment are calls at moments that may be given, where this one is
module _ (may_give : ℕ → Type 0) (now : ℕ) (gives : may_give now) where
  further_at : (p q : Past) (count : ℕ) → Repeats (CallsOnce (at now)) count p q → Repeats (CallsOnce may_give) count p q
  further_at p q total none_yet = none_yet
  further_at p q total (one_more {count = count} {mid = mid} calls one) =
      one_more (further_at p mid count calls) (record { what = one.what; given = subst may_give (sym one.given) gives; past = one.past })

  pub goes_at : {K : Type 0} (a b : AskingState K) → GoesFurther (λ moment. moment ≡ now) a b → GoesFurther may_give a b
  goes_at a b f = record { began = f.began; table = f.table; calls = (f.calls.0, further_at a.past b.past f.calls.0 f.calls.1) }
