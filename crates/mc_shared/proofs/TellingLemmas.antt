-- How a step whose reply is told comes out, by what came of it and what was told.
use Rattle.mc_shared.proofs.Words.{◌≡◌, ℕ, Result, Ok, Err, IfErr, OnErr, subst, Beginning, Past, KeyStep, Reply, CallerState, Agrees, StepFault, NoMemory, NumbersSpent, Refuses, IsAnswered}
use Rattle.mc_shared.proofs.Words.{MayFailAfter, HasCalled, IsTold, IsDelivered}
use Rattle.std.specs.Bool.{⊤}
use Rattle.std.proofs.lemmas.Result.{IfOk-at_ok, on_ok_weaker}
use Rattle.std.specs.Result.{MatchResult}
use Rattle.mc_protocol.specs.declared.answer.Unanswered.{Unanswered}
use Rattle.mc_protocol.specs.declared.answer.Unanswered.TheVariants.{NoMemory as NoRoom, NumbersSpent as NoNumbers, Untold}

no_fault : {A E : Type 0} {P : Type 0} (x : A) (e : E) → Ok x ≡ Err e → P
no_fault {A} {E} x e is = absurd (subst (λ (r : Result A E). MatchResult r (λ _. ⊤) (λ _. ⊥)) is tt)

abbrev IsNoRoom : Unanswered → Type 0
IsNoRoom NoRoom = ⊤
IsNoRoom NoNumbers = ⊥
IsNoRoom Untold = ⊥

no_other : {A P : Type 0} (e : Unanswered) → (IsNoRoom e → ⊥) → ◌≡◌ {A = Result A Unanswered} (Err NoRoom) (Err e) → P
no_other {A} e never is = absurd (never (subst (λ (r : Result A Unanswered). IfErr r IsNoRoom) is tt))

module _ (start : Beginning) (old new : CallerState) (step : KeyStep) (now : ℕ) where
  -- a call with a reply was answered
  pub called_answered : (reply : Reply) → new.table ≡ old.table → HasCalled start old.past step now reply new.past → IsAnswered start old step now Refuses (Ok reply) new
  called_answered reply table called = record { same = (table, called.1); ok = called; err = tt; fault = tt }

  -- what is answered to a caller whose past stayed is answered to it as it was before
  pub answered_from : (mid : CallerState) (taken : Result Reply StepFault) → mid.table ≡ old.table → mid.past ≡ old.past
      → IsAnswered start mid step now Refuses taken new → IsAnswered start old step now Refuses taken new
  answered_from mid taken table past =
      subst (λ (c : CallerState). IsAnswered start c step now Refuses taken new) (λ i. record { table = table i; past = past i })

  -- and so it may fail
  pub fails_from : (mid : CallerState) → mid.past ≡ old.past → MayFailAfter start mid.past step now → MayFailAfter start old.past step now
  fails_from mid past = subst (λ (p : Past). MayFailAfter start p step now) past

  module _ {A : Type 0} (told : A → Reply → A → Type 0) (before after : A) where
    -- a hit was told where it stands, and then taken
    pub hit_told : (result : Unit {0}) → (new.table ≡ old.table) × Agrees start new.past
        → (reply : Reply) × HasCalled start old.past step now reply new.past × told before reply after → IsTold told start old step now before (Ok result) new after
    hit_told result same came = record {
      same = same;
      ok = came;
      untold = no_fault result Untold;
      spent = no_fault result NoNumbers;
      refused = no_fault result NoRoom;
      err = tt;
    }

    -- a hit wasn't told, and so it wasn't taken
    pub hit_refused : (new.table ≡ old.table) × Agrees start new.past → MayFailAfter start old.past step now → (new.past ≡ old.past) × (after ≡ before)
        → IsTold told start old step now before (Err NoRoom) new after
    hit_refused same fails stays = record {
      same = same;
      ok = tt;
      untold = no_other Untold (λ never. never);
      spent = no_other NoNumbers (λ never. never);
      refused = λ _. (stays.0, λ _. fails);
      err = stays.1;
    }

-- a reply was told when its step was taken, or why it wasn't
pub taken_told : {A : Type 0} {told : A → Reply → A → Type 0} {start : Beginning} {old new : CallerState} {step : KeyStep} {now : ℕ} {before mid after : A} {taken : Result Reply StepFault}
    {result : Result (Unit {0}) Unanswered} → mid ≡ before → IsAnswered start old step now Refuses taken new → IsDelivered told taken mid result after
    → IsTold told start old step now before result new after
taken_told {A} {told} {start} {old} {new} {step} {now} {before} {mid} {after} {taken} {result} same answered delivered =
    let called : (reply : Reply) → taken ≡ Ok reply → HasCalled start old.past step now reply new.past =
    λ reply is. IfOk-at_ok (λ r. HasCalled start old.past step now r new.past) is answered.ok in
    let stays : (fault : StepFault) → taken ≡ Err fault → new.past ≡ old.past =
    λ fault is. subst (λ (r : Result Reply StepFault). OnErr r (new.past ≡ old.past)) is answered.err in
    let why : (fault : StepFault) → taken ≡ Err fault → Refuses start old.past step now fault =
    λ fault is. subst (λ (r : Result Reply StepFault). IfErr r (Refuses start old.past step now)) is answered.fault in
    subst (λ (b : A). IsTold told start old step now b result new after) same record {
      same = answered.same;
      ok = on_ok_weaker result (λ t. (t.0, called t.0 t.1, t.2)) delivered.ok;
      untold = λ is. let reply = delivered.untold is in (reply.0, called reply.0 reply.1);
      spent = λ is. let spent = delivered.spent is in (stays NumbersSpent spent, why NumbersSpent spent);
      refused = λ is. let refused = delivered.refused is in (stays NoMemory refused, why NoMemory refused);
      err = delivered.err;
    }
