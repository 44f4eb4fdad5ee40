-- What was done with a session took the turns of a run of its joined stream.
use Rattle.std.proofs.Common.{◌≡◌, inl, inr, ℕ, ◌≤◌, List, [], ◌∷◌, ◌++◌, length, take, drop, refl, sym, ap, ◌∙◌, subst, arith, append_assoc}
use Rattle.std.proofs.lemmas.List.{length-append, take-append-drop}
use Rattle.mc_time.specs.Chains.{Repeats, none_yet, one_more}
use Rattle.mc_protocol.specs.declared.step.Steps.{Ghosts as Relations}
use Rattle.mc_parse.specs.Units.{ProtocolUnit}
use Rattle.mc_session.specs.Turns.{SessionState, fed, opened}
use Rattle.mc_session.specs.Endpoints.{in_session}
use Rattle.mc_session.specs.Exchanges.{WritesOnce, Progress, ExchangeStep, turn, piece, write}
use Rattle.mc_session.specs.Serving.{with_written, with_out, RunTurn, Run, with_step, turns_taken}
use Rattle.mc_session.proofs.ChainLemmas as chain
use Rattle.mc_session.proofs.RunLemmas.{run_more, turn_written, fed-fed, fed-with_written}

module _ {S : Type 0} (relations : Relations S) where
  -- what was written was the front of the output, and nothing else changed
  pub was_front : {old : SessionState} {before : S} (fronts : ℕ) (new : SessionState × S × List ℕ) → Repeats (WritesOnce (in_session relations)) fronts (old, before, []) new
      → (old.out ≡ new.2 ++ new.0.out) × (new.0 ≡ with_out new.0.out old) × (new.1 ≡ before)
  was_front fronts new none_yet = (refl, refl, refl)
  was_front {old = old} fronts new (one_more {count = count} {mid = mid} writes once) =
      let (parts, kept, stayed) = was_front count mid writes in let (sends, stays) = once.sends in let n = once.count in
      let left : drop n mid.0.out ≡ new.0.out = sym (ap (λ (s : SessionState). s.out) sends) in
      let split : mid.0.out ≡ take n mid.0.out ++ new.0.out = sym (take-append-drop n mid.0.out) ∙ ap (λ (out : List ℕ). take n mid.0.out ++ out) left in (
        parts ∙ ap (λ (out : List ℕ). mid.2 ++ out) split ∙ sym (append_assoc mid.2 (take n mid.0.out) new.0.out) ∙ ap (λ (written : List ℕ). written ++ new.0.out) (sym once.written),
        sends ∙ ap (with_out (drop n mid.0.out)) kept ∙ ap (λ (out : List ℕ). with_out out old) left,
        stays ∙ stayed,
      )

module _ {S : Type 0} (relations : Relations S) (may_give : ℕ → Type 0) (greatest : ℕ) (before : S) where
  -- turns of a run of these bytes, to this session and this store
  abbrev RunsTo : (read : List ℕ) → List (ProtocolUnit × ℕ) → SessionState → S → Type 0
  RunsTo read taken session store = Run relations may_give (fed (opened greatest) read) before taken session store

  runs_to : (read : List ℕ) (taken : List (ProtocolUnit × ℕ)) {session same : SessionState} {store stays : S} → session ≡ same → stays ≡ store
      → RunsTo read taken session store → RunsTo read taken same stays
  runs_to read taken {session = session} {stays = stays} is is_store run =
      subst (λ s. RunsTo read taken s stays) is (subst (λ t. RunsTo read taken session t) (sym is_store) run)

  -- the run of the longer stream
  longer : (store : S) (read written bytes : List ℕ) (taken : List (ProtocolUnit × ℕ)) (session : SessionState)
      → RunsTo read taken (with_written written session) store → RunsTo (read ++ bytes) taken (with_written written (fed session bytes)) store
  longer store read written bytes taken session run =
      let lifted : Run relations may_give (fed (fed (opened greatest) read) bytes) before taken (fed (with_written written session) bytes) store =
      run_more relations may_give (fed (opened greatest) read) (with_written written session) before store taken bytes run in
      subst (λ s. RunsTo (read ++ bytes) taken s store) (fed-with_written session written bytes)
      (subst (λ s. Run relations may_give s before taken (fed (with_written written session) bytes) store) (fed-fed greatest read bytes) lifted)

  -- what is written of the output stands in front of what is left
  split_out : (session : SessionState) (written part rest : List ℕ) → session.out ≡ part ++ rest → with_written written session ≡ with_written (written ++ part) (with_out rest session)
  split_out session written part rest parts =
      ap (λ out. with_out out session) (ap (λ out. written ++ out) parts ∙ sym (append_assoc written part rest))

  -- what was done took these turns of a run of what was read, at most one a call
  abbrev Took : Progress SessionState S → List (ProtocolUnit × ℕ) → Type 0
  Took done taken = (length taken ≤ done.turns) × RunsTo done.read taken (with_written done.written done.endpoint) done.store

  step_took : (old new : Progress SessionState S) (step : ExchangeStep (in_session relations) may_give old new) (taken : List (ProtocolUnit × ℕ))
      → Took old taken → Took new (with_step relations may_give taken step)
  unfolding turn_written
  step_took old new (turn now gives small (inl takes)) taken (few, run) =
      let this : ProtocolUnit × ℕ = (takes.unit, old.endpoint.taken) in (
        omega (arith, few, length-append taken (this ∷ [])),
        chain.more (RunTurn relations may_give) taken this _ (with_written old.written old.endpoint, old.store) _ run
            (record { now = now; gives = gives; takes = turn_written relations now old.endpoint new.endpoint old.store new.store old.written takes; is = refl }),
      )
  step_took old new (turn now gives small (inr (none, same, stays))) taken (few, run) =
      (omega (arith, few), runs_to old.read taken (ap (with_written old.written) (sym same)) stays run)
  step_took old new (piece bytes short idle all_written (same, stays)) taken (few, run) =
      (few, runs_to new.read taken (ap (with_written old.written) (sym same)) stays (longer old.store old.read old.written bytes taken old.endpoint run))
  step_took old new (write bytes writes) taken (few, run) =
      let (parts, kept, stays) = was_front relations writes.0 _ writes.1 in
      (few, runs_to old.read taken (split_out old.endpoint old.written bytes new.endpoint.out parts ∙ ap (with_written (old.written ++ bytes)) (sym kept)) stays run)

  pub steps_took : (steps : ℕ) (done : Progress SessionState S)
      (exchange : Repeats (ExchangeStep (in_session relations) may_give) steps (record { endpoint = opened greatest; store = before; turns = 0; read = []; written = [] }) done)
      → (length (turns_taken relations may_give exchange) ≤ done.turns)
      × Run relations may_give (fed (opened greatest) done.read) before (turns_taken relations may_give exchange) (with_written done.written done.endpoint) done.store
  steps_took steps done none_yet = (omega arith, refl)
  steps_took steps done (one_more {count = count} {mid = mid} front step) = step_took mid done step (turns_taken relations may_give front) (steps_took count mid front)
