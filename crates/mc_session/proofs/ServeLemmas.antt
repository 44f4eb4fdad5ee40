-- What a run of a session is.
use Rattle.std.proofs.Common.{◌≡◌, ℕ, ◌^◌, List, [], sym, subst, Option, Result, Ok, Err, OnOk}
use Rattle.mc_protocol.specs.declared.step.Steps.{Ghosts as Relations}
use Rattle.mc_session.specs.Turns.{SessionState, opened}
use Rattle.mc_session.specs.Endpoints.{in_session}
use Rattle.mc_session.specs.Exchanges.{scene, Wrote, HasEnded, Exchanges, FallsShort}
use Rattle.mc_session.specs.Serving.{Serves, ServesAll, ServesUntilRefused, falls_short}
use Rattle.mc_session.proofs.ExchangeLemmas.{then_wrote}
use Rattle.mc_session.proofs.PieceLemmas.{was_front}

-- A run: the session before it, the store before and after it, and the reader's and the writer's bytes.
module _ {S : Type 0} {relations : Relations S} {may_give : ℕ → Type 0} {greatest : ℕ} {first last : SessionState} {before after : S} {r0 r1 w0 w1 : Option (List ℕ)} where
  abbrev pub serves : first ≡ opened greatest → Exchanges (in_session relations) may_give (2 ^ 40) (scene first before r0 w0) (scene last after r1 w1)
      → Serves relations may_give greatest before after r0 r1 w0 w1
  serves is run = record { last = last; run = subst (λ s. Exchanges (in_session relations) may_give (2 ^ 40) (scene s before r0 w0) (scene last after r1 w1)) is run }

  -- what is left at the end was written
  pub serves_all : {mid : SessionState} {between : S} {w : Option (List ℕ)} → first ≡ opened greatest
      → Exchanges (in_session relations) may_give (2 ^ 40) (scene first before r0 w0) (scene mid between r1 w) → HasEnded (in_session relations) mid between r1
      → Wrote (in_session relations) mid between last after w w1 → last.out ≡ [] → ServesAll relations may_give greatest before after r0 r1 w0 w1
  serves_all is run ended wrote written = record {
    serves = serves is (then_wrote wrote run);
    written = written;
    ended = subst (λ (s : SessionState). HasEnded (in_session relations) s after r1) (sym (was_front relations wrote.writes.0 _ wrote.writes.1).1) ended;
  }

  -- until memory ran out
  pub serves_until : first ≡ opened greatest → FallsShort (in_session relations) may_give (scene first before r0 w0) (scene last after r1 w1)
      → ServesUntilRefused relations may_give greatest before after r0 r1 w0 w1
  serves_until is short = falls_short last (subst (λ s. FallsShort (in_session relations) may_give (scene s before r0 w0) (scene last after r1 w1)) is short)

-- what follows from a fact of an outcome
pub on_ok : {T E A B : Type 0} (r : Result T E) → (A → B) → OnOk r A → OnOk r B
on_ok (Ok x) f a = f a
on_ok (Err e) f a = tt
