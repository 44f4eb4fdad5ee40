-- Steps that deliver their reply to an `Answer`.
use Rattle.std.specs.Prelude.{◌≡◌, ℕ, List, Option, Result, Ok, Err, OnOk, OnErr, IfSome, Some, None, get_or, slice_get, true}
use Rattle.std.specs.FinMap.{get}
use Rattle.mc_protocol.specs.declared.step.KeyStep.{KeyStep}
use Rattle.mc_protocol.specs.declared.reply.Reply.{Reply}
use Rattle.mc_protocol.specs.declared.reply.Reply.TheVariants.{Miss}
use Rattle.mc_protocol.specs.Commands.{key_of}
use Rattle.mc_protocol.specs.Plain.{Entry, hit_of}
use Rattle.mc_protocol.specs.Laws.{IsOnKey}
use Rattle.mc_protocol.specs.declared.step.StepFault.{StepFault}
use Rattle.mc_protocol.specs.declared.step.StepFault.TheVariants.{NoMemory as OutOfMemory, NumbersSpent as OutOfNumbers}
use Rattle.mc_shelf.specs.States.{ShelfContent}
use Rattle.mc_shelf.specs.Plans.{is_gone, stood}
use Rattle.mc_shared.specs.History.{Beginning}
use Rattle.mc_shared.specs.Past.{Past}
use Rattle.mc_shared.specs.Steps.{Agrees}
use Rattle.mc_shared.specs.Store.{HasCalled, IsSpentAfter, MayFailAfter}
use Rattle.mc_shared.specs.Shown.{CallerState}
use Rattle.mc_protocol.specs.declared.answer.Unanswered.{Unanswered}
use Rattle.mc_protocol.specs.declared.answer.Unanswered.TheVariants.{NoMemory, NumbersSpent, Untold}
use Rattle.mc_shared.specs.declared.telling.Sought.{Sought}
use Rattle.mc_shared.specs.declared.telling.Sought.TheVariants.{Told, Nothing, Deferred}

-- a lent part, if there is one, is the part at a place
abbrev pub IsLentPart : (parts : List (List ℕ)) → (at : ℕ) → Option (List ℕ) → Type 0
IsLentPart parts at lent = IfSome lent (λ part. slice_get parts at ≡ Some part)

-- each lent part is the part at its place
abbrev pub AreLentParts : (parts : List (List ℕ)) → List (Option (List ℕ)) → Type 0
AreLentParts parts lents = (at : ℕ) → IsLentPart parts at (get_or lents at None)

-- a shelf has an item under a step's key that isn't dead
abbrev pub ItemStands : ShelfContent → KeyStep → (now : ℕ) → Type 0
ItemStands shelf step now = (item : Entry) × (stood shelf step now ≡ Some item)

-- The result of searching a read's item in a shelf: it is there and a hit of it was delivered, or
-- the key has none, or a dead one. Nothing is delivered for the last two, and only a dead one is
-- deferred.
abbrev pub IsSought
    : {A : Type 0} → (told : A → Reply → A → Type 0) → ShelfContent → KeyStep → (now : ℕ)
    → (before : A) → Sought → (after : A) → Type 0
IsSought told shelf step now before (Told place) after =
    ItemStands shelf step now × told before (hit_of (stood shelf step now)) after
IsSought told shelf step now before Nothing after =
    (get shelf.items (key_of step) ≡ None) × (after ≡ before)
IsSought told shelf step now before Deferred after =
    (is_gone shelf.cut now (get shelf.items (key_of step)) ≡ true) × (after ≡ before)

-- The result of a read, by that search: it was taken with the hit that was delivered, or as a miss
-- without delivery, or it wasn't taken.
abbrev pub CameOfRead
    : {A : Type 0} → (told : A → Reply → A → Type 0) → Beginning → (old : Past) → KeyStep → (now : ℕ)
    → (before : A) → Sought → (new : Past) → (after : A) → Type 0
CameOfRead told start old step now before (Told place) new after =
    (reply : Reply) × HasCalled start old step now reply new × told before reply after
CameOfRead told start old step now before Nothing new after =
    HasCalled start old step now Miss new × (after ≡ before)
CameOfRead told start old step now before Deferred new after = (new ≡ old) × (after ≡ before)

-- A reply was delivered if its step was taken, or its delivery was refused; otherwise it is returned
-- why the step wasn't taken. The answer is unchanged if nothing was delivered.
pub record IsDelivered {A : Type 0} (told : A → Reply → A → Type 0) (taken : Result Reply StepFault)
    (before : A) (result : Result (Unit {0}) Unanswered) (after : A) : Type 0 where
  pub ok : OnOk result ((reply : Reply) × (taken ≡ Ok reply) × told before reply after)
  pub untold : result ≡ Err Untold → (reply : Reply) × (taken ≡ Ok reply)
  pub spent : result ≡ Err NumbersSpent → taken ≡ Err OutOfNumbers
  pub refused : result ≡ Err NoMemory → taken ≡ Err OutOfMemory
  pub err : OnErr result (after ≡ before)

-- The result of a step that delivers its reply, for a caller. If it was delivered, the past has the
-- step as one more call with that reply. If only the delivery was refused, the past has it with
-- some reply. Otherwise the past is unchanged: memory was refused, or the unique numbers are used
-- up after some legal history. The answer is unchanged if nothing was delivered. A legal history
-- keeps the past in every case.
pub record IsTold {A : Type 0} (told : A → Reply → A → Type 0) (start : Beginning)
    (old : CallerState) (step : KeyStep) (now : ℕ) (before : A)
    (result : Result (Unit {0}) Unanswered) (new : CallerState) (after : A) : Type 0 where
  pub same : (new.table ≡ old.table) × Agrees start new.past
  pub ok : OnOk result
      ((reply : Reply) × HasCalled start old.past step now reply new.past × told before reply after)
  pub untold : result ≡ Err Untold
      → (reply : Reply) × HasCalled start old.past step now reply new.past
  pub spent : result ≡ Err NumbersSpent
      → (new.past ≡ old.past) × IsSpentAfter start old.past step now
  pub refused : result ≡ Err NoMemory
      → (new.past ≡ old.past) × (IsOnKey step → MayFailAfter start old.past step now)
  pub err : OnErr result (after ≡ before)
