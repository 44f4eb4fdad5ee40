-- How the callers of a server's threads meet again.
use Rattle.std.specs.Prelude.{◌≡◌, ◌≤◌, ◌+◌, ℕ, List, [], ◌∷◌, ◌++◌, OnOk, Result}
use Rattle.std.specs.declared.thread.PromisedHandle.{PromisedHandle}
use Rattle.mc_hop.specs.declared.hash.Fnv.{Fnv}
use Rattle.mc_shelf.specs.Stores.{StoreState}
use Rattle.mc_shared.specs.Shown.{CallerState}
use Rattle.mc_shared.specs.History.{Name, start_of}
use Rattle.mc_shared.specs.Past.{Past, start, callers, makes, times, name_of}
use Rattle.mc_shared.specs.Steps.{Agrees}
use Rattle.mc_laws.specs.Laws.{PastIsWithin}
use Rattle.mc_guests.specs.declared.guests.WorkEnd.{WorkEnd}
use Rattle.mc_workers.specs.Tending.{Further}
use Rattle.mc_workers.specs.Rounds.{WorksToEnd}
use Rattle.mc_host.specs.Clocks.{moments}
use Rattle.mc_run.specs.Runs.{hash_of}
use Rattle.mc_run.specs.Clients.{ClientState, maker, newcomer}
use Rattle.mc_run.specs.declared.plan.WorkerPlan.{WorkerPlan}
use Rattle.mc_run.specs.declared.crew.WorkerPromise.{WorkerPromise}
use Rattle.mc_run.specs.declared.crew.Crew.{Crew}

-- each element has the property
abbrev pub Each : {X : Type 0} → (X → Type 0) → List X → Type 0
Each P [] = Unit {0}
Each P (x ∷ xs) = P x × Each P xs

-- The worker of a plan served links with this caller until none came any more, and gave it back
-- with what it counted. The system's clock may give these moments.
pub record HasWorked (may_give : ℕ → Type 0) (plan : WorkerPlan) (began : StoreState Fnv) (caller : CallerState)
    (back : CallerState × WorkEnd) : Type 0 where
  pub table : back.0.table ≡ caller.table
  pub further : Further (moments plan.now may_give) caller.past back.0.past
  pub works : WorksToEnd hash_of (moments plan.now may_give) plan.first plan.held began caller back

-- The worker of a plan served links, and its caller was joined into this past.
pub record IsJoined (may_give : ℕ → Type 0) (began : StoreState Fnv) (past : Past) (plan : WorkerPlan) : Type 0
  where
    pub caller : CallerState
    pub back : CallerState × WorkEnd
    pub worked : HasWorked may_give plan began caller back
    pub within : PastIsWithin back.0.past past

-- A past holds the first caller. Each caller that its callers made it holds, too, but for these.
pub record AllBut (names : List Name) (p : Past) : Type 0 where
  pub first : 1 ≤ times [] (callers p)
  pub others : (d : Name) → 1 ≤ times d (makes p) → 1 ≤ times d (callers p) + times d names

-- a client of the same store
pub record SameStore (old new : ClientState) : Type 0 where
  pub began : new.began ≡ old.began
  pub table : new.table ≡ old.table

-- a worker's thread
abbrev pub WorkerThread : Type 0 → Type 0
WorkerThread S = PromisedHandle (CallerState × WorkEnd) (WorkerPromise S)

module _ {S : Type 0} where
  -- the plans of workers' threads, and the names of the callers that they have
  abbrev pub plans_of : List (WorkerThread S) → List WorkerPlan
  plans_of [] = []
  plans_of (thread ∷ threads) = thread.promise.plan.value ∷ plans_of threads

  abbrev pub names_of : List (WorkerThread S) → List Name
  names_of [] = []
  names_of (thread ∷ threads) = name_of thread.promise.caller.value.past ∷ names_of threads

  -- a thread has a caller of the client's store that was made for it, and this clock of the system
  pub record IsMember (system : S) (client : ClientState) (thread : WorkerThread S) : Type 0 where
    pub clock : thread.promise.system.value ≡ system
    pub began : thread.promise.shared.value.began ≡ client.began
    pub table : thread.promise.caller.value.table ≡ client.table
    pub name : Name
    pub seen : Past
    pub past : thread.promise.caller.value.past ≡ start name seen

  -- A thread was started for the plan, with a caller that the client made.
  pub record StartsOne (system : S) (plan : WorkerPlan) (old new : Crew S) : Type 0 where
    pub thread : WorkerThread S
    pub client : new.client ≡ maker old.client
    pub agrees : Agrees (start_of hash_of new.client.began) new.client.past
    pub workers : new.workers.items ≡ old.workers.items ++ thread ∷ []
    pub plan_is : thread.promise.plan.value ≡ plan
    pub clock : thread.promise.system.value ≡ system
    pub began : thread.promise.shared.value.began ≡ old.client.began
    pub caller : thread.promise.caller.value ≡ newcomer old.client

  -- none was, or it can't be joined
  pub record StartsNone (old new : Crew S) : Type 0 where
    pub client : new.client ≡ maker old.client
    pub agrees : Agrees (start_of hash_of new.client.began) new.client.past
    pub workers : new.workers.items ≡ old.workers.items

  -- threads were started for the first of these plans, by a client that was so, and not for the rest
  pub record IsCrew (system : S) (plans rest : List WorkerPlan) (client : ClientState)
      (crew : Crew S) : Type 0 where
    pub store : SameStore client crew.client
    pub agrees : Agrees (start_of hash_of crew.client.began) crew.client.past
    pub each : Each (IsMember system client) crew.workers.items
    pub plans_are : plans_of crew.workers.items ++ rest ≡ plans

  -- each caller that was made for them is still to be joined
  abbrev pub IsOwed : (client : ClientState) → Crew S → Type 0
  IsOwed client crew = (names : List Name) → AllBut names client.past
      → AllBut (names_of crew.workers.items ++ names) crew.client.past

  -- the threads of these plans ended, and their callers were joined into the client
  pub record JoinsThese (may_give : ℕ → Type 0) (threads : List (WorkerThread S))
      (old new : ClientState) : Type 0 where
    pub store : SameStore old new
    pub agrees : Agrees (start_of hash_of new.began) new.past
    pub each : Each (IsJoined may_give old.began new.past) (plans_of threads)
    pub owed : (names : List Name) → AllBut (names_of threads ++ names) old.past
        → AllBut names new.past

-- A server's workers had these plans. The callers of the first of them were joined into the one
-- that came back. If each thread was started, those of all were, and then no caller is missing that
-- wasn't before: a past that was whole is whole.
pub record Meet {E : Type 0} (may_give : ℕ → Type 0) (plans : List WorkerPlan)
    (began : StoreState Fnv) (old : CallerState) (back : CallerState × Result (Unit {0}) E)
    : Type 0 where
  pub table : back.0.table ≡ old.table
  pub agrees : Agrees (start_of hash_of began) back.0.past
  pub front : List WorkerPlan
  pub rest : List WorkerPlan
  pub plans_are : front ++ rest ≡ plans
  pub each : Each (IsJoined may_give began back.0.past) front
  pub all : OnOk back.1 ((rest ≡ [])
      × ((names : List Name) → AllBut names old.past → AllBut names back.0.past))
