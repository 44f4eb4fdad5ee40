-- One list of calls that answers all links of a server that has served.
use Rattle.std.specs.Prelude.{ℕ, List, [], ◌∷◌}
use Rattle.mc_protocol.specs.Plain.{Plain}
use Rattle.mc_hop.specs.declared.hash.Fnv.{Fnv}
use Rattle.mc_shelf.specs.Stores.{StoreState}
use Rattle.mc_shared.specs.History.{HistoryEntry, start_of}
use Rattle.mc_shared.specs.Past.{Past}
use Rattle.mc_laws.specs.Together.{AreAnswered}
use Rattle.mc_workers.specs.Tending.{asked_by}
use Rattle.mc_worker_laws.specs.Traces.{all_links}
use Rattle.mc_worker_laws.specs.Calls.{AreAnsweredAmong}
use Rattle.mc_options.specs.declared.options.Options.{Options}
use Rattle.mc_host.specs.Clocks.{moments}
use Rattle.mc_run.specs.Runs.{hash_of}
use Rattle.mc_run.specs.Meetings.{Each, IsJoined}
use Rattle.mc_run.specs.Served.{HasServed}
use Rattle.mc_run.specs.declared.plan.WorkerPlan.{WorkerPlan}

-- each element has the property, by which it has another
abbrev pub EachBy : {X : Type 0} {P : X → Type 0} → ((x : X) → P x → Type 0) → (xs : List X)
    → Each P xs → Type 0
EachBy Q [] each = Unit {0}
EachBy Q (x ∷ xs) each = Q x each.0 × EachBy Q xs each.1

-- the links of a worker are answered within these calls
abbrev pub AnswersWithin : (may_give : ℕ → Type 0) (began : StoreState Fnv) (past : Past)
    → List HistoryEntry → (plan : WorkerPlan) → IsJoined may_give began past plan → Type 0
AnswersWithin may_give began past calls plan joined =
    AreAnsweredAmong hash_of (moments plan.now may_give) calls
    (all_links hash_of (moments plan.now may_give) joined.worked.works)
    (asked_by began joined.caller) joined.worked.works.final.asking

-- The plain machine takes these calls in order, from the empty store, and gives each reply. The
-- links of each worker are answered within them.
pub record AreAllAnswered (options : Options) (may_give : ℕ → Type 0) (served : HasServed options may_give)
    (calls : List HistoryEntry) : Type 0
  where
    pub left : Plain
    pub answers : AreAnswered (start_of hash_of served.began) served.past calls left
    pub links : EachBy (AnswersWithin may_give served.began served.past calls) served.workers
        served.each
