-- One list of calls answers all links of a server that has served.
use Rattle.std.proofs.Common.{ℕ, List, [], ◌∷◌, Option, sym, subst}
use Rattle.std.specs.List.{All}
use Rattle.std.proofs.lemmas.List.Elements.{All-head, All-tail}
use Rattle.mc_protocol.specs.Plain.{Plain}
use Rattle.mc_shared.specs.Shown.{CallerState}
use Rattle.mc_shared.specs.History.{HistoryEntry, start_of}
use Rattle.mc_guests.specs.declared.guests.WorkEnd.{WorkEnd}
use Rattle.mc_laws.specs.Laws.{PastIsWithin}
use Rattle.mc_laws.specs.Together.{AreAnswered}
use Rattle.mc_workers.specs.Rounds.{WorksToEnd}
use Rattle.mc_workers.specs.Tending.{asked_by}
use Rattle.mc_worker_laws.specs.Traces.{all_links}
use Rattle.mc_worker_laws.specs.Calls.{AreAnsweredAmong}
use Rattle.mc_options.specs.declared.options.Options.{Options}
use Rattle.mc_host.specs.Clocks.{moments}
use Rattle.mc_run.specs.Runs.{hash_of}
use Rattle.mc_run.specs.Plans.{IsWorkerOf}
use Rattle.mc_run.specs.Meetings.{Each, IsJoined}
use Rattle.mc_run.specs.Served.{HasServed}
use Rattle.mc_run.specs.Answered.{EachBy, AnswersWithin, AreAllAnswered}
use Rattle.mc_run.specs.declared.plan.WorkerPlan.{WorkerPlan}

module _ (options : Options) (may_give : ℕ → Type 0) (served : HasServed options may_give) where
  -- workers whose clock this is are answered within these calls
  abbrev pub Among : List HistoryEntry → Option ℕ → Type 0
  Among calls now =
      (first share : ℕ) (caller : CallerState) (back : CallerState × WorkEnd) (works : WorksToEnd hash_of (moments now may_give) first share served.began caller back) → PastIsWithin back.0.past served.past
      → AreAnsweredAmong hash_of (moments now may_give) calls (all_links hash_of (moments now may_give) works) (asked_by served.began caller) works.final.asking

  each_answers : (calls : List HistoryEntry) → Among calls options.now → (plans : List WorkerPlan) → All (IsWorkerOf options) plans → (each : Each (IsJoined may_give served.began served.past) plans)
      → EachBy (AnswersWithin may_give served.began served.past calls) plans each
  each_answers calls among [] all each = tt
  each_answers calls among (plan ∷ plans) all each =
      let is = (All-head (IsWorkerOf options) plan plans all).now in
      let joined = each.0 in (
        subst (Among calls) (sym is) among plan.first plan.held joined.caller joined.back joined.worked.works joined.within,
        each_answers calls among plans (All-tail (IsWorkerOf options) plan plans all) each.1,
      )

  pub all_answered : (calls : List HistoryEntry) (left : Plain) → AreAnswered (start_of hash_of served.began) served.past calls left → Among calls options.now → AreAllAnswered options may_give served calls
  all_answered calls left answers among = record {
    left = left;
    answers = answers;
    links = each_answers calls among served.workers served.plans.each served.each;
  }
