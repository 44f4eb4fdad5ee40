-- One list of calls answers the links of all workers.
use Rattle.std.proofs.Common.{◌⊎◌, inl, inr, ℕ, List, [], ◌∷◌, ◌∙◌, ap, subst}
use Rattle.mc_protocol.specs.Plain.{Plain}
use Rattle.mc_session.proofs.TurnLemmas.{OneSpelling}
use Rattle.mc_shelf.specs.Stores.{StoreState}
use Rattle.mc_shared.specs.Shown.{CallerState}
use Rattle.mc_shared.specs.History.{HistoryEntry, start_of, after}
use Rattle.mc_shared.specs.Past.{Past, call}
use Rattle.mc_shared.specs.Steps.{Agrees}
use Rattle.mc_guests.specs.declared.guests.WorkEnd.{WorkEnd}
use Rattle.mc_laws.specs.Laws.{PastIsWithin, Has, StandsInLog}
use Rattle.mc_laws.specs.Together as Together
use Rattle.mc_laws.proofs.TogetherLawLemmas.{log_order}
use Rattle.mc_workers.specs.Tending.{asked_by}
use Rattle.mc_workers.specs.Rounds.{WorksToEnd}
use Rattle.mc_worker_laws.specs.Traces.{all_links}
use Rattle.mc_worker_laws.specs.Calls.{AreAnsweredAmong, with_entries, entries, calls_in}
use Rattle.mc_worker_laws.proofs.CallLemmas.{among_all, trace_became, trace_mine}
use Rattle.mc_worker_laws.proofs.WorkedLemmas.{links_answered}

-- what a past has with further calls it had before, or it is one of them
has_entries : (p : Past) (es : List HistoryEntry) (e : HistoryEntry) → Has (with_entries p es) e → Has p e ⊎ StandsInLog es e
has_entries p [] e had = inl had
has_entries p (d ∷ es) e had = elim (has_entries (call p d) es e had) [
  | inl before ↦ elim before [ inl here ↦ inr ([], es, ap (λ (f : HistoryEntry). f ∷ es) here) | inr long ↦ inl long ]
  | inr later ↦ inr (d ∷ later.0, later.1, ap (λ (l : List HistoryEntry). d ∷ l) later.2)
]

module _ (spelling : OneSpelling) {K : Type 0} (hash_of : K → List ℕ → ℕ) (may_give : ℕ → Type 0) (began : StoreState K) (past : Past) (agrees : Agrees (start_of hash_of began) past) where
  worker_among : (first share : ℕ) (caller : CallerState) (back : CallerState × WorkEnd) (works : WorksToEnd hash_of may_give first share began caller back) → PastIsWithin back.0.past past
      → AreAnsweredAmong hash_of may_give agrees.log (all_links hash_of may_give works) (asked_by began caller) works.final.asking
  worker_among first share caller back works within =
      let links = all_links hash_of may_give works in
      let answered = (links_answered spelling hash_of may_give first share began caller back works).0 in
      let further = trace_became hash_of may_give (asked_by began caller) links answered.guests works.final.asking answered.trace in record {
        answered = answered;
        further = further;
        only = λ e had. has_entries caller.past (entries (calls_in hash_of may_give answered.trace)) e (subst (λ (p : Past). Has p e) further had);
        among = among_all caller.past past (entries (calls_in hash_of may_give answered.trace)) (start_of hash_of began) agrees
            (subst (λ (p : Past). PastIsWithin p past) (works.past ∙ further) within);
        own = trace_mine hash_of may_give (asked_by began caller) links answered.guests works.final.asking answered.trace;
      }

  pub workers_answered : (calls : List HistoryEntry) × (left : Plain) × Together.AreAnswered (start_of hash_of began) past calls left
      × ((first share : ℕ) (caller : CallerState) (back : CallerState × WorkEnd) (works : WorksToEnd hash_of may_give first share began caller back) → PastIsWithin back.0.past past
      → AreAnsweredAmong hash_of may_give calls (all_links hash_of may_give works) (asked_by began caller) works.final.asking)
  workers_answered =
      (agrees.log, after (start_of hash_of began) began.plain agrees.log, log_order (start_of hash_of began) past agrees, worker_among)
