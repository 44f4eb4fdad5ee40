-- What a server has served, whose callers met again.
use Rattle.std.proofs.Common.{◌≡◌, ◌++◌, ℕ, List, [], Result, Ok, OnOk, arith, sym, ap, subst, ◌∙◌, append-nil}
use Rattle.mc_shared.specs.Shown.{CallerState}
use Rattle.mc_shared.specs.History.{Name}
use Rattle.mc_shared.specs.Past.{Past, spent, start, Whole}
use Rattle.mc_options.specs.declared.options.Options.{Options}
use Rattle.mc_run.specs.Clients.{ClientState, caller_of}
use Rattle.mc_run.specs.Meetings.{Each, IsJoined, AllBut, Meet}
use Rattle.mc_run.specs.Plans.{ArePlansOf}
use Rattle.mc_run.specs.Served.{IsNewStore, HasServed}
use Rattle.mc_run.specs.declared.plan.WorkerPlan.{WorkerPlan}

-- a past from which no caller is missing is whole
whole_of : (p : Past) → AllBut [] p → Whole p
whole_of p all = (all.first, λ d some. let held = all.others d some in omega (arith, held))

-- the first caller alone is a whole past
first_alone : AllBut [] (start [] spent)
first_alone = record { first = omega arith; others = λ d some. omega (arith, some) }

-- if all threads were started, no caller is missing
pub has_served : {E : Type 0} (options : Options) (may_give : ℕ → Type 0) (plans : List WorkerPlan) (first : ClientState) (back : CallerState × Result (Unit {0}) E)
    → IsNewStore options first.began → first.past ≡ start [] spent → ArePlansOf options plans → Meet may_give plans first.began (caller_of first) back → back.1 ≡ Ok tt → HasServed options may_give
has_served {E} options may_give plans first back new begins are meet ok =
    let Met : Result (Unit {0}) E → Type 0 = λ r. OnOk r ((meet.rest ≡ []) × ((names : List Name) → AllBut names first.past → AllBut names back.0.past)) in
    let (none, owed) = subst Met ok meet.all in
    let fronts : meet.front ≡ plans = sym (append-nil meet.front) ∙ (ap (λ (l : List WorkerPlan). meet.front ++ l) (sym none) ∙ meet.plans_are) in record {
      began = first.began;
      new = new;
      workers = plans;
      plans = are;
      past = back.0.past;
      agrees = meet.agrees;
      whole = whole_of back.0.past (owed [] (subst (λ (p : Past). AllBut [] p) (sym begins) first_alone));
      each = subst (λ (l : List WorkerPlan). Each (IsJoined may_give first.began back.0.past) l) fronts meet.each;
    }
