-- The plans of one worker more, and what all workers hold together.
use Rattle.std.proofs.Common.{◌≡◌, ◌≤◌, ◌*◌, ◌/◌, max, ℕ, List, [], ◌∷◌, ◌++◌, length, Option, Some, None, arith, subst, sym}
use Rattle.std.proofs.Math.Nat.{le-max_left, le_trans, mul-div-le, mul-le-mul_right}
use Rattle.std.specs.List.{All}
use Rattle.std.proofs.lemmas.List.Elements.{All-cons, All-head, All-nil, All-push, All-tail}
use Rattle.std.proofs.lemmas.List.Sums.{sum_by-le}
use Rattle.mc_options.specs.declared.options.Options.{Options}
use Rattle.mc_run.specs.declared.plan.WorkerPlan.{WorkerPlan}
use Rattle.std.specs.Prelude.{IfSome}
use Rattle.mc_telemetry.specs.declared.scrape.MetricsServer.{MetricsServer}
use Rattle.mc_sockets.specs.declared.connection.ConnectionLimit.{ConnectionLimit}
use Rattle.mc_run.specs.declared.plan.OwnTask.{OwnTask}
use Rattle.mc_run.specs.declared.plan.OwnTask.TheVariants.{Accept, AnswerScrapes}
use Rattle.mc_run.specs.Plans.{IsWorkerOf, held_of, held_together, ReportsOf, IsOwnTask, ScrapesBy}

pub one_more : (options : Options) (plans : List WorkerPlan) (plan : WorkerPlan) → All (IsWorkerOf options) plans
    → IsWorkerOf options plan → All (IsWorkerOf options) (plans ++ plan ∷ [])
one_more options plans plan = All-push (IsWorkerOf options) plans plan

-- each holds its part at most
parts : (options : Options) (plans : List WorkerPlan) → All (IsWorkerOf options) plans → All (λ (plan : WorkerPlan). plan.held ≤ held_of options) plans
parts options [] all = All-nil (λ (plan : WorkerPlan). plan.held ≤ held_of options)
parts options (plan ∷ plans) all =
    let first = (All-head (IsWorkerOf options) plan plans all).held in
    All-cons (λ (plan : WorkerPlan). plan.held ≤ held_of options) plan plans (omega (arith, first)) (parts options plans (All-tail (IsWorkerOf options) plan plans all))

-- the parts of a whole
parts_fit : (whole count : ℕ) → count * (whole / max count 1) ≤ whole
parts_fit whole count = le_trans (mul-le-mul_right (whole / max count 1) (le-max_left count 1)) (mul-div-le whole (max count 1))

seven_eighths : (bytes : ℕ) → ((bytes / 8) * 7) ≤ bytes
seven_eighths bytes = omega arith

-- all hold the limit of buffers at most
pub all_fit : (options : Options) (plans : List WorkerPlan) → length plans ≡ options.workers → All (IsWorkerOf options) plans → held_together plans ≤ options.buffers * 1048576
all_fit options plans count each =
    let parts = sum_by-le (λ (plan : WorkerPlan). plan.held) (held_of options) plans (parts options plans each) in
    le_trans (subst (λ (n : ℕ). held_together plans ≤ n * held_of options) count parts)
    (le_trans (parts_fit (((options.buffers * 1048576) / 8) * 7) options.workers) (seven_eighths (options.buffers * 1048576)))

-- the program's own thread answers scrapes by a server that is by the options
pub scrapes_by : (options : Options) (crowd : ConnectionLimit) (metrics : Option MetricsServer) (own : OwnTask)
    → IfSome metrics (ReportsOf options crowd) → IsOwnTask metrics own → ScrapesBy options crowd own
scrapes_by options crowd None (Accept entrance) reports is = tt
scrapes_by options crowd None (AnswerScrapes server) reports is = absurd is
scrapes_by options crowd (Some metrics) (Accept entrance) reports is = absurd is
scrapes_by options crowd (Some metrics) (AnswerScrapes server) reports is = subst (ReportsOf options crowd) (sym is) reports
