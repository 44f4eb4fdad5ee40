-- What a server is to serve with, by its options, before its first thread starts.
use Rattle.std.specs.Prelude.{◌≡◌, ◌≤◌, ℕ, ◌*◌, ◌/◌, max, List, length, sum_by, All, Option, Some, None, ⊤}
use Rattle.std.specs.Arc.{arc_value}
use Rattle.mc_metrics.specs.declared.reading.SettingsReading.{SettingsReading}
use Rattle.mc_options.specs.declared.options.Options.{Options}
use Rattle.mc_telemetry.specs.declared.scrape.MetricsServer.{MetricsServer}
use Rattle.mc_sockets.specs.ConnectionLimits.{most_of}
use Rattle.mc_sockets.specs.declared.connection.ConnectionLimit.{ConnectionLimit}
use Rattle.mc_run.specs.declared.plan.Entrance.{Entrance}
use Rattle.mc_run.specs.declared.plan.OwnTask.{OwnTask}
use Rattle.mc_run.specs.declared.plan.OwnTask.TheVariants.{Accept, AnswerScrapes}
use Rattle.mc_run.specs.declared.plan.ServerPlan.{ServerPlan}
use Rattle.mc_run.specs.declared.plan.WorkerPlan.{WorkerPlan}

-- how many bytes a MiB has
abbrev pub mib : ℕ
mib = 1048576

-- how many bytes the connections of a worker may hold: its part of seven eighths of the limit of buffers
abbrev pub held_of : Options → ℕ
held_of options = ((((options.buffers * mib) / 8) * 7) / (max options.workers 1))

-- the settings that the page of metrics has
abbrev pub settings_of : Options → SettingsReading
settings_of options = record {
  workers = options.workers;
  greatest = options.settings.greatest;
  idle_timeout = options.idle_timeout;
}

-- a worker has the moment of a clock that stands and the idle timeout of the options, and its part of the limit of buffers
pub record IsWorkerOf (options : Options) (plan : WorkerPlan) : Type 0 where
  pub now : plan.now ≡ options.now
  pub idle_timeout : plan.idle_timeout ≡ options.idle_timeout
  pub held : plan.held ≡ held_of options

-- how many bytes the connections of these workers may hold together
abbrev pub held_together : List WorkerPlan → ℕ
held_together plans = sum_by (λ plan. plan.held) plans

-- as many workers as the options ask for, each by the options; together they hold at most the limit of buffers
pub record ArePlansOf (options : Options) (plans : List WorkerPlan) : Type 0 where
  pub count : length plans ≡ options.workers
  pub each : All (IsWorkerOf options) plans
  pub together : held_together plans ≤ options.buffers * mib

-- one thread accepts at the first listener, and counts connections in this crowd: the program's own, or another while that
-- one answers scrapes
abbrev pub IsOneAcceptor : ConnectionLimit → OwnTask → Option Entrance → Type 0
IsOneAcceptor crowd (Accept entrance) None = arc_value entrance.crowd ≡ crowd
IsOneAcceptor crowd (AnswerScrapes server) (Some entrance) = arc_value entrance.crowd ≡ crowd
IsOneAcceptor crowd _ _ = ⊥

-- a peer may end the server if the options say so, and the page has their settings, their limits and this crowd
pub record ReportsOf (options : Options) (crowd : ConnectionLimit) (server : MetricsServer) : Type 0 where
  pub may_quit : server.may_quit ≡ options.may_quit
  pub settings : server.observer.settings ≡ settings_of options
  pub pages : server.observer.pages ≡ options.settings.pages
  pub buffers : server.observer.buffers ≡ options.buffers * mib
  pub connections : arc_value server.observer.crowd ≡ crowd

-- if the program's own thread answers scrapes, it does so by the options
abbrev pub ScrapesBy : (options : Options) (crowd : ConnectionLimit) → OwnTask → Type 0
ScrapesBy options crowd (Accept entrance) = ⊤
ScrapesBy options crowd (AnswerScrapes server) = ReportsOf options crowd server

-- the program's own thread answers scrapes by this server, if there is one
abbrev pub IsOwnTask : Option MetricsServer → OwnTask → Type 0
IsOwnTask None (Accept entrance) = ⊤
IsOwnTask (Some metrics) (AnswerScrapes server) = server ≡ metrics
IsOwnTask _ _ = ⊥

-- a server's workers are by the options, all its listeners count connections in one crowd of -c at most, and it ends and
-- reports by the options
pub record IsPlanOf (options : Options) (plan : ServerPlan) : Type 0 where
  pub workers : ArePlansOf options plan.threads.tasks.workers.items
  pub connections : most_of (arc_value plan.threads.tasks.crowd) ≡ options.connections
  pub first : IsOneAcceptor (arc_value plan.threads.tasks.crowd) plan.own plan.threads.tasks.first
  pub scrapes : ScrapesBy options (arc_value plan.threads.tasks.crowd) plan.own
