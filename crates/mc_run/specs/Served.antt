-- What a server has served when it ends.
use Rattle.std.specs.Prelude.{◌≡◌, ℕ, List}
use Rattle.mc_protocol.specs.Plain.{opening}
use Rattle.mc_hop.specs.declared.hash.Fnv.{Fnv}
use Rattle.mc_shelf.specs.Stores.{StoreState}
use Rattle.mc_shared.specs.History.{start_of}
use Rattle.mc_shared.specs.Past.{Past, Whole}
use Rattle.mc_shared.specs.Steps.{Agrees}
use Rattle.mc_options.specs.declared.options.Options.{Options}
use Rattle.mc_host.specs.declared.end.End.{End}
use Rattle.mc_host.specs.declared.end.End.TheVariants as end
use Rattle.mc_run.specs.Runs.{hash_of}
use Rattle.mc_run.specs.Plans.{ArePlansOf}
use Rattle.mc_run.specs.Meetings.{Each, IsJoined}
use Rattle.mc_run.specs.declared.plan.WorkerPlan.{WorkerPlan}

-- a store was empty when it began, and set up by the options
pub record IsNewStore (options : Options) (began : StoreState Fnv) : Type 0 where
  pub settings : began.settings ≡ options.settings
  pub empty : began.plain ≡ opening options.settings.pages options.settings.greatest

-- A server had an empty store, and the workers that the options ask for. Each served links until
-- none came any more. All callers were joined into one, whose past has every call of the store.
pub record HasServed (options : Options) (may_give : ℕ → Type 0) : Type 0 where
  pub began : StoreState Fnv
  pub new : IsNewStore options began
  pub workers : List WorkerPlan
  pub plans : ArePlansOf options workers
  pub past : Past
  pub agrees : Agrees (start_of hash_of began) past
  pub whole : Whole past
  pub each : Each (IsJoined may_give began past) workers

-- A server has served if a listener failed or it was asked to end. Else it couldn't listen, or
-- memory or a thread was refused.
abbrev pub EndsServing : Options → (may_give : ℕ → Type 0) → End → Type 0
EndsServing options may_give (end.Served how) = HasServed options may_give
EndsServing options may_give end.Stopped = HasServed options may_give
EndsServing options may_give (end.CannotListen it) = Unit {0}
EndsServing options may_give end.NoMemory = Unit {0}
EndsServing options may_give end.NoThread = Unit {0}
EndsServing options may_give _ = ⊥
