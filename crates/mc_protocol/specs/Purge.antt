-- Which items a purge drops.
use Rattle.std.specs.Prelude.{ℕ, ◌||◌, Bool, List, is_some, not}
use Rattle.std.specs.FinMap.{get, retain_keys}
use Rattle.mc_protocol.specs.Plain.{Plain, alive}

-- the state without the items that are dead at the moment and whose keys are selected
abbrev pub purged : (List ℕ → Bool) → ℕ → Plain → Plain
purged meant now old = record old {
  items = retain_keys old.items
      (λ key. not (meant key) || is_some (alive old.cut now (get old.items key)));
}
