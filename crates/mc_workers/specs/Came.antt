-- Which links come to a worker, round by round.
use Rattle.std.specs.Prelude.{ℕ, List, [], ◌++◌}
use Rattle.mc_time.specs.Chains.{Repeats, none_yet, one_more}
use Rattle.mc_shelf.specs.Stores.{StoreState}
use Rattle.mc_shared.specs.Shown.{CallerState}
use Rattle.mc_guests.specs.Arrivals.{Arrival, came_between}
use Rattle.mc_guests.specs.declared.guests.WorkEnd.{WorkEnd}
use Rattle.mc_workers.specs.Rounds.{WorkState, WorksOn, WorksToEnd}

module _ {K : Type 0} (hash_of : K → List ℕ → ℕ) (may_give : ℕ → Type 0) where
  -- the links that came after these rounds, in order
  abbrev pub came_since : {count : ℕ} {old new : WorkState K} → Repeats (WorksOn hash_of may_give) count old new → List Arrival
  came_since none_yet = []
  came_since (one_more front one) = came_since front ++ came_between one.opens

  -- all links that came to a worker, in order
  abbrev pub all_came : {first share : ℕ} {began : StoreState K} {caller : CallerState} {back : CallerState × WorkEnd}
      → WorksToEnd hash_of may_give first share began caller back → List Arrival
  all_came works = came_since works.since.works ++ came_between works.ends.opens
