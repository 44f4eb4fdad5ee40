-- Which moments a worker's rounds have.
use Rattle.std.specs.Prelude.{ℕ, List}
use Rattle.mc_time.specs.Chains.{Repeats, none_yet, one_more}
use Rattle.mc_shelf.specs.Stores.{StoreState}
use Rattle.mc_shared.specs.Shown.{CallerState}
use Rattle.mc_guests.specs.declared.guests.WorkEnd.{WorkEnd}
use Rattle.mc_workers.specs.Rounds.{WorkState, WorksOn, WorksToEnd}

module _ {K : Type 0} (hash_of : K → List ℕ → ℕ) (may_give : ℕ → Type 0) (may_follow : (before now : ℕ) → Type 0) where
  -- the moment of each series of rounds is a reading of the clock behind the moment of the series before
  abbrev pub reads_on : {count : ℕ} {old new : WorkState K} → Repeats (WorksOn hash_of may_give) count old new → Type 0
  reads_on none_yet = Unit {0}
  reads_on (one_more {mid = mid} {new = new} front one) = reads_on front × may_follow mid.moment new.moment

  -- So a worker read its clock once for each of its series of rounds: the k-th series has the moment of the k-th reading,
  -- which came behind the one before. The first of them came behind the reading at the start.
  abbrev pub ReadsOn : {first share : ℕ} {began : StoreState K} {caller : CallerState} {back : CallerState × WorkEnd}
      → WorksToEnd hash_of may_give first share began caller back → Type 0
  ReadsOn works = reads_on works.since.works × may_follow works.last.moment works.final.moment
