-- Which links a worker lets go, round by round.
use Rattle.std.specs.Prelude.{ℕ, List, [], ◌++◌, Bool}
use Rattle.mc_time.specs.Chains.{Repeats, none_yet, one_more}
use Rattle.mc_shelf.specs.Stores.{StoreState}
use Rattle.mc_shared.specs.Shown.{CallerState}
use Rattle.mc_guests.specs.Links.{LinkState}
use Rattle.mc_guests.specs.Arrivals.{turned_away, came_between}
use Rattle.mc_guests.specs.Leaving.{all_gone}
use Rattle.mc_guests.specs.declared.guests.WorkEnd.{WorkEnd}
use Rattle.mc_workers.specs.Rounds.{RoundState, WorkState, VisitsAndSettles, MakesFurtherRound, MakesRounds, WorksOnce, WorksOn, WorksToEnd}

module _ {K : Type 0} (hash_of : K → List ℕ → ℕ) where
  -- the links of the guests that have ended after a round, in order
  abbrev pub gone_after : {now : ℕ} {old new : RoundState K} → VisitsAndSettles hash_of now old new → List LinkState
  gone_after round = all_gone round.settles.1

  -- the same of further rounds
  abbrev pub gone_further : {now count : ℕ} {old new : ℕ × RoundState K} → Repeats (MakesFurtherRound hash_of now) count old new → List LinkState
  gone_further none_yet = []
  gone_further (one_more front one) = gone_further front ++ gone_after one.round

  -- the same of all rounds at a moment
  abbrev pub gone_in_rounds : {now : ℕ} {old new : RoundState K} → MakesRounds hash_of now old new → List LinkState
  gone_in_rounds rounds = gone_after rounds.round ++ gone_further rounds.further

  module _ (may_give : ℕ → Type 0) where
    -- the links that were let go from one opening of the door to the next: those of guests that have ended, and then those
    -- that were refused
    abbrev pub gone_once : {old new : WorkState K} {goes_on : Bool} → WorksOnce hash_of may_give old new goes_on → List LinkState
    gone_once once = gone_in_rounds once.rounds ++ turned_away (came_between once.opens)

    -- the links that were let go since the beginning, in order
    abbrev pub gone_since : {count : ℕ} {old new : WorkState K} → Repeats (WorksOn hash_of may_give) count old new → List LinkState
    gone_since none_yet = []
    gone_since (one_more front one) = gone_since front ++ gone_once one

    -- all links that a worker let go, in order
    abbrev pub all_let_go : {first share : ℕ} {began : StoreState K} {caller : CallerState} {back : CallerState × WorkEnd}
        → WorksToEnd hash_of may_give first share began caller back → List LinkState
    all_let_go works = gone_since works.since.works ++ gone_once works.ends
