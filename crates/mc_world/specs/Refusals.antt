-- A run that goes on past refusals of memory.
use Rattle.std.specs.Prelude.{◌≡◌, ℕ, suc, Bool, List, [], ◌∷◌}
use Rattle.mc_world.specs.Worlds.{PlainWorld, WorldState, EventsMove, Happens, GivesUp, TakesMemory, WorldStandsAs}
use Rattle.mc_world.specs.declared.event.Event.{Event}

-- How an event ended: it was done; or memory was refused in it, and the step of its turn was
-- decided, or nothing was done.
pub data EventOutcome : Type 0 where
  was_done : EventOutcome
  was_refused : (decided : Bool) → EventOutcome

-- how many events were refused
abbrev pub refusals : List EventOutcome → ℕ
refusals [] = 0
refusals (was_done ∷ outcomes) = refusals outcomes
refusals (was_refused decided ∷ outcomes) = suc (refusals outcomes)

module _ (hash : List ℕ → ℕ) (shelves : ℕ) where
  -- An event that ended so. A refused one takes memory. In its place comes the step of its turn
  -- without the text, if that was decided, and then the close of its session.
  abbrev pub Goes : PlainWorld → Event → EventOutcome → PlainWorld → Type 0
  Goes old event was_done new = Happens hash shelves old event new
  Goes old event (was_refused decided) new = GivesUp decided old event new × TakesMemory old event

  -- events in order, each with its ending
  abbrev pub RunsThrough : PlainWorld → List Event → List EventOutcome → PlainWorld → Type 0
  RunsThrough old [] [] new = new ≡ old
  RunsThrough old [] (outcome ∷ outcomes) new = ⊥
  RunsThrough old (event ∷ events) [] new = ⊥
  RunsThrough old (event ∷ events) (outcome ∷ outcomes) new =
      (mid : PlainWorld) × Goes old event outcome mid × RunsThrough mid events outcomes new

-- What the events make of a world if this many of them were refused memory, whatever came before:
-- from every plain world that represents the old one, they make one that represents the new one.
-- The store's settings are unchanged, and its growths move on as the events have it.
pub record ToldThrough {K : Type 0} (hash_of : K → List ℕ → ℕ) (refused : ℕ)
    (old : WorldState K) (events : List Event) (new : WorldState K) : Type 0 where
  pub settings : new.settings ≡ old.settings
  pub hasher : new.hasher ≡ old.hasher
  pub moves : EventsMove old.left events new.left
  pub outcomes : List EventOutcome
  pub count : refusals outcomes ≡ refused
  pub told : (first : PlainWorld) → WorldStandsAs first old → (last : PlainWorld)
      × RunsThrough (hash_of old.hasher) old.settings.shelves first events outcomes last
      × WorldStandsAs last new
