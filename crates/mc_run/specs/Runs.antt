-- What the program serves, by its command line.
use Rattle.std.specs.Prelude.{ℕ, List, [], replicate, Option, Result, Ok, Err}
use Rattle.mc_time.specs.declared.reading.Reading.{Reading}
use Rattle.mc_time.specs.Readings.{IsSteadyMoment}
use Rattle.mc_hop.specs.Hash.{fnv}
use Rattle.mc_protocol.specs.Plain.{opening}
use Rattle.mc_world.specs.Worlds.{WorldState, CanStand}
use Rattle.mc_world.specs.Serving.{scene, Served, ServedAll, RanShort}
use Rattle.mc_sizes.specs.declared.settings.Settings.{Settings}
use Rattle.mc_hop.specs.declared.hash.Fnv.{Fnv}
use Rattle.mc_protocol.specs.declared.serving.ServeFault.{ServeFault}
use Rattle.mc_protocol.specs.declared.serving.ServeFault.TheVariants as fault
use Rattle.mc_host.specs.declared.end.End.{End}
use Rattle.mc_host.specs.declared.end.End.TheVariants as end

-- the hash of a key, whatever hasher there is: that of FNV-1a has no state
abbrev pub hash_of : Fnv → List ℕ → ℕ
hash_of hasher key = fnv key

-- a world of no items and no sessions, whose store is set up so
abbrev pub new_world : Fnv → Settings → (now : ℕ) → WorldState Fnv
new_world hasher settings now = record {
  settings = settings;
  hasher = hasher;
  state = opening settings.pages settings.greatest;
  moment = now;
  sessions = [];
  left = replicate settings.shelves 0;
}

-- what the program's clock may give, if it began at a reading: of the later ones nothing is known
abbrev pub IsProgramMoment : (start : Reading) → ℕ → Type 0
IsProgramMoment start = IsSteadyMoment (λ reading. Unit {0}) start

-- The world was new at a moment of the clock, and was served so.
pub record InNewWorld (settings : Settings) (may_give : ℕ → Type 0)
    (How : (old new : WorldState Fnv) → Type 0) : Type 0 where
  pub moment : ℕ
  pub given : may_give moment
  pub hasher : Fnv
  pub stands : CanStand (new_world hasher settings moment)
  pub last : WorldState Fnv
  pub how : How (new_world hasher settings moment) last

-- The store is to be set up so, and the clock may give these moments; what the reader had left, and
-- what the writer held. Keys are hashed by FNV-1a.
module _ (settings : Settings) (may_give : ℕ → Type 0) (r r' w w' : Option (List ℕ)) where
  -- one session of a new world was served, by how it ended
  abbrev pub Serves : Result (Unit {0}) ServeFault → Type 0
  Serves (Ok _) = InNewWorld settings may_give (λ old new.
      ServedAll hash_of may_give (scene old r w) (scene new r' w'))
  Serves (Err fault.Read) = InNewWorld settings may_give (λ old new.
      Served hash_of may_give (scene old r w) (scene new r' w'))
  Serves (Err fault.Write) = InNewWorld settings may_give (λ old new.
      Served hash_of may_give (scene old r w) (scene new r' w'))
  Serves (Err fault.NoMemory) = InNewWorld settings may_give (λ old new.
      RanShort hash_of may_give (scene old r w) (scene new r' w'))

  -- the program ended with a session that was served so
  abbrev pub EndsServed : End → Type 0
  EndsServed (end.Served how) = Serves how
  EndsServed _ = ⊥
