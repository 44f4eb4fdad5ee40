-- What `serve_one` tells of a world that is as a new one, told of the new one.
use Rattle.std.proofs.Common.{◌≡◌, inl, ℕ, List, [], Option, Result, Ok, Err, OnOk}
use Rattle.std.proofs.Common.{refl, subst}
use Rattle.mc_hop.specs.declared.hash.Fnv.{Fnv}
use Rattle.mc_sizes.specs.declared.settings.Settings.{Settings}
use Rattle.mc_world.specs.Worlds.{WorldState, CanStand}
use Rattle.mc_world.specs.Serving.{scene, Served, ServedAll, RanShort}
use Rattle.mc_protocol.specs.declared.serving.ServeFault.{ServeFault}
use Rattle.mc_protocol.specs.declared.serving.ServeFault.TheVariants.{Read, Write, NoMemory}
use Rattle.mc_run.specs.Runs.{hash_of, new_world, InNewWorld, Serves}

-- a new world stands, as a plain world of no connections
can_stand : (hasher : Fnv) (settings : Settings) (now : ℕ) → CanStand (new_world hasher settings now)
can_stand hasher settings now = record {
  plain = record {
    greatest = settings.greatest;
    state = (new_world hasher settings now).state;
    now = now;
    connections = [];
  };
  stands = record { greatest = refl; state = refl; now = refl; sessions = tt };
}

module _ (settings : Settings) (moment : ℕ) (may_give : ℕ → Type 0) (given : may_give moment) (hasher : Fnv) where
  in_new : (How : (old new : WorldState Fnv) → Type 0) (first last : WorldState Fnv)
      → first ≡ new_world hasher settings moment → How first last → InNewWorld settings may_give How
  in_new How first last is_new how = record {
    moment = moment;
    given = given;
    hasher = hasher;
    stands = can_stand hasher settings moment;
    last = last;
    how = subst (λ (old : WorldState Fnv). How old last) is_new how;
  }

  module _ (r r' w w' : Option (List ℕ)) where
    -- the new world was served, by what serve_one tells of each end
    pub serves : (first last : WorldState Fnv) (result : Result (Unit {0}) ServeFault)
        → first ≡ new_world hasher settings moment
        → OnOk result (ServedAll hash_of may_give (scene first r w) (scene last r' w'))
        → ((result ≡ Err NoMemory → ⊥) → Served hash_of may_give (scene first r w) (scene last r' w'))
        → (result ≡ Err NoMemory → RanShort hash_of may_give (scene first r w) (scene last r' w'))
        → Serves settings may_give r r' w w' result
    serves first last (Ok x) is_new all served memory =
        in_new (λ old new. ServedAll hash_of may_give (scene old r w) (scene new r' w')) first last is_new all
    serves first last (Err Read) is_new all served memory =
        in_new (λ old new. Served hash_of may_give (scene old r w) (scene new r' w')) first last is_new (served (λ e. cc))
    serves first last (Err Write) is_new all served memory =
        in_new (λ old new. Served hash_of may_give (scene old r w) (scene new r' w')) first last is_new (served (λ e. cc))
    serves first last (Err NoMemory) is_new all served memory =
        in_new (λ old new. RanShort hash_of may_give (scene old r w) (scene new r' w')) first last is_new (memory refl)

  -- no memory was there for a world, and nothing was read or written
  pub not_begun : (r w : Option (List ℕ)) → Serves settings may_give r r w w (Err NoMemory)
  not_begun r w = record {
    moment = moment;
    given = given;
    hasher = hasher;
    stands = can_stand hasher settings moment;
    last = new_world hasher settings moment;
    how = inl refl;
  }
