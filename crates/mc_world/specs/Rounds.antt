-- A session of a world as one end of a connection, and its run so far.
use Rattle.std.specs.Prelude.{◌≡◌, ℕ, ◌+◌, ◌%◌, ◌^◌, ◌<◌, List, [], ◌∷◌, length, None}
use Rattle.mc_session.specs.Turns.{sent}
use Rattle.mc_session.specs.declared.endpoint.Endpoint.{Ghosts as Relations}
use Rattle.mc_world.specs.Worlds.{WorldState, numbered, changed, open_session, output_of, IsIdle, CanStand, Told, ToldUntil}
use Rattle.mc_world.specs.Serving.{next_session, with_written, shelf_of, turn_events, IsService}
use Rattle.mc_world.specs.declared.event.Event.{Event}
use Rattle.mc_world.specs.declared.event.Event.TheVariants.{Open, Piece, Turn}
use Rattle.mc_world.specs.declared.event.Refused.{Refused}
use Rattle.mc_world.specs.declared.seat.WorldSession.{WorldSession}

-- the seat of a session that was given this many turns
abbrev pub seat : (number turns : ℕ) → WorldSession
seat number turns = record { number = number; turns = turns }

-- one more turn, counted in 64 bits
abbrev pub one_more : WorldSession → WorldSession
one_more s = seat s.number ((s.turns + 1) % 2 ^ 64)

-- the first `count` bytes of the output were written
abbrev pub with_sent : {K : Type 0} → (number count : ℕ) → WorldState K → WorldState K
with_sent number count w =
    record w {
      sessions = changed number w.sessions (λ s. sent s count) (numbered number w.sessions);
    }

module _ {K : Type 0} (hash_of : K → List ℕ → ℕ) where
  -- an event was refused memory
  abbrev pub Refuses : WorldState K → Event → WorldState K → Type 0
  Refuses old event new = (refused : Refused) × ToldUntil hash_of refused old (event ∷ []) new

  -- A session as an endpoint of its world: a turn is given at the clock's moment, and then the next
  -- shelf in turn grows.
  abbrev pub in_world : Relations WorldSession (WorldState K)
  in_world =
      record {
        waits = λ s world. output_of (numbered s.number world.sessions);
        sends = λ n s old new_seat new. (new_seat ≡ s) × (new ≡ with_sent s.number n old);
        turns = λ now s old new_seat new. (new_seat ≡ one_more s)
            × Told hash_of old (turn_events s.number (shelf_of s.turns old.settings.shelves) now) new;
        loses_turn = λ now s old _ new. Refuses (record old { moment = now }) (Turn s.number) new;
        takes = λ piece s old new_seat new. (new_seat ≡ s)
            × Told hash_of old (Piece s.number piece ∷ []) new;
        loses_piece = λ piece s old _ new. Refuses old (Piece s.number piece) new;
        is_idle = λ s world. IsIdle (numbered s.number world.sessions);
        is_closed = λ s world. open_session s.number world.sessions ≡ None;
      }

  -- the session was opened, in a world that had room for it
  pub record Begins (n : ℕ) (old new : WorldState K) : Type 0 where
    pub number : n ≡ next_session old
    pub stands : CanStand old
    pub room : length old.sessions < 65535
    pub told : Told hash_of old (Open ∷ []) new

  -- so far this many turns were given, this was read and that was written
  pub record HasServed (may_give : ℕ → Type 0) (n : ℕ) (first : WorldState K) (turns : ℕ)
      (read written : List ℕ) (now : WorldState K) : Type 0 where
    pub events : List Event
    pub service : IsService hash_of may_give n first
        (record { events = events; read = read; written = written; turns = turns })
    pub told : Told hash_of first events (with_written n written now)
