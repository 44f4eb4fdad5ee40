-- What happens at one end of a connection over a reader and a writer.
use Rattle.std.specs.Prelude.{◌≡◌, ◌⊎◌, ℕ, ◌+◌, ◌^◌, ◌<◌, ◌≤◌, List, [], ◌++◌, length, take, Option}
use Rattle.std.specs.Io.KnownBytes.{Appends, Consumes, IsAtEnd}
use Rattle.mc_time.specs.Chains.{Repeats}
use Rattle.mc_session.specs.declared.endpoint.Endpoint.{Ghosts as Relations}

-- the most bytes that are read at once
abbrev pub longest_piece : ℕ
longest_piece = 16384

-- a turn is taken only with less output than this, in bytes
abbrev pub most_waiting : ℕ
most_waiting = 65536

-- an endpoint, its store, what is left to be read, and what was written
pub record Scene (E S : Type 0) : Type 0 where
  pub endpoint : E
  pub store : S
  pub reader : Option (List ℕ)
  pub writer : Option (List ℕ)

-- the scene of an endpoint, a store, what is left to be read, and what was written
abbrev pub scene : {E S : Type 0} → E → S → (reader writer : Option (List ℕ)) → Scene E S
scene endpoint store reader writer =
    record { endpoint = endpoint; store = store; reader = reader; writer = writer }

-- an endpoint and its store, and what was done until now: the number of turns given, what was read
-- and what was written
pub record Progress (E S : Type 0) : Type 0 where
  pub endpoint : E
  pub store : S
  pub turns : ℕ
  pub read : List ℕ
  pub written : List ℕ

module _ {E S : Type 0} (relations : Relations E S) where
  -- a front of the output was written, behind what was written before it
  pub record WritesOnce (old new : E × S × List ℕ) : Type 0 where
    pub count : ℕ
    pub sends : relations.sends count old.0 old.1 new.0 new.1
    pub written : new.2 ≡ old.2 ++ take count (relations.waits old.0 old.1)

  -- these bytes of the output were written, front by front
  abbrev pub Writes : E → S → List ℕ → E → S → Type 0
  Writes first before written last after =
      (fronts : ℕ) × Repeats WritesOnce fronts (first, before, []) (last, after, written)

  -- what a call that writes does to an endpoint and a writer
  pub record Wrote (old : E) (before : S) (new : E) (after : S)
      (writer_old writer_new : Option (List ℕ)) : Type 0 where
    pub written : List ℕ
    pub writes : Writes old before written new after
    pub appends : Appends writer_old writer_new written

  -- nothing more is to come: it is closed, or it is idle and the reader is at its end
  abbrev pub HasEnded : E → S → (reader : Option (List ℕ)) → Type 0
  HasEnded endpoint store reader = relations.is_closed endpoint store
      ⊎ (relations.is_idle endpoint store × IsAtEnd reader)

module _ {E S : Type 0} (relations : Relations E S) (may_give : ℕ → Type 0) where
  -- What is done next with an endpoint: a turn is given at a moment that the clock may give, with
  -- less than 64 KiB of output; a piece of at most `longest_piece` bytes comes, while no turn is
  -- due and no output is left; or output is written.
  pub data ExchangeStep (old : Progress E S) : Progress E S → Type 0 where
    turn : {last : E} {after : S} (now : ℕ) → may_give now
        → length (relations.waits old.endpoint old.store) < most_waiting
        → relations.turns now old.endpoint old.store last after
        → ExchangeStep old (record old { endpoint = last; store = after; turns = old.turns + 1 })
    piece : {last : E} {after : S} (bytes : List ℕ) → length bytes ≤ longest_piece
        → relations.is_idle old.endpoint old.store → relations.waits old.endpoint old.store ≡ []
        → relations.takes bytes old.endpoint old.store last after
        → ExchangeStep old
        (record old { endpoint = last; store = after; read = old.read ++ bytes })
    write : {last : E} {after : S} (bytes : List ℕ)
        → Writes relations old.endpoint old.store bytes last after
        → ExchangeStep old
        (record old { endpoint = last; store = after; written = old.written ++ bytes })

  -- what was done with an endpoint, step by step
  abbrev pub Exchange : E → S → (turns : ℕ) → (read written : List ℕ) → E → S → Type 0
  Exchange first before turns read written last after =
      (steps : ℕ) × Repeats ExchangeStep steps
      (record { endpoint = first; store = before; turns = 0; read = []; written = [] })
      (record { endpoint = last; store = after; turns = turns; read = read; written = written })

  -- With at most this many turns: what was read came from the reader, and what was written went to
  -- the writer.
  pub record Exchanges (most : ℕ) (old new : Scene E S) : Type 0 where
    pub turns : ℕ
    pub few : turns ≤ most
    pub read : List ℕ
    pub written : List ℕ
    pub exchange :
        Exchange old.endpoint old.store turns read written new.endpoint new.store
    pub consumes : Consumes old.reader new.reader read
    pub appends : Appends old.writer new.writer written

  -- What memory was refused for after this many turns, and the bytes that were read and are lost by
  -- it; at most 2^40 turns are given, with the refused one.
  pub data Refusal (turns : ℕ) (old : E) (before : S) (new : E) (after : S) : (lost : List ℕ)
      → Type 0 where
    no_turn : (now : ℕ) → turns < 2 ^ 40 → length (relations.waits old before) < most_waiting
        → may_give now → relations.loses_turn now old before new after
        → Refusal turns old before new after []
    no_piece : (bytes : List ℕ) → 0 < length bytes → length bytes ≤ longest_piece
        → relations.is_idle old before
        → relations.loses_piece bytes old before new after
        → Refusal turns old before new after bytes

  -- memory was refused: what was done until then, and what it was refused for
  pub record FallsShort (old new : Scene E S) : Type 0 where
    pub last : E
    pub between : S
    pub reader : Option (List ℕ)
    pub lost : List ℕ
    pub exchanges : Exchanges (2 ^ 40) old (scene last between reader new.writer)
    pub refusal : Refusal exchanges.turns last between new.endpoint new.store lost
    pub consumes : Consumes reader new.reader lost
