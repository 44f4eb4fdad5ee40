-- What is gathered for a link.
use Rattle.std.specs.Prelude.{◌≡◌, ◌≤◌, ℕ, Bool, true, false, List, [], ◌++◌, length, take, Result, Ok, Err}
use Rattle.mc_links.specs.Links.{LinkState, asked, grown, took, failed}
use Rattle.mc_links.specs.declared.link.Got.{Got}
use Rattle.mc_links.specs.declared.link.Got.TheVariants.{Bytes as GaveBytes, Later as GaveNone, End}
use Rattle.mc_links.specs.declared.link.Took.{Took}
use Rattle.mc_links.specs.declared.link.Took.TheVariants.{Bytes as TookBytes, Later as TookNone}
use Rattle.mc_links.specs.declared.link.LinkFault.{LinkFault}

-- A link, the bytes that are gathered for it, whether it was last asked to give and not to take, and
-- how many bytes.
pub record GatheringState : Type 0 where
  pub link : LinkState
  pub gathered : List ℕ
  pub was_read : Bool
  pub requested : ℕ

-- a link with nothing gathered
abbrev pub over : LinkState → GatheringState
over link = record { link = link; gathered = []; was_read = false; requested = 0 }

-- as a link it took what the link below took, and then what is gathered
abbrev pub whole : GatheringState → LinkState
whole state = record state.link {
  taken = grown state.link.taken state.gathered;
  was_read = state.was_read;
  requested = state.requested;
}

-- it was asked to give, or to take, that many bytes
abbrev pub turned : Bool → (bytes : ℕ) → GatheringState → GatheringState
turned reads bytes state = record state { was_read = reads; requested = bytes }

-- these bytes are a front of those
abbrev pub IsFront : List ℕ → List ℕ → Type 0
IsFront front bytes = (rest : List ℕ) × (bytes ≡ front ++ rest)

-- of all these bytes the link below took a front, and the rest is gathered
pub record HandsOn (all : List ℕ) (old new : GatheringState) : Type 0 where
  pub part : List ℕ
  pub parts : all ≡ part ++ new.gathered
  pub link : asked false 0 new.link ≡ took (asked false 0 old.link) part
  pub was_read : new.was_read ≡ old.was_read
  pub requested : new.requested ≡ old.requested

-- the link below took a front of what was gathered, and then failed; the rest stays gathered
pub record FailsBelow (old new : GatheringState) : Type 0 where
  pub part : List ℕ
  pub parts : old.gathered ≡ part ++ new.gathered
  pub link : asked false 0 new.link ≡ failed (took (asked false 0 old.link) part)
  pub was_read : new.was_read ≡ old.was_read
  pub requested : new.requested ≡ old.requested

-- what comes of handing on what is gathered
abbrev pub Flushes : {A : Type 0} → GatheringState → Result A LinkFault → GatheringState → Type 0
Flushes old (Ok done) new = HandsOn old.gathered old new
Flushes old (Err fault) new = FailsBelow old new

-- what comes of a write: the bytes that were taken are handed on or gathered behind what was
abbrev pub Gathers : GatheringState → List ℕ → Result Took LinkFault → GatheringState → Type 0
Gathers old bytes (Ok (TookBytes n)) new =
    (n ≤ length bytes) × HandsOn (old.gathered ++ take n bytes) old new
Gathers old bytes (Ok TookNone) new = HandsOn old.gathered old new
Gathers old bytes (Err fault) new = FailsBelow old new

-- bytes and the end of a stream are given once nothing is gathered
abbrev pub AfterAll : Result Got LinkFault → List ℕ → Type 0
AfterAll (Ok (GaveBytes n)) gathered = gathered ≡ []
AfterAll (Ok GaveNone) gathered = Unit {0}
AfterAll (Ok End) gathered = gathered ≡ []
AfterAll (Err fault) gathered = Unit {0}

-- what holds it up: the link below was last offered all that is gathered, or if nothing is, was lent
-- the room
pub record WaitsBelow (state : GatheringState) : Type 0 where
  pub takes : (state.gathered ≡ [] → ⊥) → state.link.was_read ≡ false
  pub offers : length state.gathered ≤ state.link.requested
  pub gives : state.gathered ≡ [] → state.link.was_read ≡ true
  pub lends : state.gathered ≡ [] → state.link.requested ≡ state.requested
