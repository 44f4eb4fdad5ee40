-- The places of a worker's links, and what lingers there.
use Rattle.std.specs.Prelude.{◌≡◌, ◌≢◌, ◌<◌, ◌≤◌, ◌==◌, ℕ, Bool, false, not, List, [], ◌∷◌, ◌++◌, length, if◌then◌else◌, Option, Some, None, Result, Ok, Err, IsOk, MatchBool}
use Rattle.std.specs.Box.{box_value}
use Rattle.std.specs.List.{filter}
use Rattle.std.specs.declared.alloc.AllocError.{AllocError}
use Rattle.slab.specs.Slab.{Slab, get}
use Rattle.mc_sockets.specs.declared.yard.Yard.{Yard}
use Rattle.mc_sockets.specs.declared.yard.YardSpot.{YardSpot}
use Rattle.mc_sockets.specs.declared.yard.YardSpot.TheVariants as spot

-- A place: it is free, a link has it, or what a link left lingers there.
pub data PlaceState (L : Type 0) : Type 0 where
  Free : PlaceState L
  InUse : PlaceState L
  Lingering : (one : L) → PlaceState L

abbrev pub state_of : {L : Type 0} → Option (YardSpot L) → PlaceState L
state_of None = Free
state_of (Some spot.InUse) = InUse
state_of (Some (spot.Lingers one)) = Lingering (box_value one)

-- what is at a place
abbrev pub place_at : {L : Type 0} → Slab (YardSpot L) → ℕ → PlaceState L
place_at spots place = state_of (get spots place)

-- this place changes to that, and no other changes
pub record Changes {L : Type 0} (old new : Slab (YardSpot L)) (place : ℕ) (state : PlaceState L) : Type 0 where
  pub changed : place_at new place ≡ state
  pub others : (other : ℕ) → other ≢ place → place_at new other ≡ place_at old other

-- the queue without a place
abbrev pub without : (place : ℕ) → List ℕ → List ℕ
without place queue = filter (λ at. not (at == place)) queue

-- If more linger than may, the one that lingers longest is closed, which is the first in the queue.
pub record ClosesLongest {L : Type 0} (old new : Yard L) : Type 0 where
  pub few : length old.queue.items ≤ old.most → new ≡ old
  pub many : old.most < length old.queue.items → (first : ℕ) (others : List ℕ) → old.queue.items ≡ first ∷ others
      → Changes old.spots new.spots first Free × (new.queue.items ≡ others)

-- what a link left lingers at its place, last in the queue; the place is free if memory is refused
abbrev pub Stays : {L : Type 0} → (L → L → Type 0) → ℕ → L → Result (Unit {0}) AllocError → Yard L → Yard L → Type 0
Stays {L} leaves place one (Ok done) old new =
    (left : L) × leaves one left × Changes old.spots new.spots place (Lingering left) × (new.queue.items ≡ old.queue.items ++ place ∷ [])
Stays {L} leaves place one (Err refused) old new = Changes old.spots new.spots place Free × (new.queue.items ≡ old.queue.items)

-- the same, and then no more linger than may
abbrev pub StaysAmong : {L : Type 0} → (L → L → Type 0) → ℕ → L → Result (Unit {0}) AllocError → Yard L → Yard L → Type 0
StaysAmong {L} leaves place one result old new = (mid : Yard L) × Stays leaves place one result old mid × ClosesLongest mid new

-- what becomes of a place whose link is dropped: it is free if nothing is left to do, and what the link
-- left lingers there if something is, unless memory for it is refused
abbrev pub TakesIn : {L : Type 0} → (L → Bool → L → Type 0) → (L → L → Type 0) → ℕ → L → Result (Unit {0}) AllocError → Yard L → Yard L → Type 0
TakesIn {L} looks leaves place one result old new =
    (is_done : Bool) × (seen : L) × looks one is_done seen
    × MatchBool is_done (IsOk result × Changes old.spots new.spots place Free × (new.queue.items ≡ old.queue.items)) (StaysAmong leaves place seen result old new)

-- What lingers there is sent, and answers whether nothing is left to do; where nothing lingers, something is.
abbrev pub SpotSent : {L : Type 0} → (L → Bool → L → Type 0) → YardSpot L → Bool → YardSpot L → Type 0
SpotSent sends spot.InUse is_done new = (is_done ≡ false) × (new ≡ spot.InUse)
SpotSent {L} sends (spot.Lingers one) is_done new =
    (left : L) × sends (box_value one) is_done left × (state_of (Some new) ≡ Lingering left)

-- What lingers at a place is sent, and answers whether nothing is left to do. Where nothing lingers,
-- something is, and nothing changes.
abbrev pub HasSent : {L : Type 0} → (L → Bool → L → Type 0) → ℕ → PlaceState L → Bool → Slab (YardSpot L) → Slab (YardSpot L) → Type 0
HasSent sends place Free is_done old new = (is_done ≡ false) × (new ≡ old)
HasSent sends place InUse is_done old new = (is_done ≡ false) × (new ≡ old)
HasSent {L} sends place (Lingering one) is_done old new =
    (left : L) × sends one is_done left × Changes old new place (Lingering left)

-- What lingers at a place is sent. If nothing is left to do then, the place is free and out of the queue. Nothing
-- happens at any other place.
abbrev pub SendsRest : {L : Type 0} → (L → Bool → L → Type 0) → ℕ → PlaceState L → Yard L → Yard L → Type 0
SendsRest sends place Free old new = new ≡ old
SendsRest sends place InUse old new = new ≡ old
SendsRest {L} sends place (Lingering one) old new =
    (is_done : Bool) × (left : L) × sends one is_done left
    × Changes old.spots new.spots place (if is_done then Free else Lingering left)
    × (new.queue.items ≡ (if is_done then without place old.queue.items else old.queue.items))
