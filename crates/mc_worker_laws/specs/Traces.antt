-- What becomes of the links that a worker lets in.
use Rattle.std.specs.Prelude.{◌≡◌, ◌==◌, ◌+◌, ◌-◌, ◌^◌, if◌then◌else◌, min, ℕ, List, [], ◌∷◌, ◌++◌, length, count_by, Option, Some, IsTrue, Bool, true, false, slice_get}
use Rattle.mc_shelf.specs.Stores.{StoreState}
use Rattle.mc_shared.specs.Shown.{CallerState}
use Rattle.mc_shared.specs.Asking.{AskingState, AsksOnce}
use Rattle.mc_shared.specs.History.{Purged, start_of}
use Rattle.mc_parse.specs.Units.{ProtocolUnit}
use Rattle.mc_parse.specs.Streams.{AreUnits}
use Rattle.mc_guests.specs.Links.{LinkState, grown}
use Rattle.mc_guests.specs.Guests.{GuestState, welcomed, has_ended}
use Rattle.mc_guests.specs.Asks.{StaysOrLosesLink, AsksAndVisits, IsKeptWaiting}
use Rattle.mc_guests.specs.Telling.{TakenTurn, Visits, turns_of, bytes_given, bytes_taken, AnswerFirst, AnswerAll}
use Rattle.mc_guests.specs.Books.{changed}
use Rattle.mc_guests.specs.Arrivals.{admitted}
use Rattle.mc_guests.specs.declared.guests.WorkEnd.{WorkEnd}
use Rattle.mc_guests.specs.declared.guest.Visit.{Visit}
use Rattle.mc_guests.specs.declared.guest.Visit.TheVariants.{Served, Broken, Refused}
use Rattle.mc_workers.specs.Tending.{GoesFurther}
use Rattle.mc_workers.specs.Came.{all_came}
use Rattle.mc_workers.specs.Rounds.{as_caller, WorksToEnd}

-- a counter after so many; it stops at its greatest number
abbrev pub counter : ℕ → ℕ
counter many = min many (2 ^ 64 - 1)

-- whether it was served
abbrev pub is_served : Option Visit → Bool
is_served (Some Served) = true
is_served last = false

-- whether its link failed
abbrev pub is_broken : Option Visit → Bool
is_broken (Some Broken) = true
is_broken last = false

-- whether memory was refused to it
abbrev pub is_refused : Option Visit → Bool
is_refused (Some Refused) = true
is_refused last = false

-- how many guests ended so, by their last answers
abbrev pub how_many : (Option Visit → Bool) → List GuestState → ℕ
how_many ended guests = count_by (λ guest. ended guest.last) guests

-- Of these guests so many were served, and the links of so many failed. So many were refused
-- memory, beside the links that were refused at the door.
pub record AreCounted (guests : List GuestState) (at_door : ℕ) (end : WorkEnd) : Type 0 where
  pub served : end.served ≡ counter (how_many is_served guests)
  pub broken : end.broken ≡ counter (how_many is_broken guests)
  pub refused : end.refused ≡ counter (how_many is_refused guests + at_door)

-- Links were let go: those of these guests, as they are, and those that were refused at the door,
-- each once, and no other. Whatever is counted of links, as many were let go as there are.
abbrev pub AreAllOf : (guests : List GuestState) (refused links : List LinkState) → Type 0
AreAllOf guests refused links = (counts : LinkState → Bool) → count_by counts links
    ≡ count_by (λ guest. counts guest.link) guests + count_by counts refused

-- The hash of keys, and the moments of the clock.
module _ {K : Type 0} (hash_of : K → List ℕ → ℕ) (may_give : ℕ → Type 0) where
  -- all links that a worker admitted, in order, each with the greatest charge of an item
  abbrev pub all_links : {first share : ℕ} {began : StoreState K} {caller : CallerState}
      {back : CallerState × WorkEnd} → WorksToEnd hash_of may_give first share began caller back
      → List (ℕ × LinkState)
  all_links works = admitted (all_came hash_of may_give works)

  -- turns of a guest, which a caller took
  abbrev pub GuestTurns : Type 0
  GuestTurns = List (TakenTurn (as_caller hash_of))

  -- A caller made further calls from the beginning to the end. Those of these turns are among them,
  -- in order, each at a moment that the clock may give.
  abbrev pub AreAmong : (begin : AskingState K) → GuestTurns → (end : AskingState K) → Type 0
  AreAmong begin [] end = GoesFurther may_give begin end
  AreAmong begin (turn ∷ turns) end = may_give turn.now × GoesFurther may_give begin turn.before
      × GoesFurther may_give turn.before turn.after × AreAmong turn.after turns end

  -- What a worker did since its beginning, with the links that it let in, their guests in the same
  -- order, and its caller. Its caller purged a shelf; a link came, and has a guest; a guest was
  -- visited, after a read that measured its next key's block if there was one; or it was kept
  -- waiting for room, after such a read, and perhaps lost its link. A guest that is gone stays
  -- listed.
  pub data Trace (begin : AskingState K) : (links : List (ℕ × LinkState))
      (guests : List GuestState) (caller : AskingState K) → Type 0 where
    begun : Trace begin [] [] begin
    purged : {links : List (ℕ × LinkState)} {guests : List GuestState}
        {before after : AskingState K} (shelf now : ℕ)
        → Trace begin links guests before → may_give now
        → AsksOnce (start_of hash_of before.began) (Purged shelf now) before after
        → Trace begin links guests after
    comes : {links : List (ℕ × LinkState)} {guests : List GuestState} {caller : AskingState K}
        (greatest : ℕ) (link : LinkState) → Trace begin links guests caller
        → Trace begin (links ++ (greatest, link) ∷ []) (guests ++ welcomed greatest link ∷ [])
        caller
    visits : {links : List (ℕ × LinkState)} {guests : List GuestState}
        {before after : AskingState K} (at now : ℕ) (answer : Visit) (old new : GuestState)
        → Trace begin links guests before → slice_get guests at ≡ Some old → may_give now
        → (visit : AsksAndVisits (as_caller hash_of) now answer old new before after)
        → Trace begin links (changed (λ _. new) at guests) after
    waits : {links : List (ℕ × LinkState)} {guests : List GuestState}
        {before after : AskingState K} (at now : ℕ) (old new : GuestState)
        → Trace begin links guests before → slice_get guests at ≡ Some old → may_give now
        → IsKeptWaiting (as_caller hash_of) now old new before after
        → Trace begin links (changed (λ _. new) at guests) after

  -- the turns of the guest at this place, in a trace
  abbrev pub turns_in : {begin : AskingState K} {links : List (ℕ × LinkState)}
      {guests : List GuestState} {caller : AskingState K} → Trace begin links guests caller
      → (at : ℕ) → GuestTurns
  turns_in begun at = []
  turns_in (purged shelf now trace gives once) at = turns_in trace at
  turns_in (comes {guests = guests} greatest link trace) at =
      if at == length guests then [] else turns_in trace at
  turns_in (visits {after = after} other now answer old new trace is gives visit) at =
      if at == other then turns_in trace at
      ++ turns_of (as_caller hash_of) now answer old new visit.between after visit.visits
      else turns_in trace at
  turns_in (waits other now old new trace is gives kept) at = turns_in trace at

  -- A link is answered by these turns. Its guest was visited since its welcome, and then it had
  -- ended, or it lost its link while it was kept waiting. What the link took, and then the output
  -- that was left, is the texts of the first turns of the units of the link's bytes, and of all
  -- after `Served`. The calls of these turns are among the caller's further calls, in order.
  pub record IsAnswered (turns : GuestTurns) (greatest : ℕ) (link : LinkState) (gone : GuestState)
      (begin end : AskingState K) : Type 0 where
    pub last : GuestState
    pub visits : Visits (as_caller hash_of) turns (welcomed greatest link) last
    pub stays : StaysOrLosesLink last gone
    pub given : gone.link.given ≡ grown link.given (bytes_given (as_caller hash_of) visits)
    pub taken : gone.link.taken ≡ grown link.taken (bytes_taken (as_caller hash_of) visits)
    pub ended : IsTrue (has_ended gone.last)
    pub answers : (units : List ProtocolUnit)
        → AreUnits greatest 0 (bytes_given (as_caller hash_of) visits) units
        → AnswerFirst (as_caller hash_of) units turns
        (bytes_taken (as_caller hash_of) visits ++ gone.session.out)
    pub all : (units : List ProtocolUnit)
        → AreUnits greatest 0 (bytes_given (as_caller hash_of) visits) units
        → gone.last ≡ Some Served
        → AnswerAll (as_caller hash_of) units turns (bytes_taken (as_caller hash_of) visits)
    pub order : AreAmong begin turns end

  -- Each of these links is answered, by its own turns in one trace of all that the worker did. At
  -- the end of the trace each guest has ended. The greatest charge of an item is the store's.
  pub record AreAnswered (links : List (ℕ × LinkState)) (begin end : AskingState K) : Type 0 where
    pub greatest_is : (at greatest : ℕ) (link : LinkState)
        → slice_get links at ≡ Some (greatest, link) → greatest ≡ begin.began.settings.greatest
    pub guests : List GuestState
    pub each : length links ≡ length guests
    pub trace : Trace begin links guests end
    pub gone : (at : ℕ) (guest : GuestState) → slice_get guests at ≡ Some guest
        → IsTrue (has_ended guest.last)
    pub answered : (at greatest : ℕ) (link : LinkState)
        → slice_get links at ≡ Some (greatest, link) → (guest : GuestState)
        × (slice_get guests at ≡ Some guest)
        × IsAnswered (turns_in trace at) greatest link guest begin end
