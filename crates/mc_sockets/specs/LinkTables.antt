-- The books of a worker's links.
use Rattle.std.specs.Prelude.{◌≡◌, ◌≤◌, ◌<◌, ◌+◌, ◌-◌, ◌%◌, ◌^◌, ℕ, Bool, false, List, [], ◌∷◌, ◌++◌, length, slice_get, slice_set, option_to_list, Option, Some, None, if◌then◌else◌, MatchBool, MatchOption, vec_len, vec_capacity}
use Rattle.mc_links.specs.declared.links.Next.{Next}
use Rattle.mc_links.specs.declared.links.Next.TheVariants.{Link, Later, Closed}
use Rattle.std.specs.VecDeque.{deque_len, deque_capacity}
use Rattle.mio.specs.declared.event.event.Event.{Event}
use Rattle.mio.specs.Event.{event_token}
use Rattle.std.specs.Duration.{as_nanos}
use Rattle.std.specs.declared.time.Duration.{Duration}
use Rattle.std.specs.declared.time.Instant.{Instant}
use Rattle.mc_time.specs.Chains.{Chain, Repeats}
use Rattle.mc_sockets.specs.LinkRecords.{AsksOrCloses, EndsIfIdle, HappensIf, HappensTo, Notes}
use Rattle.mc_sockets.specs.Readiness.{Ended, Happening, report_of}
use Rattle.mc_sockets.specs.SweepCursors.{due, is_too_soon, turn}
use Rattle.mc_sockets.specs.declared.connection.CloseReason.{CloseReason}
use Rattle.mc_sockets.specs.declared.idle.SweepCursor.{SweepCursor}
use Rattle.mc_sockets.specs.declared.link_record.LinkRecord.{LinkRecord}
use Rattle.mc_sockets.specs.declared.link_record.SweepLimits.{SweepLimits}
use Rattle.mc_sockets.specs.declared.readiness.Readiness.{Readiness}
use Rattle.mc_sockets.specs.declared.link_table.SweepAction.{SweepAction}
use Rattle.mc_sockets.specs.declared.link_table.SweepAction.TheVariants.{AskUnheard, EndIdle}
use Rattle.mc_sockets.specs.declared.link_table.LinkTable.{LinkTable}

-- where the next look begins, the books, and what dropped links left
pub record Sweep (F R : Type 0) : Type 0 where
  pub at : ℕ
  pub seats : LinkTable F
  pub rests : R

abbrev pub sweep : {F R : Type 0} → (at : ℕ) → LinkTable F → R → Sweep F R
sweep at seats rests = record { at = at; seats = seats; rests = rests }

module _ {F : Type 0} where
  -- the queue of names may find no memory for one more
  abbrev pub IsFull : LinkTable F → Type 0
  IsFull seats = deque_capacity seats.named ≤ deque_len seats.named

  -- there is room for one more place
  abbrev pub HasRoom : LinkTable F → Type 0
  HasRoom seats = vec_len seats.places < vec_capacity seats.places

  -- what is done with the record of a place, and with the names: no other place changes
  pub record Acts (act : LinkRecord F → LinkRecord F → List ℕ → List ℕ → Type 0) (at : ℕ) (place : LinkRecord F) (old new : LinkTable F) : Type 0 where
    pub left : LinkRecord F
    pub acts : act place left old.named.items new.named.items
    pub places : new.places.items ≡ slice_set old.places.items at left
    pub given : new.given ≡ old.given

  -- that is done at a place, if there is one, and at no other
  abbrev pub ActsAt : (LinkRecord F → LinkRecord F → List ℕ → List ℕ → Type 0) → ℕ → LinkTable F → LinkTable F → Type 0
  ActsAt act at old new = MatchOption (slice_get old.places.items at) (new ≡ old) (λ place. Acts act at place old new)

  -- a step at each place before this one, from the first on
  abbrev pub AtEach : (step : ℕ → LinkTable F → LinkTable F → Type 0) → ℕ → LinkTable F → LinkTable F → Type 0
  AtEach step count old new =
      Repeats {S = ℕ × LinkTable F} (λ here there. step here.0 here.1 there.1 × (there.0 ≡ here.0 + 1)) count (0, old) (count, new)

  -- that is done at a place, and answered; without a record there nothing is done, and the answer is no
  abbrev pub AnswersAt : (act : Bool → LinkRecord F → LinkRecord F → List ℕ → List ℕ → Type 0) → ℕ → (answer : Bool) → LinkTable F → LinkTable F → Type 0
  AnswersAt act at answer old new = MatchOption (slice_get old.places.items at) ((answer ≡ false) × (new ≡ old)) (λ place. Acts (act answer) at place old new)

  -- that happens to the link with this number, and to no other
  abbrev pub HappensToLink : (known : F → Option Readiness) → Happening → (number : ℕ) → LinkTable F → LinkTable F → Type 0
  HappensToLink known happening number old new =
      AtEach (λ at mid. ActsAt (HappensIf known happening number (IsFull mid)) at mid) (length old.places.items) old new

  -- all connections are ended for this reason, one after another
  abbrev pub EndsAll : (known : F → Option Readiness) → CloseReason → LinkTable F → LinkTable F → Type 0
  EndsAll known parting old new =
      AtEach (λ at mid. ActsAt (HappensTo known (Ended parting) (IsFull mid)) at mid) (length old.places.items) old new

  -- That is done at a place. What the link there left is sent if the answer is yes, and else nothing is sent.
  pub record SendsAt {R : Type 0} (sends : R → ℕ → R → Type 0)
      (act : Bool → LinkRecord F → LinkRecord F → List ℕ → List ℕ → Type 0) (at : ℕ) (old new : LinkTable F)
      (old_rests new_rests : R) : Type 0 where
    pub answer : Bool
    pub answers : AnswersAt act at answer old new
    pub rest : MatchBool answer (sends old_rests at new_rests) (new_rests ≡ old_rests)

  -- An event is noted at the place of its token, which is 1 more than the place: what it reports happens to
  -- the link there. The token 0 is the waker's, and nothing happens.
  pub record Hears {R : Type 0} (known : F → Option Readiness) (sends : R → ℕ → R → Type 0) (event : Event) (old new : LinkTable F) (old_rests new_rests : R) : Type 0 where
    pub waker : (event_token event).0 ≡ 0 → (new ≡ old) × (new_rests ≡ old_rests)
    pub link : 0 < (event_token event).0
        → SendsAt sends (Notes known (report_of event) (IsFull old)) ((event_token event).0 - 1) old new old_rests new_rests

  -- each event of a list is noted once, from the first to the last, and nothing else happens
  abbrev pub AreHeard : {R : Type 0} (hears : Event → LinkTable F → LinkTable F → R → R → Type 0) → List Event → (old new : LinkTable F) → (old_rests new_rests : R) → Type 0
  AreHeard {R} hears events old new old_rests new_rests =
      Chain {S = LinkTable F × R} (λ before event after. hears event before.0 after.0 before.1 after.1) (old, old_rests) events (new, new_rests)

  -- The place in turn is looked at: that is done there, and what a dropped link left is sent exactly if the answer is yes.
  pub record LooksAtNext {R : Type 0} (sends : R → ℕ → R → Type 0)
      (act : LinkTable F → Bool → LinkRecord F → LinkRecord F → List ℕ → List ℕ → Type 0) (old new : Sweep F R) : Type 0 where
    pub looks : SendsAt sends (act old.seats) (turn old.at (length old.seats.places.items)) old.seats new.seats old.rests new.rests
    pub next : new.at ≡ turn old.at (length old.seats.places.items) + 1

  -- what a look does with the link of a record, by the patrol
  abbrev pub Patrols : (known : F → Option Readiness) → SweepAction → SweepLimits → LinkTable F → (answer : Bool) → (old new : LinkRecord F)
      → (old_names new_names : List ℕ) → Type 0
  Patrols known (EndIdle parting) look seats answer old new old_names new_names =
      EndsIfIdle known look parting (IsFull seats) answer old new old_names new_names
  Patrols known (AskUnheard linger) look seats answer old new old_names new_names =
      AsksOrCloses known (record look { limit = linger }) look (IsFull seats) answer old new old_names new_names

  -- The places that are due are looked at one after another, in turn, by the watch's limit. The watch goes on behind the last.
  pub record LooksInTurn {R : Type 0} (known : F → Option Readiness) (sends : R → ℕ → R → Type 0) (patrol : SweepAction)
      (before now : Instant) (watch later : SweepCursor) (old new : LinkTable F) (old_rests new_rests : R) : Type 0 where
    pub looks : Repeats (LooksAtNext sends (Patrols known patrol (record { limit = watch.limit; before = before; now = now })))
        (due watch.looked now (length old.places.items)) (sweep watch.at old old_rests) (sweep later.at new new_rests)
    pub looked : later.looked ≡ (if is_too_soon watch.looked now then watch.looked else Some now)
    pub limit : later.limit ≡ watch.limit

  -- that is done by the watch, if there is one; without one nothing is done
  abbrev pub ByWatch : {R : Type 0} (act : SweepCursor → SweepCursor → LinkTable F → LinkTable F → R → R → Type 0) (watch later : Option SweepCursor)
      (old new : LinkTable F) (old_rests new_rests : R) → Type 0
  ByWatch act watch later old new old_rests new_rests =
      MatchOption watch ((new ≡ old) × (new_rests ≡ old_rests))
      (λ stood. MatchOption later ⊥ (λ stands. act stood stands old new old_rests new_rests))

  -- links without an event are asked again, and connections linger for this many nanoseconds at most
  abbrev pub AsksUnheard : {R : Type 0} (known : F → Option Readiness) (sends : R → ℕ → R → Type 0) (nanos : ℕ)
      (before now : Instant) (watch later : SweepCursor) (old new : LinkTable F) (old_rests new_rests : R) → Type 0
  AsksUnheard known sends nanos before now watch later old new old_rests new_rests =
      (linger : Duration) × ((as_nanos linger ≡ nanos) × LooksInTurn known sends (AskUnheard linger) before now watch later old new old_rests new_rests)

  -- Links are looked at that weren't heard of between two polls: idle ones are ended for this reason, and then
  -- unheard ones are asked again, each by its watch.
  pub record LooksAround {R : Type 0} (known : F → Option Readiness) (sends : R → ℕ → R → Type 0) (parting : CloseReason)
      (before now : Instant) (idle later_idle unheard later_unheard : Option SweepCursor) (old new : LinkTable F)
      (old_rests new_rests : R) : Type 0 where
    pub mid : LinkTable F
    pub rests : R
    pub ends : ByWatch (LooksInTurn known sends (EndIdle parting) before now) idle later_idle old mid old_rests rests
    pub asks : ByWatch (AsksUnheard known sends 2_000_000_000 before now) unheard later_unheard mid new rests new_rests

  -- a link that is handed out has the next number, and nothing else counts as one
  abbrev pub HandsOut : {A : Type 0} → Option A → LinkTable F → LinkTable F → Type 0
  HandsOut None old new = new.given ≡ old.given
  HandsOut (Some link) old new = new.given ≡ (old.given + 1) % 2 ^ 64

  -- the next link counts if it is one
  abbrev pub CountsNext : {A : Type 0} → Next A → LinkTable F → LinkTable F → Type 0
  CountsNext (Link link) old new = HandsOut (Some link) old new
  CountsNext Later old new = new.given ≡ old.given
  CountsNext Closed old new = new.given ≡ old.given

  -- the oldest name is taken, and nothing else changes
  pub record Names (name : Option ℕ) (old new : LinkTable F) : Type 0 where
    pub names : old.named.items ≡ option_to_list name ++ new.named.items
    pub same : new ≡ record old { named = new.named }

  -- a link gets a place: its record has the next number, and stands there or behind all others
  pub record Settles (at : ℕ) (cell : F) (old new : LinkTable F) : Type 0 where
    pub place : LinkRecord F
    pub number : place.number ≡ old.given
    pub readiness : place.readiness ≡ cell
    pub there : at < length old.places.items → new.places.items ≡ slice_set old.places.items at place
    pub behind : at ≡ length old.places.items → new.places.items ≡ old.places.items ++ place ∷ []
    pub within : at ≤ length old.places.items
    pub names : new.named ≡ old.named
    pub given : new.given ≡ old.given
