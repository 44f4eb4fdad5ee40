-- What happens at the place of a link.
use Rattle.std.specs.Prelude.{◌≡◌, ◌≤◌, ◌-◌, ◌↔◌, ◌&&◌, ◌||◌, ℕ, List, [], ◌∷◌, ◌++◌, Bool, true, false, not, if◌then◌else◌, is_some, MatchBool, MatchOption, Option, Some, None, IfSome, IsTrue}
use Rattle.std.specs.Duration.{as_nanos}
use Rattle.std.specs.Time.{instant_nanos}
use Rattle.std.specs.declared.time.Instant.{Instant}
use Rattle.mc_sockets.specs.declared.connection.CloseReason.{CloseReason}
use Rattle.mc_sockets.specs.declared.link_record.LinkRecord.{LinkRecord}
use Rattle.mc_sockets.specs.declared.link_record.SweepLimits.{SweepLimits}
use Rattle.mc_sockets.specs.declared.readiness.Readiness.{Readiness}
use Rattle.mc_sockets.specs.declared.readiness.Report.{Report}
use Rattle.mc_sockets.specs.Readiness.{Happening, AskedAgain, Ended, Reported, after, names}

-- A link is named if it waits: its number is appended to the queue of names, and it goes on. A queue
-- that is full may find no memory for the number: then the link waits on.
pub record NamesIf (waits : Bool) (number : ℕ) (IsFull : Type 0) (next : Readiness) (new : Option Readiness) (old_names new_names : List ℕ) : Type 0 where
  pub has_room : Bool
  pub full : has_room ≡ false → IsFull
  pub names : new_names ≡ (if waits && has_room then old_names ++ number ∷ [] else old_names)
  pub noted : IfSome new (λ stands. stands ≡ record next { waits = waits && not has_room })

-- what a worker makes of a happening: it notes what is known then, and names the link if that is due
pub record Happens (happening : Happening) (number : ℕ) (IsFull : Type 0) (old new : Option Readiness) (old_names new_names : List ℕ) : Type 0 where
  pub known : Readiness
  pub is_known : IfSome old (λ stood. known ≡ stood)
  pub named : NamesIf (names known happening) number IsFull (after known happening) new old_names new_names

-- Whether something has lasted for the limit. It is so or isn't; if it is, it was first seen at a moment,
-- or it wasn't seen before, and then it is seen now.
abbrev pub HasLasted : SweepLimits → (is_so : Bool) → (seen : Option Instant) → (result : Bool) → (sees : Option Instant) → Type 0
HasLasted look is_so seen result sees =
    MatchBool is_so
    (MatchOption seen ((result ≡ false) × (sees ≡ Some look.now))
    (λ since. (IsTrue result ↔ (as_nanos look.limit ≤ instant_nanos look.before - instant_nanos since)) × (sees ≡ seen)))
    (result ≡ false)

-- a link waits since it was first seen to, and one that began to wait anew wasn't seen yet
abbrev pub seen_waiting : Readiness → Option Instant → Option Instant
seen_waiting known seen = if known.is_fresh then None else seen

-- A link waits for its client: for input, or for room in the socket. One that waits though there may be both
-- waits for memory, and its client isn't idle.
abbrev pub waits_for_client : Readiness → Bool
waits_for_client known = known.waits && not (known.reads && known.writes)

-- its write side is shut down, and it hasn't lingered for long yet
abbrev pub lingers : Readiness → Bool
lingers known = is_some known.dropped && not known.has_lingered

-- what a look finds, by what is known of the connection
pub record Finds (old : Option Readiness) (look : SweepLimits) (is_so : Readiness → Bool) (seen : Readiness → Option Instant) (result : Bool) (sees : Option Instant) : Type 0 where
  pub known : Readiness
  pub is_known : IfSome old (λ stood. known ≡ stood)
  pub lasts : HasLasted look (is_so known) (seen known) result sees

-- whether a link was dropped, as far as its readiness is known
abbrev pub WasDropped : Option Readiness → (answer : Bool) → Type 0
WasDropped known answer = IfSome known (λ stands. answer ≡ stands.leaves)

-- that happens to the link of a record: its own number is named if one is
pub record HappensTo {F : Type 0} (known : F → Option Readiness) (happening : Happening) (IsFull : Type 0) (old new : LinkRecord F) (old_names new_names : List ℕ) : Type 0 where
  pub number : new.number ≡ old.number
  pub happens : Happens happening old.number IsFull (known old.readiness) (known new.readiness) old_names new_names

-- that happens to the link of a record, and the answer is whether the link was dropped
pub record Answers {F : Type 0} (known : F → Option Readiness) (happening : Happening) (IsFull : Type 0) (answer : Bool) (old new : LinkRecord F) (old_names new_names : List ℕ) : Type 0 where
  pub happens : HappensTo known happening IsFull old new old_names new_names
  pub left : WasDropped (known old.readiness) answer

-- the link of a record takes a report; the answer is whether the link was dropped
abbrev pub Notes : {F : Type 0} → (known : F → Option Readiness) → Report → (IsFull : Type 0) → (answer : Bool) → (old new : LinkRecord F) → (old_names new_names : List ℕ) → Type 0
Notes known report = Answers known (Reported report)

-- the same if its number is this, and nothing if it has another
pub record HappensIf {F : Type 0} (known : F → Option Readiness) (happening : Happening) (number : ℕ) (IsFull : Type 0) (old new : LinkRecord F) (old_names new_names : List ℕ) : Type 0 where
  pub own : old.number ≡ number → Happens happening number IsFull (known old.readiness) (known new.readiness) old_names new_names
  pub others : (old.number ≡ number → ⊥) → (new ≡ old) × (new_names ≡ old_names)

-- A connection ends if its link has waited for its client for the limit, and else only the look is noted. The answer
-- is whether it ended and its link was dropped.
pub record EndsIfIdle {F : Type 0} (known : F → Option Readiness) (look : SweepLimits) (parting : CloseReason) (IsFull : Type 0)
    (answer : Bool) (old new : LinkRecord F) (old_names new_names : List ℕ) : Type 0 where
  pub has_waited : Bool
  pub seen : LinkRecord F
  pub number : new.number ≡ old.number
  pub finds : Finds (known old.readiness) look (λ stood. waits_for_client stood) (λ stood. seen_waiting stood old.waits_since) has_waited seen.waits_since
  pub ends : MatchBool has_waited (HappensTo known (Ended parting) IsFull seen new old_names new_names) ((new ≡ seen) × (new_names ≡ old_names))
  pub left : MatchBool has_waited (WasDropped (known seen.readiness) answer) (answer ≡ false)

-- A link is asked again if it waits or was dropped, and had no event for the limit. Else only the
-- look is noted. The answer is whether it was asked and is dropped.
pub record AsksIfUnheard {F : Type 0} (known : F → Option Readiness) (look : SweepLimits) (IsFull : Type 0) (answer : Bool)
    (old new : LinkRecord F) (old_names new_names : List ℕ) : Type 0 where
  pub is_unheard : Bool
  pub seen : LinkRecord F
  pub number : new.number ≡ old.number
  pub finds : Finds (known old.readiness) look (λ stood. stood.waits || stood.leaves) (λ _. old.asked_since) is_unheard seen.asked_since
  pub asks : MatchBool is_unheard (HappensTo known AskedAgain IsFull seen new old_names new_names) ((new ≡ seen) × (new_names ≡ old_names))
  pub left : MatchBool is_unheard (WasDropped (known new.readiness) answer) (answer ≡ false)

-- One that has lingered for its limit is to be closed, and the answer is yes. Any other is asked again if it had no event.
pub record AsksOrCloses {F : Type 0} (known : F → Option Readiness) (linger look : SweepLimits) (IsFull : Type 0) (answer : Bool)
    (old new : LinkRecord F) (old_names new_names : List ℕ) : Type 0 where
  pub has_lingered : Bool
  pub seen : LinkRecord F
  pub number : new.number ≡ old.number
  pub finds : Finds (known old.readiness) linger (λ stood. lingers stood) (λ _. old.lingers_since) has_lingered seen.lingers_since
  pub asks : MatchBool has_lingered ((new ≡ seen) × ((new_names ≡ old_names) × (answer ≡ true)))
      (AsksIfUnheard known look IsFull answer seen new old_names new_names)
