-- What a visit does.
use Rattle.std.specs.Prelude.{◌≡◌, ◌⊎◌, ◌<◌, ◌≤◌, ℕ, true, false, List, [], ◌++◌, length, zip, Some, IsTrue, IsFalse}
use Rattle.mc_protocol.specs.declared.step.Steps.{Ghosts as Relations}
use Rattle.mc_session.specs.Turns.{TakesTurn, DecidesStep, closed, fed}
use Rattle.mc_guests.specs.Links.{IsRoom, asked, gave, took, failed, ended}
use Rattle.mc_guests.specs.Guests.{GuestState, ends, has_ended, IsTurnDue, IsWaiting, AwaitsLink, wants, IsOffer, IsDemand}
use Rattle.mc_time.specs.Chains.{Chain}
use Rattle.mc_guests.specs.declared.guest.Visit.{Visit}
use Rattle.mc_guests.specs.declared.guest.Visit.TheVariants.{Wrote, Turned, Read, Later, Served, Broken, Refused}

-- the link was offered a front of the output and took a front of that, which leaves the output
pub record WritesFront (old new : GuestState) : Type 0 where
  pub part : List ℕ
  pub some : 0 < length part
  pub parts : old.session.out ≡ part ++ new.session.out
  pub session : new.session ≡ record old.session { out = new.session.out }
  pub link : new.link ≡ took (asked false new.link.requested old.link) part
  pub offered : IsOffer new.link.requested (length old.session.out)
  pub within : length part ≤ new.link.requested

-- the link was lent room and gave a piece of at least one byte, which was fed
pub record ReadsPiece (old new : GuestState) : Type 0 where
  pub piece : List ℕ
  pub some : 0 < length piece
  pub waits : IsWaiting old.session
  pub session : new.session ≡ fed old.session piece
  pub link : new.link ≡ gave (asked true new.link.requested old.link) piece
  pub room : IsRoom new.link.requested

-- nothing can be done now, as the link said when it was asked; a call that moved no byte says so
pub record WaitsForLink (old new : GuestState) : Type 0 where
  pub awaits : AwaitsLink old.session
  pub session : new.session ≡ old.session
  pub link : new.link ≡ asked (wants awaits) new.link.requested old.link
  pub demand : IsDemand old.session awaits new.link.requested

-- all was written, and the session was closed or its stream is at its end
pub record EndsServed (old new : GuestState) : Type 0 where
  pub written : old.session.out ≡ []
  pub session : new.session ≡ closed old.session
  pub over : (IsFalse old.session.is_open × (new.link ≡ old.link))
      ⊎ (IsWaiting old.session × (new.link ≡ ended (asked true new.link.requested old.link))
      × IsRoom new.link.requested)

-- the link failed
pub record EndsBroken (old new : GuestState) : Type 0 where
  pub awaits : AwaitsLink old.session
  pub session : new.session ≡ closed old.session
  pub link : new.link ≡ failed (asked (wants awaits) new.link.requested old.link)
  pub demand : IsDemand old.session awaits new.link.requested

-- there was no memory for a piece, or no room of 1 to `longest_piece` bytes, and the link wasn't asked
pub record RefusesPiece (old new : GuestState) : Type 0 where
  pub waits : IsWaiting old.session
  pub session : new.session ≡ closed old.session
  pub link : new.link ≡ old.link

-- what comes of a write, by the answer
abbrev pub Writes : Visit → (old new : GuestState) → Type 0
Writes Wrote old new = WritesFront old new
Writes Later old new = WaitsForLink old new
Writes Broken old new = EndsBroken old new
Writes answer old new = ⊥

-- what comes of a read, by the answer
abbrev pub Reads : Visit → (old new : GuestState) → Type 0
Reads Read old new = ReadsPiece old new
Reads Later old new = WaitsForLink old new
Reads Served old new = EndsServed old new
Reads Broken old new = EndsBroken old new
Reads Refused old new = RefusesPiece old new
Reads answer old new = ⊥

-- a guest that had ended answers what it answered last, and stays as it is
pub record FindsEnded {S : Type 0} (answer : Visit) (old new : GuestState) (before after : S)
    : Type 0 where
  pub is_last : IsTrue (ends answer)
  pub last : old.last ≡ Some answer
  pub guest : new ≡ old
  pub store : after ≡ before

-- Guests as they were and as they are, one by one: from the state before to the state after there is a step for each of
-- them, in order.
abbrev pub OneByOne : {S G : Type 0} (Step : S → G × G → S → Type 0) → (olds news : List G) (before after : S) → Type 0
OneByOne Step olds news before after = (length news ≡ length olds) × Chain Step before (zip olds news) after

module _ {S : Type 0} (relations : Relations S) (now : ℕ) where
  -- a turn was due, and was taken
  pub record MakesTurn (old new : GuestState) (before after : S) : Type 0 where
    pub due : IsTurnDue old.session
    pub takes : TakesTurn relations now old.session new.session before after
    pub link : new.link ≡ old.link

  -- memory ran out over a turn, whose step may have been taken
  pub record RefusesTurn (old new : GuestState) (before after : S) : Type 0 where
    pub due : IsTurnDue old.session
    pub session : new.session ≡ closed old.session
    pub link : new.link ≡ old.link
    pub store : relations.same before after
        ⊎ DecidesStep relations now old.session before after

  -- what is done of a guest that hasn't ended, by the answer
  abbrev pub Does : Visit → (old new : GuestState) (before after : S) → Type 0
  Does Wrote old new before after = WritesFront old new × (after ≡ before)
  Does Turned old new before after = MakesTurn old new before after
  Does Read old new before after = ReadsPiece old new × (after ≡ before)
  Does Later old new before after = WaitsForLink old new × (after ≡ before)
  Does Served old new before after = EndsServed old new × (after ≡ before)
  Does Broken old new before after = EndsBroken old new × (after ≡ before)
  Does Refused old new before after =
      RefusesTurn old new before after ⊎ (RefusesPiece old new × (after ≡ before))

  -- a guest that had not ended does what is due, with that answer, which is then its last
  pub record DoesDue (answer : Visit) (old new : GuestState) (before after : S) : Type 0 where
    pub goes_on : IsFalse (has_ended old.last)
    pub last : new.last ≡ Some answer
    pub does : Does answer old new before after

  -- one visit with that answer
  abbrev pub Visited : Visit → (old new : GuestState) (before after : S) → Type 0
  Visited answer old new before after =
      FindsEnded answer old new before after ⊎ DoesDue answer old new before after

  -- a guest was visited, with some answer
  abbrev pub VisitsOnce : (before : S) (guest : GuestState × GuestState) (after : S) → Type 0
  VisitsOnce before guest after = (answer : Visit) × Visited answer guest.0 guest.1 before after

  -- A round: the guests are visited in order, once each, and the store goes from each to the next.
  abbrev pub GoesRound : (olds news : List GuestState) (before after : S) → Type 0
  GoesRound olds news before after = OneByOne VisitsOnce olds news before after
