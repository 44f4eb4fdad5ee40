-- What a round does to the store, where guests that want much may be kept waiting.
use Rattle.std.specs.Prelude.{◌≡◌, ◌⊎◌, ◌<◌, ◌-◌, ◌/◌, ◌^◌, ◌||◌, ℕ, nat_lt, nat_le, if◌then◌else◌, List, [], length, min, Some, IsFalse}
use Rattle.mc_protocol.specs.declared.step.KeyStep.{KeyStep}
use Rattle.mc_protocol.specs.declared.step.KeyStep.TheVariants.{Read}
use Rattle.mc_protocol.specs.declared.step.Steps.{Ghosts as Relations}
use Rattle.mc_protocol.specs.declared.reply.Reply.{Reply}
use Rattle.mc_protocol.specs.declared.reply.Reply.TheVariants.{Hit}
use Rattle.mc_session.specs.Reading.{ReadsNext}
use Rattle.mc_session.specs.Turns.{SessionState, closed}
use Rattle.mc_guests.specs.Guests.{GuestState, has_ended}
use Rattle.mc_guests.specs.Links.{failed}
use Rattle.mc_guests.specs.Visits.{Visited}
use Rattle.mc_time.specs.Chains.{Repeats}
use Rattle.mc_guests.specs.declared.guest.Visit.{Visit}
use Rattle.mc_guests.specs.declared.guest.Visit.TheVariants.{Broken}

-- the greatest number of a counter; a counter that has it stays
abbrev pub most : ℕ
most = 2 ^ 64 - 1

-- how many bytes a guest may hold, however much others do
abbrev pub little : ℕ
little = 16384

-- how many bytes a guest asks for before a large block comes, where its request has so many and so many are reserved: all,
-- but none while few are reserved, or once all have room
abbrev pub missing_of : (announced reserved : ℕ) → ℕ
missing_of announced reserved =
    if nat_lt reserved (min little (announced / 16)) || nat_le announced reserved then 0 else announced

-- its link failed or was to end while it was kept waiting, so that it has ended
pub record LosesLink (old new : GuestState) : Type 0 where
  pub goes_on : IsFalse (has_ended old.last)
  pub last : new.last ≡ Some Broken
  pub session : new.session ≡ closed old.session
  pub link : new.link ≡ failed old.link

-- a guest stays as it was, or has ended with its link
abbrev pub StaysOrLosesLink : (old new : GuestState) → Type 0
StaysOrLosesLink old new = (new ≡ old) ⊎ LosesLink old new

-- a guest's session names this key for its next turn: all output was written, and that turn reads the key
pub record NamesKey (session : SessionState) (key : List ℕ) : Type 0 where
  pub written : session.out ≡ []
  pub reads : ReadsNext session key

-- the length of the block of a reply; only a hit has one
abbrev pub block_length : Reply → ℕ
block_length (Hit flags unique block) = length block
block_length reply = 0

-- this number of bytes of the block of a reply is copied: all, or none if the block is lent; a block of less than
-- 32 KiB isn't lent
pub record IsCopied (bytes : ℕ) (reply : Reply) : Type 0 where
  pub some : (bytes ≡ min (block_length reply) most) ⊎ (bytes ≡ 0)
  pub short : block_length reply < 32768 → bytes ≡ min (block_length reply) most

module _ {S : Type 0} (took : S → KeyStep → ℕ → Reply → S → Type 0) (now : ℕ) where
  -- a key was read at that moment, and so many bytes of the block that was found are copied; 0 if none was
  pub record ReadsLength (key : List ℕ) (bytes : ℕ) (before after : S) : Type 0 where
    pub reply : Reply
    pub took_it : took before (Read key) now reply after
    pub length_is : IsCopied bytes reply

-- a key was read at that moment
abbrev pub WasRead : {S : Type 0} → (S → KeyStep → ℕ → Reply → S → Type 0) → (now : ℕ) (key : List ℕ) (before after : S)
    → Type 0
WasRead took now key before after = (reply : Reply) × took before (Read key) now reply after

-- a key was read at that moment, or the store holds the same
abbrev pub MayRead : {S : Type 0} → (S → KeyStep → ℕ → Reply → S → Type 0) → (S → S → Type 0) → (now : ℕ) (key : List ℕ)
    (before after : S) → Type 0
MayRead took same now key before after = same before after ⊎ WasRead took now key before after

-- no unique number is left for the read of a key
abbrev pub SpendsRead : {S : Type 0} → (spent : S → KeyStep → ℕ → Type 0) → (now : ℕ) (key : List ℕ) (before : S) → Type 0
SpendsRead spent now key before = spent before (Read key) now

module _ {S : Type 0} (relations : Relations S) (now : ℕ) where
  -- a key that is named was read at that moment
  pub record ReadsKey (names : List ℕ → Type 0) (before after : S) : Type 0 where
    pub key : List ℕ
    pub named : names key
    pub reply : Reply
    pub took_it : relations.took before (Read key) now reply after

  -- the store was asked how long the block of a key is that is named: nothing changed, what it holds is the same, or
  -- the key was read once
  abbrev pub MayAsk : (names : List ℕ → Type 0) (before after : S) → Type 0
  MayAsk names before after = (after ≡ before) ⊎ (relations.same before after ⊎ ReadsKey names before after)

  -- a key that is named was read, and so many bytes of the block that was found are copied
  pub record ReadsNamed (names : List ℕ → Type 0) (bytes : ℕ) (before after : S) : Type 0 where
    pub key : List ℕ
    pub named : names key
    pub reads : ReadsLength relations.took now key bytes before after

  -- no key is named, and nothing was read
  pub record NamesNone (names : List ℕ → Type 0) (bytes : ℕ) (before after : S) : Type 0 where
    pub none : (key : List ℕ) → names key → ⊥
    pub zero : bytes ≡ 0
    pub store : after ≡ before

  -- so many bytes of the block of the key that is named are copied, by a read at that moment; 0 if no key is named
  abbrev pub MeasuresNext : (names : List ℕ → Type 0) (bytes : ℕ) (before after : S) → Type 0
  MeasuresNext names bytes before after = ReadsNamed names bytes before after ⊎ NamesNone names bytes before after

  -- the store may have been asked how long the block of the guest's next key is, and then the guest was visited
  pub record AsksAndVisits (answer : Visit) (old new : GuestState) (before after : S) : Type 0 where
    pub between : S
    pub asks : MayAsk (NamesKey old.session) before between
    pub visits : Visited relations now answer old new between after

  -- the guest is kept waiting: it stays as it was or has ended with its link, and the store may have been asked how
  -- long the block of its next key is
  pub record IsKeptWaiting (old new : GuestState) (before after : S) : Type 0 where
    pub stays : StaysOrLosesLink old new
    pub asks : MayAsk (NamesKey old.session) before after

  -- a round comes to one guest: it was visited, or is kept waiting
  pub record ComesToOne (before after : S) : Type 0 where
    pub old : GuestState
    pub new : GuestState
    pub turn : ((answer : Visit) × AsksAndVisits answer old new before after) ⊎ IsKeptWaiting old new before after

  -- A round comes to guests one after another, and the store goes from each to the next.
  abbrev pub MakesRound : (before after : S) → Type 0
  MakesRound before after = (count : ℕ) × Repeats ComesToOne count before after
