-- The transcript of turns: the texts with which the plain machine answers them, one after another.
use Rattle.std.specs.Prelude.{◌≡◌, ◌⊎◌, ℕ, List, [], ◌∷◌, ◌++◌}
use Rattle.mc_protocol.specs.Plain.{Plain}
use Rattle.mc_parse.specs.Units.{ProtocolUnit}
use Rattle.mc_session.specs.Turns.{Answers, turns}
use Rattle.mc_world.specs.Worlds.{WorldState, in_plain, numbered, output_of}
use Rattle.mc_world.specs.Serving.{next_session}

-- No turn has no text, and changes nothing. Else the text is that of the first turn in this state,
-- at a moment that the clock may give, and then the transcript of the rest.
abbrev pub Transcript : (may_give : ℕ → Type 0) → (old : Plain) → List (ProtocolUnit × ℕ)
    → (text : List ℕ) → (left : Plain) → Type 0
Transcript may_give old [] text left = (text ≡ []) × (left ≡ old)
Transcript may_give old (turn ∷ turns) text left =
    (now : ℕ) × may_give now × (mid : Plain) × (first : List ℕ) × (rest : List ℕ)
    × Answers in_plain turn.0 turn.1 now old mid first × (text ≡ first ++ rest)
    × Transcript may_give mid turns rest left

-- some first turns of the units were taken: this is their transcript, from the old state to the new
pub record AreAnsweredSoFar (may_give : ℕ → Type 0) (old : Plain) (units : List ProtocolUnit)
    (text : List ℕ) (new : Plain) : Type 0 where
  pub done : List (ProtocolUnit × ℕ)
  pub later : List (ProtocolUnit × ℕ)
  pub parts : turns units ≡ done ++ later
  pub transcript : Transcript may_give old done text new

-- the first of these turns was taken at a moment that the clock may give, and its text is missing
abbrev pub LacksText : (may_give : ℕ → Type 0) → (old : Plain) → List (ProtocolUnit × ℕ)
    → (left : Plain) → Type 0
LacksText may_give old [] left = ⊥
LacksText may_give old (turn ∷ turns) left = (now : ℕ) × may_give now × (missing : List ℕ)
    × Answers in_plain turn.0 turn.1 now old left missing

-- some first turns of the units were taken, and then nothing, or the next turn without its text
pub record AreAnsweredUntilRefused (may_give : ℕ → Type 0) (old : Plain)
    (units : List ProtocolUnit) (text : List ℕ) (new : Plain) : Type 0 where
  pub mid : Plain
  pub so_far : AreAnsweredSoFar may_give old units text mid
  pub last : (new ≡ mid) ⊎ LacksText may_give mid so_far.later new

-- the bytes that were written, and then the output that waits in the session that was opened
abbrev pub text_of : {K : Type 0} → (old : WorldState K) → (written : List ℕ) → (new : WorldState K)
    → List ℕ
text_of old written new = written ++ output_of (numbered (next_session old) new.sessions)
