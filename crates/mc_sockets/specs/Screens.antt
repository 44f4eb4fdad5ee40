-- A link behind its screen, which ends a peer of another protocol.
use Rattle.std.specs.Prelude.{◌≡◌, ◌<◌, ◌≤◌, ◌-◌, ℕ, Bool, true, false, List, ◌++◌, length, take, Option, Some, None, IfSome, option_map, Result, Ok}
use Rattle.mc_links.specs.Links.{LinkState, Gives}
use Rattle.mc_links.specs.declared.link.Got.{Got}
use Rattle.mc_links.specs.declared.link.Got.TheVariants.{Bytes, End}
use Rattle.mc_links.specs.declared.link.LinkFault.{LinkFault}
use Rattle.mc_sockets.specs.Openings.{Judges, other_protocol, shown_behind}
use Rattle.mc_sockets.specs.declared.opening.PieceOpening.{PieceOpening}
use Rattle.mc_sockets.specs.declared.opening.PieceOpening.TheVariants as verdict
use Rattle.mc_sockets.specs.declared.opening.Opening.{Opening}
use Rattle.mc_sockets.specs.declared.opening.Opening.TheVariants as opening
use Rattle.mc_sockets.specs.declared.opening.Protocol.{Protocol}
use Rattle.mc_sockets.specs.declared.opening.Protocol.TheVariants.{Binary, Http}
use Rattle.mc_sockets.specs.declared.screen.Reads.{Reads}

-- another protocol was recognized
abbrev pub is_other : Opening → Bool
is_other (opening.Other protocol) = true
is_other (opening.Open part) = false
is_other opening.Settled = false

-- what is handed on of the bytes that the link below gave: all, or all but the last that are withheld
abbrev pub handed_on : Opening → (withheld : ℕ) → Option (List ℕ) → Option (List ℕ)
handed_on (opening.Other protocol) withheld given = option_map (λ all. take (length all - withheld) all) given
handed_on (opening.Open part) withheld given = given
handed_on opening.Settled withheld given = given

-- a link as it is behind its screen
abbrev pub screened : Opening → Reads → LinkState → LinkState
screened opening reads link = record link {
  given = handed_on opening reads.withheld link.given;
  is_ended = reads.is_ended;
  was_read = reads.was_read;
  requested = reads.requested;
}

-- up to the recognized beginning, of this many bytes: a request line is handed on whole, and of the piece with a
-- header's last byte nothing is
abbrev pub EndsAt : Protocol → (count handed : ℕ) → Type 0
EndsAt Http count handed = handed ≡ count
EndsAt Binary count handed = handed < count

-- Of all these bytes so many show another protocol, and one fewer shows none. All but the last that are
-- withheld were handed on.
pub record IsRecognized (protocol : Protocol) (withheld : ℕ) (all : List ℕ) : Type 0 where
  pub count : ℕ
  pub within : count ≤ length all
  pub shows : other_protocol (take count all) ≡ Some protocol
  pub before : other_protocol (take (count - 1) all) ≡ None
  pub ends : EndsAt protocol count (length all - withheld)

-- what is known is what all bytes show that the link below gave
abbrev pub StandsFor : Opening → (withheld : ℕ) → (all : List ℕ) → Type 0
StandsFor (opening.Open part) withheld all = (text : List ℕ) → other_protocol (all ++ text) ≡ shown_behind part text
StandsFor opening.Settled withheld all = (text : List ℕ) → other_protocol (all ++ text) ≡ None
StandsFor (opening.Other protocol) withheld all = IsRecognized protocol withheld all

-- the same as far as the bytes are known
abbrev pub Stands : Opening → Reads → Option (List ℕ) → Type 0
Stands opening reads given = IfSome given (λ all. StandsFor opening reads.withheld all)

-- a piece is judged by what was known before; nothing is judged any more once it is known
abbrev pub JudgesOn : Opening → (bytes : List ℕ) → PieceOpening → Type 0
JudgesOn (opening.Open part) bytes judged = Judges part bytes judged
JudgesOn opening.Settled bytes judged = judged ≡ verdict.Settled
JudgesOn (opening.Other protocol) bytes judged = ⊥

-- What is handed on of a piece of so many bytes that was judged so: all of it, or a request line, or nothing
-- of a piece that shows a header. What isn't handed on is withheld.
abbrev pub IsHanded : PieceOpening → (bytes : ℕ) → Got → Opening → (old new : Reads) → Type 0
IsHanded (verdict.Open part) bytes got known old new = (got ≡ Bytes bytes) × (known ≡ opening.Open part) × (new ≡ old)
IsHanded verdict.Settled bytes got known old new = (got ≡ Bytes bytes) × (known ≡ opening.Settled) × (new ≡ old)
IsHanded (verdict.Other Http count) bytes got known old new =
    (got ≡ Bytes count) × (known ≡ opening.Other Http) × (new ≡ record old { withheld = bytes - count })
IsHanded (verdict.Other Binary count) bytes got known old new =
    (got ≡ End) × (known ≡ opening.Other Binary) × (new ≡ record old { withheld = bytes; is_ended = true })

-- a piece of the link below is judged and handed on
pub record HandsOn (bytes : List ℕ) (count : ℕ) (got : Got) (before after : Opening) (old new : Reads) : Type 0 where
  pub judged : PieceOpening
  pub judges : JudgesOn before bytes judged
  pub handed : IsHanded judged count got after old new
