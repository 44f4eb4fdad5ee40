-- What is announced by a line that was noted.
use Rattle.std.proofs.Common.{◌≡◌, ◌<◌, ◌≤◌, ◌+◌, ◌-◌, ◌^◌, min, ℕ, List, take, drop, length, refl, sym, ap, ◌∙◌, subst, arith, Result, Ok, Err, Some, None}
use Rattle.std.proofs.lemmas.List.{take-append-drop, length-take, length-take-le}
use Rattle.mc_protocol.specs.Commands.{block_in}
use Rattle.mc_protocol.specs.declared.fault.LineFault.{LineFault}
use Rattle.std.specs.Str.Lines.{strip_carriage_return}
use Rattle.mc_protocol.specs.Words.{words}
use Rattle.mc_parse.specs.declared.note.Note.{Note}
use Rattle.mc_parse.specs.Lines.{meaning}
use Rattle.mc_parse.specs.Units.{HasLine}
use Rattle.mc_parse.specs.Notes.{Noted, said, IsNoted}
use Rattle.mc_parse.specs.Aheads.{HasNoFeed}
use Rattle.mc_parse.specs.Announcing.{whole_with, whole_by, Announces}
use Rattle.mc_parse.proofs.UnitLemmas.{same_text, long_text, at_feed}
use Rattle.mc_parse.proofs.NoteLemmas.{block_stays, says_text}

-- bytes begin with one line at most
same_end : (greatest : ℕ) (bytes : List ℕ) (end other : ℕ) → HasLine end bytes → HasLine other bytes → end ≡ other
same_end greatest bytes end other one two =
    let both = sym (at_feed greatest bytes end one.1) ∙ at_feed greatest bytes other two.1 in
    let texts = same_text (take end bytes) (take other bytes) (drop (end + 1) bytes) (drop (other + 1) bytes) one.1.one_line two.1.one_line both in
    omega (arith, one.0, two.0, ap length texts.0, length-take-le end bytes (omega (arith, one.0)), length-take-le other bytes (omega (arith, two.0)))

-- a line is at most 65536 bytes long
pub end_within : (bytes : List ℕ) (end : ℕ) → HasLine end bytes → end ≤ 65536
end_within bytes end has = omega (arith, has.0, has.1.short, length-take-le end bytes (omega (arith, has.0)))

-- where no line feed is among so many bytes, they begin with no line
no_line : (greatest : ℕ) (bytes : List ℕ) (end : ℕ) → HasNoFeed 65537 bytes → HasLine end bytes → ⊥
no_line greatest bytes end none has =
    long_text (take end bytes) (take 65537 bytes) (drop (end + 1) bytes) (drop 65537 bytes) has.1.one_line none
    (omega (arith, has.0, end_within bytes end has, length-take end bytes, length-take 65537 bytes))
    (sym (at_feed greatest bytes end has.1) ∙ sym (take-append-drop 65537 bytes))

pub announces_none : (greatest : ℕ) (bytes : List ℕ) → HasNoFeed 65537 bytes → Announces greatest bytes 0
announces_none greatest bytes none = record { line = λ end has. absurd (no_line greatest bytes end none has); some = λ more. absurd (omega (arith, more)) }

-- the length that a noted line announces
abbrev pub whole_of : (end : ℕ) → Result Noted LineFault → ℕ
whole_of end (Err fault) = 0
whole_of end (Ok noted) = whole_with end (block_in noted)

whole_said : (end : ℕ) (text : List ℕ) (found : Result Noted LineFault) → whole_of end found ≡ whole_by end (said text found)
whole_said end text (Err fault) = refl
whole_said end text (Ok noted) = ap (whole_with end) (sym (block_stays text noted))

pub announces_noted : (greatest : ℕ) (bytes : List ℕ) (note : Note) (all : ℕ) → IsNoted greatest note bytes → all ≡ whole_of note.end note.said → Announces greatest bytes all
announces_noted greatest bytes note all is whole =
    let here : HasLine note.end bytes = (is.inside, is.line) in
    let its : all ≡ whole_by note.end (meaning greatest (words (strip_carriage_return (take note.end bytes)))) =
    whole ∙ whole_said note.end (take note.to bytes) note.said ∙ ap (whole_by note.end) (sym (says_text greatest note bytes is)) in
    record {
      line = λ end has. subst (λ e. all ≡ whole_by e (meaning greatest (words (strip_carriage_return (take e bytes))))) (same_end greatest bytes note.end end here has) its;
      some = λ _. (note.end, here);
    }

-- a line with a block: nothing that is added is lost
pub announces_block : (greatest : ℕ) (bytes : List ℕ) (note : Note) (noted : Noted) (len behind all : ℕ) → note.said ≡ Ok noted → block_in noted ≡ Some len
    → len < 2 ^ 32 → behind ≡ min (note.end + 3) (2 ^ 64 - 1) → all ≡ min (behind + len) (2 ^ 64 - 1) → IsNoted greatest note bytes → Announces greatest bytes all
announces_block greatest bytes note noted len behind all its block short first second is =
    let here = end_within bytes note.end (is.inside, is.line) in
    let sum : all ≡ note.end + 3 + len = omega (arith, short, first, second, here) in
    announces_noted greatest bytes note all is (sum ∙ sym (ap (whole_of note.end) its ∙ ap (whole_with note.end) block))

-- a line without one
pub announces_no_block : (greatest : ℕ) (bytes : List ℕ) (note : Note) (noted : Noted) → note.said ≡ Ok noted → block_in noted ≡ None
    → IsNoted greatest note bytes → Announces greatest bytes 0
announces_no_block greatest bytes note noted its block is = announces_noted greatest bytes note 0 is (sym (ap (whole_of note.end) its ∙ ap (whole_with note.end) block))

-- a line with a fault
pub announces_fault : (greatest : ℕ) (bytes : List ℕ) (note : Note) (fault : LineFault) → note.said ≡ Err fault → IsNoted greatest note bytes → Announces greatest bytes 0
announces_fault greatest bytes note fault its is = announces_noted greatest bytes note 0 is (sym (ap (whole_of note.end) its))
