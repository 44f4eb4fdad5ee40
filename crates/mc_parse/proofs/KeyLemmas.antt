-- No key of a command that is spelled is longer than 250 bytes.
use Rattle.std.proofs.Common.{◌≡◌, ◌≤◌, ℕ, true, false, List, length, map, refl, sym, subst, Result, Ok, Err, if◌then◌else◌, Option, Some, None, IfSome}
use Rattle.std.specs.List.{All}
use Rattle.std.specs.Str.{bytes_eq}
use Rattle.std.proofs.Common.{◌∷◌, []}
use Rattle.std.specs.Str.Lines.{strip_carriage_return}
use Rattle.std.proofs.lemmas.List.{drop-map}
use Rattle.std.proofs.lemmas.List.Elements.{All-drop}
use Rattle.mc_protocol.specs.Words.{words}
use Rattle.mc_protocol.specs.Commands.{Shape, Single, Retrieval, Alone, shape, shape_left, block_in, steps_by, read_step, HasShortKeys, after_steps, after_steps-shape, key_of}
use Rattle.mc_protocol.specs.Commands.{Command}
use Rattle.mc_protocol.specs.declared.step.KeyStep.{KeyStep}
use Rattle.mc_protocol.specs.declared.fault.LineFault.{LineFault}
use Rattle.mc_protocol.specs.declared.fault.LineFault.TheVariants.{BadChunk}
use Rattle.mc_parse.specs.Lines.{Line, meaning}
use Rattle.mc_parse.specs.Units.{ProtocolUnit, Request, Fault, LongLine, CompletesBy, Completes, with_block, stored}
use Rattle.mc_parse.specs.Peeks.{IsSpelled, IsLeft, left_of}
use Rattle.mc_parse.proofs.LineLemmas.{short_keys}

-- where a block completes a command it is this one
stored_is : (line : Line) (block ended : List ℕ) (command : Command) → Request command ≡ stored line block ended → command ≡ with_block line block
stored_is line block ended command =
    elim (bytes_eq ended (13 ∷ 10 ∷ [])) as (λ b. Request command ≡ (if b then Request (with_block line block) else Fault BadChunk) → command ≡ with_block line block) [
      | true ↦ λ e. cc
      | false ↦ λ e. absurd (cc)
    ]

line_is : (its : Option ℕ) (line : Line) (rest : List ℕ) (command : Command) → CompletesBy its line rest (Request command) → (block : List ℕ) × (command ≡ with_block line block)
line_is None line rest command h = let e = h.1 in ([], cc)
line_is (Some len) line rest command h = (h.0, stored_is line h.0 h.1 command h.5)

-- a command that is completed is that of the line, with its block
pub command_is : (m : Result Line LineFault) (rest : List ℕ) (command : Command) → Completes m rest (Request command) → (line : Line) × (m ≡ Ok line)
    × (block : List ℕ) × (command ≡ with_block line block)
command_is (Err fault) rest command h = let e = h.1 in absurd (cc)
command_is (Ok line) rest command h = let its = line_is (block_in line) line rest command h in (line, refl, its.0, its.1)

completed_keys : (greatest : ℕ) (ws : List (List ℕ)) (rest : List ℕ) (command : Command) → Completes (meaning greatest ws) rest (Request command) → HasShortKeys command
completed_keys greatest ws rest command h =
    let is = command_is (meaning greatest ws) rest command h in
    subst HasShortKeys (sym is.3) (short_keys greatest ws is.0 is.2 is.1)

-- the keys of a command that a front spells are short
pub spelled_keys : (greatest : ℕ) (command : Command) (len : ℕ) (bytes : List ℕ) → IsSpelled greatest (Request command, len) bytes → HasShortKeys command
spelled_keys greatest command len bytes h =
    let line = h.spelled in
    completed_keys greatest (words (strip_carriage_return line.text)) line.rest command line.completes

abbrev IsShortStep : KeyStep → Type 0
IsShortStep step = length (key_of step) ≤ 250

-- and so are those that are left of it
keys_left : (its : Shape) (taken : ℕ) → All IsShortStep (steps_by its) → All IsShortStep (steps_by (shape_left its taken))
keys_left (Single step has_block quiet) taken short = short
keys_left (Retrieval exptime keys with_unique) taken short =
    subst (All IsShortStep) (drop-map (λ key. read_step exptime key) taken keys) (All-drop IsShortStep taken (map (λ key. read_step exptime key) keys) short)
keys_left (Alone lone) taken short = short

pub left_keys : (command : Command) (taken : ℕ) → HasShortKeys command → HasShortKeys (after_steps command taken)
left_keys command taken short = subst (λ its. All IsShortStep (steps_by its)) (sym (after_steps-shape command taken)) (keys_left (shape command) taken short)

left_command : (greatest taken : ℕ) (bytes : List ℕ) (unit : ProtocolUnit) (command : Command) (len : ℕ) → IsSpelled greatest (unit, len) bytes
    → Request command ≡ left_of unit taken → HasShortKeys command
left_command greatest taken bytes (Request whole) command len is left =
    let same : after_steps whole taken ≡ command = cc in
    subst HasShortKeys same (left_keys whole taken (spelled_keys greatest whole len bytes is))
left_command greatest taken bytes (Fault fault) command len is left = absurd (cc)
left_command greatest taken bytes LongLine command len is left = absurd (cc)

-- so the keys of what was found are short
pub found_keys : (greatest passed : ℕ) (bytes : List ℕ) (found : Option (ProtocolUnit × ℕ)) → IfSome found (λ p. (passed ≡ 0) × IsSpelled greatest p bytes)
    → (command : Command) (len : ℕ) → found ≡ Some (Request command, len) → HasShortKeys command
found_keys greatest passed bytes found is command len e =
    let h : (passed ≡ 0) × IsSpelled greatest (Request command, len) bytes = subst (λ o. IfSome o (λ p. (passed ≡ 0) × IsSpelled greatest p bytes)) e is in
    spelled_keys greatest command len bytes h.1

-- and so they are where it is what is left of a unit
pub left_found_keys : (greatest taken passed : ℕ) (bytes : List ℕ) (found : Option (ProtocolUnit × ℕ))
    → IfSome found (λ p. (passed ≡ 0) × IsLeft greatest taken p bytes) → (command : Command) (len : ℕ) → found ≡ Some (Request command, len) → HasShortKeys command
left_found_keys greatest taken passed bytes found is command len e =
    let h : (passed ≡ 0) × IsLeft greatest taken (Request command, len) bytes = subst (λ o. IfSome o (λ p. (passed ≡ 0) × IsLeft greatest taken p bytes)) e is in
    left_command greatest taken bytes h.1.unit command len h.1.spelled h.1.left
