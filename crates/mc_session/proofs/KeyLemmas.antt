-- The key that is read next.
use Rattle.std.specs.Prelude.{All, option_copied, slice_get}
use Rattle.std.proofs.Common.{◌≡◌, ◌≤◌, ℕ, zero, suc, List, [], ◌∷◌, ◌++◌, length, take, drop, refl, sym, ap, ◌∙◌, subst, arith, Option, Some, None, Bor, IfSome, IsTrue}
use Rattle.mc_protocol.specs.Commands.{Command, Shape, Single, Retrieval, Alone, shape, shape_left, after_steps-shape, steps_by, HasShortKeys, key_of, longest_key}
use Rattle.mc_protocol.specs.declared.step.KeyStep.{KeyStep}
use Rattle.mc_protocol.specs.declared.step.KeyStep.TheVariants.{Flush}
use Rattle.mc_parse.specs.Units.{ProtocolUnit, Request, Fault, LongLine, Spells}
use Rattle.mc_parse.specs.Peeks.{left_of, IsLeft}
use Rattle.mc_session.specs.Turns.{SessionState, NoTurnDue, to_read}
use Rattle.mc_session.specs.Reading.{keys_read, keys_read_by, ReadsNext}
use Rattle.mc_session.proofs.LeftLemmas.{first_left}
use Rattle.mc_session.proofs.TurnLemmas.{OneSpelling, FoundLeft, whole_parts}

-- the first key that a command reads is short
first_short : (its : Shape) (key : List ℕ) → All (λ (step : KeyStep). length (key_of step) ≤ longest_key) (steps_by its)
    → slice_get (keys_read_by its) 0 ≡ Some key → length key ≤ longest_key
first_short (Single step has_block quiet) key short is = absurd (cc)
first_short (Retrieval exptime [] with_unique) key short is = absurd (cc)
first_short (Retrieval None (first ∷ keys) with_unique) key short is =
    let same : first ≡ key = cc in subst (λ (k : List ℕ). length k ≤ longest_key) same (short 0 (Flush 0) (omega arith))
first_short (Retrieval (Some exptime) (first ∷ keys) with_unique) key short is =
    let same : first ≡ key = cc in subst (λ (k : List ℕ). length k ≤ longest_key) same (short 0 (Flush 0) (omega arith))
first_short (Alone lone) key short is = absurd (cc)

-- what is lent is a short key
pub lent_short : (command : Command) (lent : Option (Bor (List ℕ))) → HasShortKeys command → option_copied lent ≡ slice_get (keys_read command) 0
    → IfSome lent (λ key. length key.now ≤ longest_key)
lent_short command None short is = tt
lent_short command (Some key) short is = first_short (shape command) key.now short (sym is)

-- the key that a turn of a unit reads
abbrev pub unit_key : ProtocolUnit → ℕ → Option (List ℕ)
unit_key (Request command) at = slice_get (keys_read command) at
unit_key (Fault fault) at = None
unit_key LongLine at = None

-- the key that the first turn of what was found reads
abbrev pub found_key : Option (ProtocolUnit × ℕ) → Option (List ℕ)
found_key None = None
found_key (Some found) = unit_key found.0 0

abbrev no_keys : List (List ℕ)
no_keys = []

none_there : (n : ℕ) → slice_get no_keys 0 ≡ slice_get no_keys n
none_there zero = refl
none_there (suc n) = refl

keys_left : (its : Shape) (taken : ℕ) → slice_get (keys_read_by (shape_left its taken)) 0 ≡ slice_get (keys_read_by its) taken
keys_left (Single step has_block quiet) taken = none_there taken
keys_left (Retrieval exptime keys with_unique) taken = first_left keys taken
keys_left (Alone lone) taken = none_there taken

-- the first turn of what is left of a unit reads what the next turn of the unit reads
key_left : (unit : ProtocolUnit) (taken : ℕ) → unit_key (left_of unit taken) 0 ≡ unit_key unit taken
key_left (Request command) taken = ap (λ (its : Shape). slice_get (keys_read_by its) 0) (after_steps-shape command taken) ∙ keys_left (shape command) taken
key_left (Fault fault) taken = refl
key_left LongLine taken = refl

module _ (law : OneSpelling) (s : SessionState) (found : Option (ProtocolUnit × ℕ)) (peeked : FoundLeft s.unread s.taken found) where
  -- the key that the first turn of what was found reads is the session's next
  reads_unit : (unit : ProtocolUnit) (front rest key : List ℕ) → IsTrue s.is_open → to_read s.unread ≡ front ++ rest → Spells s.unread.greatest unit front
      → unit_key unit s.taken ≡ Some key → ReadsNext s key
  reads_unit (Request command) front rest key opens parts spelled is =
      record { command = command; front = front; rest = rest; opens = opens; parts = parts; spelled = spelled; is_next = is }
  reads_unit (Fault fault) front rest key opens parts spelled is = absurd (cc)
  reads_unit LongLine front rest key opens parts spelled is = absurd (cc)

  reads_found : (unit : ProtocolUnit) (len : ℕ) (key : List ℕ) → IsTrue s.is_open → found ≡ Some (unit, len) → unit_key unit 0 ≡ Some key → ReadsNext s key
  reads_found unit len key opens is reads =
      let here : (s.unread.passed ≡ 0) × IsLeft s.unread.greatest s.taken (unit, len) s.unread.bytes = subst (FoundLeft s.unread s.taken) is peeked in
      let whole = here.1 in
      reads_unit whole.unit (take len s.unread.bytes) (drop len s.unread.bytes) key opens (whole_parts s.unread len here.0) whole.spelled.spelled
      (sym (key_left whole.unit s.taken) ∙ ap (λ (u : ProtocolUnit). unit_key u 0) (sym whole.left) ∙ reads)

  -- what is lent is the key that is read next
  pub lends_next : (unit : ProtocolUnit) (len : ℕ) (lent : Option (Bor (List ℕ))) → IsTrue s.is_open → found ≡ Some (unit, len)
      → option_copied lent ≡ unit_key unit 0 → IfSome lent (λ key. ReadsNext s key.now)
  lends_next unit len None opens is lends = tt
  lends_next unit len (Some key) opens is lends = reads_found unit len key.now opens is (sym lends)

  finds_key : (other : Option (ProtocolUnit × ℕ)) (key : List ℕ) → found ≡ other → (found ≡ None → NoTurnDue s) → (next : ReadsNext s key) → found_key other ≡ Some key
  finds_key None key is none next = absurd ((none is).none (Request next.command) next.front next.rest next.parts next.spelled)
  finds_key (Some (unit, len)) key is none next =
      let here : (s.unread.passed ≡ 0) × IsLeft s.unread.greatest s.taken (unit, len) s.unread.bytes = subst (FoundLeft s.unread s.taken) is peeked in
      let whole = here.1 in
      let same = law s.unread.greatest (Request next.command) whole.unit next.front (take len s.unread.bytes) next.rest (drop len s.unread.bytes) next.spelled whole.spelled.spelled
      (sym next.parts ∙ whole_parts s.unread len here.0) in
      ap (λ (u : ProtocolUnit). unit_key u 0) whole.left ∙ key_left whole.unit s.taken ∙ ap (λ (u : ProtocolUnit). unit_key u s.taken) (sym same.0) ∙ next.is_next

  -- and a key that is read next is found
  pub next_is_found : (key : List ℕ) → (found ≡ None → NoTurnDue s) → ReadsNext s key → found_key found ≡ Some key
  next_is_found key none next = finds_key found key refl none next
