-- A turn of what was found is a turn of the session's stream.
use Rattle.std.proofs.Common.{◌≡◌, ◌<◌, ◌≤◌, ◌+◌, ◌^◌, ◌==◌, ℕ, Bool, true, false, List, ◌++◌, length, take, drop, refl, sym, ap, ◌∙◌, subst, arith, Option, Some, None}
use Rattle.std.proofs.Common.{if◌then◌else◌, IfSome, IsTrue, ◌↔◌, ⊎_elim, eq-or-lt_of_le}
use Rattle.std.proofs.lemmas.Bool.{cases_lt, eqb-false}
use Rattle.std.proofs.lemmas.List.{take-append-drop}
use Rattle.mc_protocol.specs.declared.step.Steps.{Ghosts as Relations}
use Rattle.mc_parse.specs.Units.{ProtocolUnit, Request, Fault, LongLine, Spells}
use Rattle.mc_parse.specs.Streams.{is_last, passed_after}
use Rattle.mc_parse.specs.Peeks.{left_of, IsLeft, BeginsWithNone}
use Rattle.mc_parse.specs.Feeds.{Unread, read}
use Rattle.mc_session.specs.declared.after_turn.AfterTurn.{AfterTurn}
use Rattle.mc_session.specs.declared.after_turn.AfterTurn.TheVariants.{Step, Read, Close}
use Rattle.mc_session.specs.Turns.{SessionState, TakesTurn, DecidesStep, Answers, turn_count, moved, closed, NoTurnDue}
use Rattle.mc_session.specs.Answers.{next_of, gone_on, MayGoOn, AnswersFound, Tells, DecidesFound, IsWithinUnit, at_start, inside}
use Rattle.mc_session.proofs.LeftLemmas.{next_left, all_left, answers_left, step_left}

-- a unit has a first turn
first_due : (unit : ProtocolUnit) → 0 < turn_count unit
first_due LongLine = omega arith
first_due (Fault fault) = omega arith
first_due (Request command) = omega arith

-- the next turn of the unit is due; after the first turn it is known that the unit's turns can be counted
pub record IsDue (unit : ProtocolUnit) (taken : ℕ) : Type 0 where
  pub due : taken < turn_count unit
  pub few : 0 < taken → turn_count unit < 2 ^ 64

abbrev pub OneSpelling : Type 0
OneSpelling = (greatest : ℕ) (u v : ProtocolUnit) (a b x y : List ℕ) → Spells greatest u a → Spells greatest v b → a ++ x ≡ b ++ y → (u ≡ v) × (a ≡ b)

pub due_within : (law : OneSpelling) (u : Unread) (taken : ℕ) (unit : ProtocolUnit) (front rest : List ℕ) → IsWithinUnit u taken
    → drop u.passed u.bytes ≡ front ++ rest → Spells u.greatest unit front → IsDue unit taken
due_within law u taken unit front rest at_start parts spelled = record { due = first_due unit; few = λ some. absurd (omega (arith, some)) }
due_within law u taken unit front rest (inside other more behind is spells due few) parts spelled =
    let same = law u.greatest other unit more front behind rest spells spelled (sym is ∙ parts) in
    record { due = subst (λ v. taken < turn_count v) same.0 due; few = λ _. subst (λ v. turn_count v < 2 ^ 64) same.0 few }

-- the session that goes on with what comes next is the session after the turn
gone_on_moved : (s : SessionState) (unit : ProtocolUnit) (len : ℕ) (text : List ℕ) (last whole : Bool)
    → gone_on (if last then Close else if whole then Read len (passed_after unit) else Step) (record s { out = s.out ++ text })
    ≡ (if last then closed (record s { out = s.out ++ text })
    else if whole then record s { unread = read s.unread len (passed_after unit); taken = 0; out = s.out ++ text }
    else record s { taken = s.taken + 1; out = s.out ++ text })
gone_on_moved s unit len text true whole = refl
gone_on_moved s unit len text false true = refl
gone_on_moved s unit len text false false = refl

-- where more turns of the unit come next, they are due
goes_on : (s : SessionState) (unit : ProtocolUnit) (len : ℕ) (last whole : Bool) → len ≤ length s.unread.bytes → s.unread.passed ≡ 0 → ((s.taken + 1 == turn_count unit) ≡ whole)
    → (whole ≡ false → IsWithinUnit s.unread (s.taken + 1)) → MayGoOn (if last then Close else if whole then Read len (passed_after unit) else Step) s
goes_on s unit len true whole within none test more = tt
goes_on s unit len false true within none test more = (within, none)
goes_on s unit len false false within none test more = more refl

-- a number that is no more, and isn't the same, is less
lt_of_other : (a b : ℕ) → a ≤ b → (a ≡ b → ⊥) → a < b
lt_of_other a b le other = ⊎_elim (λ e. absurd (other e)) (λ less. less) (eq-or-lt_of_le le)

-- What was found is left of a unit whose next turn is due.
pub record IsNext (u : Unread) (taken : ℕ) (unit : ProtocolUnit) (len : ℕ) (whole : ProtocolUnit) : Type 0 where
  pub within : len ≤ length u.bytes
  pub none : u.passed ≡ 0
  pub parts : drop u.passed u.bytes ≡ take len u.bytes ++ drop len u.bytes
  pub spelled : Spells u.greatest whole (take len u.bytes)
  pub left : unit ≡ left_of whole taken
  pub due : taken < turn_count whole
  pub few : 0 < taken → turn_count whole < 2 ^ 64

abbrev pub FoundLeft : Unread → ℕ → Option (ProtocolUnit × ℕ) → Type 0
FoundLeft u taken found = IfSome found (λ found. (u.passed ≡ 0) × IsLeft u.greatest taken found u.bytes)

pub whole_parts : (u : Unread) (len : ℕ) → u.passed ≡ 0 → drop u.passed u.bytes ≡ take len u.bytes ++ drop len u.bytes
whole_parts u len none = rw none (sym (take-append-drop len u.bytes))

pub next_found : (law : OneSpelling) (u : Unread) (taken : ℕ) (found : Option (ProtocolUnit × ℕ)) (unit : ProtocolUnit) (len : ℕ) → FoundLeft u taken found
    → IsWithinUnit u taken → found ≡ Some (unit, len)
    → (whole : ProtocolUnit) × IsNext u taken unit len whole
next_found law u taken found unit len peeked within is =
    let here : (u.passed ≡ 0) × IsLeft u.greatest taken (unit, len) u.bytes = subst (FoundLeft u taken) is peeked in
    let left = here.1 in
    let parts = whole_parts u len here.0 in
    let due = due_within law u taken left.unit (take len u.bytes) (drop len u.bytes) within parts left.spelled.spelled in
    (left.unit, record { within = left.spelled.within; none = here.0; parts = parts; spelled = left.spelled.spelled; left = left.left; due = due.due; few = due.few })

-- where no turn is due nothing is found
pub none_found : (u : Unread) (taken : ℕ) (found : Option (ProtocolUnit × ℕ)) → FoundLeft u taken found → BeginsWithNone u.greatest (drop u.passed u.bytes) → found ≡ None
none_found u taken None peeked none = refl
none_found u taken (Some found) peeked none =
    absurd (none.none peeked.1.unit (take found.1 u.bytes) (drop found.1 u.bytes) (whole_parts u found.1 peeked.0) peeked.1.spelled.spelled)

module _ {S : Type 0} (relations : Relations S) (now : ℕ) (law : OneSpelling) (old : SessionState) (before after : S) (found : Option (ProtocolUnit × ℕ))
    (peeked : FoundLeft old.unread old.taken found) (within : IsWithinUnit old.unread old.taken) (opens : IsTrue old.is_open) where
  turn_of : (answered : AnswersFound relations now found before after) (whole : ProtocolUnit) → IsNext old.unread old.taken answered.unit answered.len whole
      → TakesTurn relations now old (moved old whole (drop answered.len old.unread.bytes) answered.text) before after
  turn_of answered whole is = record {
    unit = whole;
    front = take answered.len old.unread.bytes;
    rest = drop answered.len old.unread.bytes;
    text = answered.text;
    opens = opens;
    parts = is.parts;
    spelled = is.spelled;
    due = is.due;
    moves = refl;
    answers = answers_left relations now before after answered.text whole old.taken is.due (subst (λ unit. Answers relations unit 0 now before after answered.text) is.left answered.answers);
  }

  decides_of : (decides : DecidesFound relations now found before after) (whole : ProtocolUnit)
      → IsNext old.unread old.taken (Request decides.command) decides.len whole → DecidesStep relations now old before after
  decides_of decides (Request command) is = record {
    command = command;
    front = take decides.len old.unread.bytes;
    rest = drop decides.len old.unread.bytes;
    step = decides.takes.step;
    reply = decides.takes.reply;
    opens = opens;
    parts = is.parts;
    spelled = is.spelled;
    is_step = sym (step_left decides.command command old.taken is.due is.left) ∙ decides.takes.is_step;
    took_it = decides.takes.took_it;
  }
  decides_of decides (Fault fault) is = let left = is.left in absurd (cc)
  decides_of decides LongLine is = let left = is.left in absurd (cc)

  -- the step that was decided is the session's next
  pub decides_next : DecidesFound relations now found before after → DecidesStep relations now old before after
  decides_next decides =
      let whole = next_found law old.unread old.taken found (Request decides.command) decides.len peeked within decides.is_found in
      decides_of decides whole.0 whole.1

  module _ (next : AfterTurn) (out : List ℕ) (tells : Tells relations now found next before after old.out out) where
    -- what comes next, as the whole unit has it
    next_is : (whole : ProtocolUnit) → IsNext old.unread old.taken tells.answered.unit tells.answered.len whole → next ≡ next_of whole old.taken tells.answered.len
    next_is whole is = tells.next_is ∙ ap (λ unit. next_of unit 0 tells.answered.len) is.left ∙ next_left whole old.taken tells.answered.len is.due

    -- and it goes on
    pub takes_told : (new : SessionState) → new ≡ gone_on next (record old { out = out }) → TakesTurn relations now old new before after
    takes_told new is =
        let answered = tells.answered in
        let whole = next_found law old.unread old.taken found answered.unit answered.len peeked within answered.is_found in
        let moves : new ≡ moved old whole.0 (drop answered.len old.unread.bytes) answered.text =
        is ∙ ap (λ next. gone_on next (record old { out = out })) (next_is whole.0 whole.1) ∙ ap (λ out. gone_on (next_of whole.0 old.taken answered.len) (record old { out = out })) tells.told
        ∙ gone_on_moved old whole.0 answered.len answered.text (is_last whole.0) (old.taken + 1 == turn_count whole.0) in
        subst (λ s. TakesTurn relations now old s before after) (sym moves) (turn_of answered whole.0 whole.1)

    -- the turns of the unit can be counted
    few_turns : (whole : ProtocolUnit) → IsNext old.unread old.taken tells.answered.unit tells.answered.len whole → turn_count whole < 2 ^ 64
    few_turns whole is = ⊎_elim
        (λ some. is.few some)
        (λ none. let start : old.taken ≡ 0 = omega (arith, none) in
        let all : turn_count tells.answered.unit ≡ turn_count whole = ap turn_count is.left ∙ ap (λ n. turn_count (left_of whole n)) start ∙ all_left whole in
        subst (λ n. n < 2 ^ 64) all tells.few)
        (cases_lt 0 old.taken)

    more_due : (whole : ProtocolUnit) → IsNext old.unread old.taken tells.answered.unit tells.answered.len whole → (old.taken + 1 == turn_count whole) ≡ false → IsWithinUnit old.unread (old.taken + 1)
    more_due whole is more =
        inside whole (take tells.answered.len old.unread.bytes) (drop tells.answered.len old.unread.bytes) is.parts is.spelled
        (lt_of_other (old.taken + 1) (turn_count whole) (omega (arith, is.due)) (eqb-false _ _ more)) (few_turns whole is)

    -- the session may go on so
    pub may_go_on : MayGoOn next (record old { out = out })
    may_go_on =
        let answered = tells.answered in
        let whole = next_found law old.unread old.taken found answered.unit answered.len peeked within answered.is_found in
        subst (λ next. MayGoOn next (record old { out = out })) (sym (next_is whole.0 whole.1))
        (goes_on (record old { out = out }) whole.0 answered.len (is_last whole.0) (old.taken + 1 == turn_count whole.0) whole.1.within whole.1.none refl
        (λ more. more_due whole.0 whole.1 more))

module _ {S : Type 0} (relations : Relations S) (now : ℕ) (found : Option (ProtocolUnit × ℕ)) (before after : S) (old new : List ℕ) where
  abbrev pub TellsSome : Option AfterTurn → Type 0
  TellsSome told = IfSome told (λ next. Tells relations now found next before after old new)

  -- what is told of the one that came
  pub tells_next : (told : Option AfterTurn) (next : AfterTurn) → told ≡ Some next → TellsSome told → Tells relations now found next before after old new
  tells_next told next is some = subst TellsSome is some

-- it is idle where nothing is found
pub idle_found : (s : SessionState) (found : Option (ProtocolUnit × ℕ)) (idle : Bool) → IsTrue s.is_open → FoundLeft s.unread s.taken found → (found ≡ None → NoTurnDue s)
    → (IsTrue idle ↔ (found ≡ None)) → IsTrue idle ↔ (IsTrue s.is_open × NoTurnDue s)
idle_found s found idle is_open peeked none test =
    (λ is. (is_open, none (test.0 is)), λ is. test.1 (none_found s.unread s.taken found peeked is.1))
