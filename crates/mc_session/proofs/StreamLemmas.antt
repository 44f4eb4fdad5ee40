-- The turns of a run are the turns of its stream.
use Rattle.std.proofs.Common.{◌≡◌, ◌⊎◌, ◌↔◌, inl, inr, ℕ, zero, suc, ◌+◌, ◌-◌, ◌<◌, ◌≤◌, ◌==◌, Bool, true, false, List, [], ◌∷◌, ◌++◌, length, drop, max, refl, sym, ap, ◌∙◌, subst}
use Rattle.std.proofs.Common.{arith, append_assoc, append-nil, if◌then◌else◌, IsTrue, IsFalse}
use Rattle.std.specs.Bool.{MatchBool}
use Rattle.std.proofs.Math.Seq.{drop-nil}
use Rattle.std.proofs.Math.ListN.{drop_of_length-le}
use Rattle.std.proofs.lemmas.Bool.{cases_lt, eqb-true}
use Rattle.std.proofs.lemmas.List.{append_cancel_left}
use Rattle.mc_protocol.specs.Commands.{Shape, Single, Retrieval, Alone, shape, steps_by}
use Rattle.mc_protocol.specs.declared.step.Steps.{Ghosts as Relations}
use Rattle.mc_parse.specs.Units.{ProtocolUnit, Request, Fault, LongLine}
use Rattle.mc_parse.specs.Peeks.{BeginsWithNone}
use Rattle.mc_parse.specs.Streams.{AreUnits, is_last, is_quit_by, passed_after}
use Rattle.mc_parse.specs.Feeds.{Unread, settled}
use Rattle.mc_session.specs.Turns.{SessionState, TakesTurn, NoTurnDue, HasUnits, turn_count, turns_from, turns, opened, fed, closed}
use Rattle.mc_session.specs.Serving.{Run}
use Rattle.mc_session.proofs.TurnLemmas.{OneSpelling}

-- what is passed over once isn't passed over again
passed_once : (p : ℕ) (bytes : List ℕ) → (p < length bytes) ⊎ (length bytes ≤ p) → drop (p - length bytes) (drop p bytes) ≡ drop p bytes
passed_once p bytes (inl less) = let none : p - length bytes ≡ 0 = omega arith in ap (λ n. drop n (drop p bytes)) none
passed_once p bytes (inr most) =
    let all : drop p bytes ≡ [] = drop_of_length-le bytes most in
    ap (drop (p - length bytes)) all ∙ drop-nil (p - length bytes) ∙ sym all

pub settled_once : (p : ℕ) (bytes : List ℕ) → drop (p - length bytes) (drop p bytes) ≡ drop p bytes
settled_once p bytes = passed_once p bytes (cases_lt p (length bytes))

-- the units are those of what is left when the bytes are passed over
pub are_along : (greatest p q : ℕ) (bytes rest : List ℕ) (us : List ProtocolUnit) → drop p bytes ≡ drop q rest → AreUnits greatest p bytes us → AreUnits greatest q rest us
are_along greatest p q bytes rest [] e h = subst (BeginsWithNone greatest) e h
are_along greatest p q bytes rest (u ∷ us) e h = (h.0, h.1, sym e ∙ h.2, h.3, h.4)

-- dropping those bytes leaves the units
pub units_settled : (unread : Unread) (units : List ProtocolUnit) → HasUnits (settled unread) units ↔ HasUnits unread units
units_settled unread units =
    let same = settled_once unread.passed unread.bytes in (
      are_along unread.greatest (unread.passed - length unread.bytes) unread.passed (drop unread.passed unread.bytes) unread.bytes units same,
      are_along unread.greatest unread.passed (unread.passed - length unread.bytes) unread.bytes (drop unread.passed unread.bytes) units (sym same),
    )

-- of a unit's turns and more, the next and those behind it
drop_next : (unit : ProtocolUnit) (at n t : ℕ) (more : List (ProtocolUnit × ℕ)) → t < n → drop t (turns_from unit at n ++ more) ≡ (unit, at + t) ∷ drop (suc t) (turns_from unit at n ++ more)
drop_next unit at zero t more less = absurd (omega arith)
drop_next unit at (suc n) zero more less = let e : at ≡ at + 0 = omega arith in ap (λ k. (unit, k) ∷ (turns_from unit (at + 1) n ++ more)) e
drop_next unit at (suc n) (suc t) more less =
    let e : at + 1 + t ≡ at + suc t = omega arith in
    drop_next unit (at + 1) n t more (omega arith) ∙ ap (λ k. (unit, k) ∷ drop (suc t) (turns_from unit (at + 1) n ++ more)) e

-- behind all of them there is more
drop_whole : (unit : ProtocolUnit) (at n : ℕ) (more : List (ProtocolUnit × ℕ)) → drop n (turns_from unit at n ++ more) ≡ more
drop_whole unit at zero more = refl
drop_whole unit at (suc n) more = drop_whole unit (at + 1) n more

-- a command of a shape that ends its stream has one turn
once_by : (its : Shape) → is_quit_by its ≡ true → max 1 (length (steps_by its)) ≡ 1
once_by (Single step has_block quiet) last = refl
once_by (Retrieval exptime keys with_unique) last = absurd (cc)
once_by (Alone lone) last = refl

-- a last unit has one turn
last_once : (unit : ProtocolUnit) → is_last unit ≡ true → turn_count unit ≡ 1
last_once LongLine last = refl
last_once (Fault fault) last = refl
last_once (Request command) last = once_by (shape command) last

-- of all the turns these were taken, and those are left of what is unread
pub record HasLeft (all taken : List (ProtocolUnit × ℕ)) (unread : Unread) (at : ℕ) : Type 0 where
  pub units : List ProtocolUnit
  pub are : AreUnits unread.greatest unread.passed unread.bytes units
  pub parts : all ≡ taken ++ drop at (turns units)

-- so they are for an open session, and for one that is closed all were taken
abbrev After : (all taken : List (ProtocolUnit × ℕ)) → SessionState → Type 0
After all taken s = MatchBool s.is_open (HasLeft all taken s.unread s.taken) (all ≡ taken)

-- before the first turn all are left
before_all : (greatest : ℕ) (read : List ℕ) (units : List ProtocolUnit) → AreUnits greatest 0 read units → After (turns units) [] (fed (opened greatest) read)
before_all greatest read units are = record { units = units; are = are_along greatest 0 (0 - length read) read (drop 0 read) units (sym (settled_once 0 read)) are; parts = refl }

module _ {S : Type 0} (relations : Relations S) (law : OneSpelling) where
  module _ (now : ℕ) (old new : SessionState) (before after : S) (takes : TakesTurn relations now old new before after) (all taken : List (ProtocolUnit × ℕ)) where
    abbrev told : List ℕ
    told = old.out ++ takes.text

    abbrev behind : Unread
    behind = settled (record { greatest = old.unread.greatest; passed = passed_after takes.unit; bytes = takes.rest })

    -- the turns with this one
    abbrev with_it : List (ProtocolUnit × ℕ)
    with_it = taken ++ (takes.unit, old.taken) ∷ []

    -- the session after the turn, by whether the unit is the last and whether its turns are all taken
    abbrev moved_by : Bool → Bool → SessionState
    moved_by last whole =
        if last then closed (record old { out = told })
        else if whole then record old { unread = behind; taken = 0; out = told }
        else record old { taken = old.taken + 1; out = told }

    -- an open session has these left
    open_after : (s : SessionState) → IsTrue s.is_open → HasLeft all with_it s.unread s.taken → After all with_it s
    open_after s opens left = subst (λ is_open. MatchBool is_open (HasLeft all with_it s.unread s.taken) (all ≡ with_it)) (sym opens) left

    -- the first unit is the one whose turn was taken
    module _ (us : List ProtocolUnit) (are : AreUnits old.unread.greatest old.unread.passed old.unread.bytes (takes.unit ∷ us)) (parts : all ≡ taken ++ drop old.taken (turns (takes.unit ∷ us)))
        (others : MatchBool (is_last takes.unit) (us ≡ []) (AreUnits old.unread.greatest (passed_after takes.unit) takes.rest us)) where
      -- what is left behind this turn
      split : all ≡ with_it ++ drop (suc old.taken) (turns (takes.unit ∷ us))
      split =
          let at : 0 + old.taken ≡ old.taken = omega arith in
          parts ∙ ap (λ l. taken ++ l) (drop_next takes.unit 0 (turn_count takes.unit) old.taken (turns us) takes.due)
          ∙ ap (λ k. taken ++ (takes.unit, k) ∷ drop (suc old.taken) (turns (takes.unit ∷ us))) at
          ∙ sym (append_assoc taken ((takes.unit, old.taken) ∷ []) (drop (suc old.taken) (turns (takes.unit ∷ us))))

      -- behind the last turn of the unit the others are left
      split_whole : suc old.taken ≡ turn_count takes.unit → all ≡ with_it ++ turns us
      split_whole is = split ∙ ap (λ n. with_it ++ drop n (turns (takes.unit ∷ us))) is ∙ ap (λ l. with_it ++ l) (drop_whole takes.unit 0 (turn_count takes.unit) (turns us))

      after_by : (last whole : Bool) → is_last takes.unit ≡ last → (old.taken + 1 == turn_count takes.unit) ≡ whole → After all with_it (moved_by last whole)
      after_by true whole is counted =
          let none : us ≡ [] = subst (λ last. MatchBool last (us ≡ []) (AreUnits old.unread.greatest (passed_after takes.unit) takes.rest us)) is others in
          split_whole (omega (arith, last_once takes.unit is, takes.due)) ∙ ap (λ us. with_it ++ turns us) none ∙ append-nil with_it
      after_by false true is counted =
          open_after (moved_by false true) takes.opens (record {
            units = us;
            are = are_along old.unread.greatest (passed_after takes.unit) behind.passed takes.rest behind.bytes us (sym (settled_once (passed_after takes.unit) takes.rest))
                (subst (λ last. MatchBool last (us ≡ []) (AreUnits old.unread.greatest (passed_after takes.unit) takes.rest us)) is others);
            parts = split_whole (omega (arith, eqb-true _ _ counted));
          })
      after_by false false is counted =
          let next : suc old.taken ≡ old.taken + 1 = omega arith in
          open_after (moved_by false false) takes.opens (record {
            units = takes.unit ∷ us;
            are = are;
            parts = split ∙ ap (λ n. with_it ++ drop n (turns (takes.unit ∷ us))) next;
          })

      after_unit : After all with_it new
      after_unit = subst (After all with_it) (sym takes.moves) (after_by (is_last takes.unit) (old.taken + 1 == turn_count takes.unit) refl refl)

    -- a turn takes the next turn of what is left
    after_turn : (units : List ProtocolUnit) → AreUnits old.unread.greatest old.unread.passed old.unread.bytes units → all ≡ taken ++ drop old.taken (turns units) → After all with_it new
    after_turn [] are parts = absurd (are.none takes.unit takes.front takes.rest takes.parts takes.spelled)
    after_turn (u ∷ us) are parts =
        let same = law old.unread.greatest u takes.unit are.0 takes.front are.1 takes.rest are.3 takes.spelled (sym are.2 ∙ takes.parts) in
        let rest : are.1 ≡ takes.rest = append_cancel_left are.0 are.1 takes.rest (sym are.2 ∙ takes.parts ∙ ap (λ front. front ++ takes.rest) (sym same.1)) in
        after_unit us
        (subst (λ unit. AreUnits old.unread.greatest old.unread.passed old.unread.bytes (unit ∷ us)) same.0 are)
        (subst (λ unit. all ≡ taken ++ drop old.taken (turns (unit ∷ us))) same.0 parts)
        (subst (λ rest. MatchBool (is_last takes.unit) (us ≡ []) (AreUnits old.unread.greatest (passed_after takes.unit) rest us)) rest
        (subst (λ unit. MatchBool (is_last unit) (us ≡ []) (AreUnits old.unread.greatest (passed_after unit) are.1 us)) same.0 are.4))

  -- so does each turn of a run
  after_run : (may_give : ℕ → Type 0) (first last : SessionState) (before after : S) (all taken more : List (ProtocolUnit × ℕ)) → After all taken first
      → Run relations may_give first before more last after → After all (taken ++ more) last
  after_run may_give first last before after all taken [] left run =
      subst (λ (turns : List (ProtocolUnit × ℕ)). After all turns last) (sym (append-nil taken)) (subst (λ (s : SessionState × S). After all taken s.0) (sym run) left)
  after_run may_give first last before after all taken (turn ∷ more) left (mid, one, run) =
      let had : HasLeft all taken first.unread first.taken =
      subst (λ is_open. MatchBool is_open (HasLeft all taken first.unread first.taken) (all ≡ taken)) one.takes.opens left in
      let with_it : After all (taken ++ turn ∷ []) mid.0 =
      subst (λ (turn : ProtocolUnit × ℕ). After all (taken ++ turn ∷ []) mid.0) (sym one.is) (after_turn one.now first mid.0 before mid.1 one.takes all taken had.units had.are had.parts) in
      subst (λ (turns : List (ProtocolUnit × ℕ)). After all turns last) (append_assoc taken (turn ∷ []) more) (after_run may_give mid.0 last mid.1 after all (taken ++ turn ∷ []) more with_it run)

-- what was taken comes first
first_taken : (all taken : List (ProtocolUnit × ℕ)) (unread : Unread) (at : ℕ) (is_open : Bool) → MatchBool is_open (HasLeft all taken unread at) (all ≡ taken)
    → (later : List (ProtocolUnit × ℕ)) × (all ≡ taken ++ later)
first_taken all taken unread at true left = (drop at (turns left.units), left.parts)
first_taken all taken unread at false left = ([], left ∙ sym (append-nil taken))

-- where nothing is due all was taken
none_left : (all taken : List (ProtocolUnit × ℕ)) (unread : Unread) (at : ℕ) (units : List ProtocolUnit)
    → BeginsWithNone unread.greatest (drop unread.passed unread.bytes) → AreUnits unread.greatest unread.passed unread.bytes units → all ≡ taken ++ drop at (turns units) → all ≡ taken
none_left all taken unread at [] none are parts = parts ∙ ap (λ l. taken ++ l) (drop-nil at) ∙ append-nil taken
none_left all taken unread at (unit ∷ units) none are parts = absurd (none.none unit are.0 are.1 are.2 are.3)

all_taken : (all taken : List (ProtocolUnit × ℕ)) (unread : Unread) (at : ℕ) (is_open : Bool) → MatchBool is_open (HasLeft all taken unread at) (all ≡ taken)
    → (IsFalse is_open ⊎ BeginsWithNone unread.greatest (drop unread.passed unread.bytes)) → all ≡ taken
all_taken all taken unread at false left ended = left
all_taken all taken unread at true left (inl closed) = absurd (cc)
all_taken all taken unread at true left (inr none) = none_left all taken unread at left.units none left.are left.parts

module _ {S : Type 0} (relations : Relations S) (may_give : ℕ → Type 0) (law : OneSpelling) (greatest : ℕ) (read : List ℕ) (units : List ProtocolUnit) (taken : List (ProtocolUnit × ℕ))
    (last : SessionState) (before after : S) (are : AreUnits greatest 0 read units) (run : Run relations may_give (fed (opened greatest) read) before taken last after) where
  left_after : After (turns units) taken last
  left_after = after_run relations law may_give (fed (opened greatest) read) last before after (turns units) [] taken (before_all greatest read units are) run

  pub run_takes_first : (later : List (ProtocolUnit × ℕ)) × (turns units ≡ taken ++ later)
  run_takes_first = first_taken (turns units) taken last.unread last.taken last.is_open left_after

  pub run_takes_all : (IsFalse last.is_open ⊎ NoTurnDue last) → turns units ≡ taken
  run_takes_all ended = all_taken (turns units) taken last.unread last.taken last.is_open left_after ended
