-- The first turn of what is left of a unit is the next turn of the unit.
use Rattle.std.proofs.Common.{◌≡◌, ◌<◌, ◌+◌, ◌-◌, ◌==◌, ℕ, zero, suc, max, Bool, ◌⊎◌, inl, inr, List, [], ◌∷◌, ◌++◌, length, drop, refl, sym, ap, ◌∙◌, subst, arith, Option, Some}
use Rattle.std.proofs.Common.{None, MatchOption, slice_get, if◌then◌else◌, eq-eqb, ne_eqb, ⊎_elim, codes}
use Rattle.std.proofs.lemmas.Bool.{cases_eq}
use Rattle.std.proofs.lemmas.Option.{slice_get_past}
use Rattle.std.proofs.lemmas.List.{drop-map, length-map, length-drop}
use Rattle.mc_protocol.specs.Commands.{Shape, Single, Retrieval, Alone, shape, shape_left, steps_by, read_step, is_quiet_by, steps, after_steps, after_steps-shape}
use Rattle.mc_protocol.specs.Commands.{Command}
use Rattle.mc_protocol.specs.declared.step.KeyStep.{KeyStep}
use Rattle.mc_protocol.specs.declared.step.Steps.{Ghosts as Relations}
use Rattle.mc_protocol.specs.declared.reply.Reply.{Reply}
use Rattle.mc_parse.specs.Units.{ProtocolUnit, Request, Fault, LongLine}
use Rattle.mc_parse.specs.Streams.{is_quit, is_quit_by}
use Rattle.mc_parse.specs.Peeks.{left_of}
use Rattle.mc_reply.specs.Texts.{reply_text, reply_text_by, plain_text, plain_text_by, retrieval_text, asked_text, end_text}
use Rattle.mc_session.specs.declared.after_turn.AfterTurn.TheVariants.{Step, Read, Close}
use Rattle.mc_session.specs.Turns.{Answers, AnswersStep, turn_count}
use Rattle.mc_session.specs.Answers.{next_of}

-- what is left has the next element first
pub first_left : {X : Type 0} (xs : List X) (n : ℕ) → slice_get (drop n xs) 0 ≡ slice_get xs n
first_left [] zero = refl
first_left [] (suc n) = refl
first_left (x ∷ xs) zero = refl
first_left (x ∷ xs) (suc n) = first_left xs n

-- two tests of numbers that hold together are one
same_test : (a b c d : ℕ) → (a ≡ b → c ≡ d) → (c ≡ d → a ≡ b) → (a == b) ≡ (c == d)
same_test a b c d there back =
    let by_case : (a ≡ b) ⊎ (a ≡ b → ⊥) → (a == b) ≡ (c == d) = ⊎_elim
    (λ e. eq-eqb a b e ∙ sym (eq-eqb c d (there e)))
    (λ e. ne_eqb a b e ∙ sym (ne_eqb c d (λ f. e (back f)))) in
    by_case (cases_eq a b)

-- the steps that are left
steps_by_left : (its : Shape) (taken : ℕ) → taken < max 1 (length (steps_by its)) → steps_by (shape_left its taken) ≡ drop taken (steps_by its)
steps_by_left (Single step has_block quiet) taken due = let none : taken ≡ 0 = omega arith in rw none refl
steps_by_left (Retrieval exptime keys with_unique) taken due = sym (drop-map _ taken keys)
steps_by_left (Alone lone) taken due = let none : taken ≡ 0 = omega arith in rw none refl

steps_left : (command : Command) (taken : ℕ) → taken < max 1 (length (steps command)) → steps (after_steps command taken) ≡ drop taken (steps command)
steps_left command taken due = ap steps_by (after_steps-shape command taken) ∙ steps_by_left (shape command) taken due

-- the first of them is the next step
pub step_left : (left command : Command) (taken : ℕ) → taken < turn_count (Request command) → Request left ≡ left_of (Request command) taken
    → slice_get (steps left) 0 ≡ slice_get (steps command) taken
step_left left command taken due is =
    let same : left ≡ after_steps command taken = cc in
    ap (λ c. slice_get (steps c) 0) same ∙ ap (λ xs. slice_get xs 0) (steps_left command taken due) ∙ first_left (steps command) taken

-- END comes after the same key
end_left : (keys : List (List ℕ)) (taken : ℕ) → taken < max 1 (length keys) → end_text (length (drop taken keys)) 0 ≡ end_text (length keys) taken
end_left keys taken due =
    let test : (0 + 1 == length (drop taken keys)) ≡ (taken + 1 == length keys) = same_test _ _ _ _ (λ e. omega (arith, length-drop taken keys, e)) (λ e. omega (arith, length-drop taken keys, e)) in
    ap (λ b. if b then codes "END\r\n" else []) test

retrieval_left : (keys : List (List ℕ)) (with_unique : Bool) (taken : ℕ) (reply : Reply) → taken < max 1 (length keys)
    → retrieval_text (drop taken keys) with_unique 0 reply ≡ retrieval_text keys with_unique taken reply
retrieval_left keys with_unique taken reply due =
    ap (λ key. asked_text key with_unique reply ++ end_text (length (drop taken keys)) 0) (first_left keys taken)
    ∙ ap (λ text. asked_text (slice_get keys taken) with_unique reply ++ text) (end_left keys taken due)

-- the text of the reply to the next step
reply_by_left : (its : Shape) (taken : ℕ) (reply : Reply) → taken < max 1 (length (steps_by its)) → reply_text_by (shape_left its taken) 0 reply ≡ reply_text_by its taken reply
reply_by_left (Single step has_block quiet) taken reply due = refl
reply_by_left (Retrieval exptime keys with_unique) taken reply due = retrieval_left keys with_unique taken reply (omega (arith, due, length-map keys (λ key. read_step exptime key)))
reply_by_left (Alone lone) taken reply due = refl

reply_left : (command : Command) (taken : ℕ) (reply : Reply) → taken < max 1 (length (steps command)) → reply_text (after_steps command taken) 0 reply ≡ reply_text command taken reply
reply_left command taken reply due = ap (λ its. reply_text_by its 0 reply) (after_steps-shape command taken) ∙ reply_by_left (shape command) taken reply due

-- what is left of a command is as quiet, ends the stream as it does, and is answered the same without a step
pub record IsLike (one other : Shape) : Type 0 where
  pub quiet : is_quiet_by one ≡ is_quiet_by other
  pub quit : is_quit_by one ≡ is_quit_by other
  pub plain : plain_text_by one ≡ plain_text_by other

like_by : (its : Shape) (taken : ℕ) → IsLike (shape_left its taken) its
like_by (Single step has_block quiet) taken = record { quiet = refl; quit = refl; plain = refl }
like_by (Retrieval exptime keys with_unique) taken = record { quiet = refl; quit = refl; plain = refl }
like_by (Alone lone) taken = record { quiet = refl; quit = refl; plain = refl }

like_left : (command : Command) (taken : ℕ) → IsLike (shape (after_steps command taken)) (shape command)
like_left command taken = subst (λ its. IsLike its (shape command)) (sym (after_steps-shape command taken)) (like_by (shape command) taken)

-- what comes next is the same
pub next_left : (unit : ProtocolUnit) (taken len : ℕ) → taken < turn_count unit → next_of (left_of unit taken) 0 len ≡ next_of unit taken len
next_left LongLine taken len due = refl
next_left (Fault fault) taken len due = let none : taken ≡ 0 = omega arith in rw none refl
next_left (Request command) taken len due =
    let count : length (steps (after_steps command taken)) ≡ length (steps command) - taken = ap length (steps_left command taken due) ∙ length-drop taken (steps command) in
    let test : (0 + 1 == max 1 (length (steps (after_steps command taken)))) ≡ (taken + 1 == max 1 (length (steps command))) =
    same_test _ _ _ _ (λ e. omega (arith, count, e)) (λ e. omega (arith, count, e)) in
    ap (λ b. if is_quit (after_steps command taken) then Close else if b then Read len 0 else Step) test
    ∙ ap (λ b. if b then Close else if taken + 1 == max 1 (length (steps command)) then Read len 0 else Step) (like_left command taken).quit

-- before the first turn all turns are left
pub all_left : (unit : ProtocolUnit) → turn_count (left_of unit 0) ≡ turn_count unit
all_left LongLine = refl
all_left (Fault fault) = refl
all_left (Request command) = let count = ap length (steps_left command 0 (omega arith)) in ap (max 1) count

module _ {S : Type 0} (relations : Relations S) (now : ℕ) (before after : S) (text : List ℕ) where
  -- a step of what is left is answered as the next step
  step_answers : (command : Command) (taken : ℕ) (step : KeyStep) → taken < max 1 (length (steps command))
      → AnswersStep relations (after_steps command taken) 0 step now before after text → AnswersStep relations command taken step now before after text
  step_answers command taken step due (inl told) = inl (told.0, told.1, told.2 ∙ reply_left command taken told.0 due)
  step_answers command taken step due (inr told) = inr (told.0, told.1, rw (← (like_left command taken).quiet) told.2)

  some_answers : (command : Command) (taken : ℕ) → taken < max 1 (length (steps command)) → (step : Option KeyStep)
      → MatchOption step ((text ≡ plain_text (after_steps command taken)) × (after ≡ before)) (λ step. AnswersStep relations (after_steps command taken) 0 step now before after text)
      → MatchOption step ((text ≡ plain_text command) × (after ≡ before)) (λ step. AnswersStep relations command taken step now before after text)
  some_answers command taken due None told = (told.0 ∙ (like_left command taken).plain, told.1)
  some_answers command taken due (Some step) told = step_answers command taken step due told

  -- the first turn of what is left answers as the next turn
  pub answers_left : (unit : ProtocolUnit) (taken : ℕ) → taken < turn_count unit → Answers relations (left_of unit taken) 0 now before after text → Answers relations unit taken now before after text
  answers_left LongLine taken due told = told
  answers_left (Fault fault) taken due told = told
  answers_left (Request command) taken due told =
      some_answers command taken due (slice_get (steps command) taken)
      (subst (λ step. MatchOption step ((text ≡ plain_text (after_steps command taken)) × (after ≡ before)) (λ step. AnswersStep relations (after_steps command taken) 0 step now before after text))
      (ap (λ xs. slice_get xs 0) (steps_left command taken due) ∙ first_left (steps command) taken) told)

  -- a command that takes no step is answered its plain text
  pub plain_answers : (command : Command) → length (steps command) ≡ 0 → text ≡ plain_text command → after ≡ before → Answers relations (Request command) 0 now before after text
  plain_answers command none told same = rw (slice_get_past (steps command) 0 (omega arith)) (told, same)
