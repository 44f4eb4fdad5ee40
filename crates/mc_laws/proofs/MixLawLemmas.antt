-- Two callers that met: the history is a mix of their calls.
use Rattle.std.proofs.Common.{◌≡◌, inl, inr, ℕ, ◌+◌, Bool, true, false, cond, List, [], ◌∷◌, ◌++◌, sym, refl, ap, ◌∙◌, subst, arith, append_assoc}
use Rattle.mc_shared.proofs.Words.{append-nil, not, Plain, total, Beginning, Name, Stepped, HistoryEntry, left_by, next, IsRight, after, IsLegal, Past, spent, start, call, made, both}
use Rattle.mc_shared.proofs.Words.{name_of, held, callers, makes, same, Whole, KeptBy, entry_of, Agrees, with_call}
use Rattle.mc_laws.specs.Laws.{Call, with_calls, PlainAnswers}
use Rattle.mc_laws.specs.Together.{two_callers, IsMixOf}
use Rattle.mc_shared.specs.Past.{times}
use Rattle.mc_shared.proofs.Sums.{total-append, head_is, tail_is}
use Rattle.mc_laws.proofs.AloneLawLemmas.{AllAre, picked, weight, picked_held}

-- ---- what none of a caller's calls weighs
pub weighs_none : (f : HistoryEntry → ℕ) (p : Past) → AllAre (λ e. f e ≡ 0) p → total f (held p) ≡ 0
weighs_none f (start c seen) all = refl
weighs_none f (call p e) all = let rest = weighs_none f p all.0 in let none = all.1 in omega (arith, rest, none, total-append f (held p) (e ∷ []))
weighs_none f (made p d) all = weighs_none f p all
weighs_none f (both p (start c seen)) all = let rest = weighs_none f p all in omega (arith, rest, total-append f (held p) [])
weighs_none f p all = absurd all

-- ---- the entries of calls
abbrev pub entries_from : Past → List Call → List HistoryEntry
entries_from p [] = []
entries_from p (c ∷ cs) = entry_of p (Stepped c.step c.now c.reply) ∷ entries_from (with_call p c.step c.now c.reply) cs

pub held_with : (p : Past) (cs : List Call) → held (with_calls p cs) ≡ held p ++ entries_from p cs
held_with p [] = sym (append-nil (held p))
held_with p (c ∷ cs) =
    let e : HistoryEntry = entry_of p (Stepped c.step c.now c.reply) in
    let more : Past = with_call p c.step c.now c.reply in
    held_with more cs ∙ append_assoc (held p) (e ∷ []) (entries_from more cs)

pub callers_with : (p : Past) (cs : List Call) → callers (with_calls p cs) ≡ callers p
callers_with p [] = refl
callers_with p (c ∷ cs) = callers_with (with_call p c.step c.now c.reply) cs

pub makes_with : (p : Past) (cs : List Call) → makes (with_calls p cs) ≡ makes p
makes_with p [] = refl
makes_with p (c ∷ cs) = makes_with (with_call p c.step c.now c.reply) cs

pub all_with : (P : Name → Type 0) (p : Past) (cs : List Call) → P (name_of p) → AllAre (λ e. P e.by) p → AllAre (λ e. P e.by) (with_calls p cs)
all_with P p [] is all = all
all_with P p (c ∷ cs) is all = all_with P (with_call p c.step c.now c.reply) cs is (all, is)

-- ---- a mix
abbrev pub is_first : Name → Bool
is_first [] = true
is_first (x ∷ xs) = false

abbrev pub by_first : HistoryEntry → Bool
by_first e = is_first e.by

abbrev pub by_other : HistoryEntry → Bool
by_other e = not (is_first e.by)

module _ (began : Beginning) where
  abbrev pub Mixed : Plain → (cs ds tail : List Call) → Type 0
  Mixed m cs ds tail = (mix : List Call) × IsMixOf cs ds mix × PlainAnswers m (mix ++ tail)

  none_from : (p : Past) (cs : List Call) → [] ≡ entries_from p cs → cs ≡ []
  none_from p [] is = refl
  none_from p (c ∷ cs) is = absurd (cc is)

  -- the next entry is of a call, which the plain machine answers, and then the others
  next_answers : (m : Plain) (e : HistoryEntry) (p : Past) (c : Call) (mix : List Call) → e ≡ entry_of p (Stepped c.step c.now c.reply) → IsRight m e.what → PlainAnswers (next began m e.what) mix
      → PlainAnswers m (c ∷ mix)
  next_answers m e p c mix is right more =
      let what_is : e.what ≡ Stepped c.step c.now c.reply = ap (λ (x : HistoryEntry). x.what) is in
      let answers = subst (IsRight m) what_is right in
      (answers.0, answers.1, subst (λ (s : Plain). PlainAnswers s mix) (ap (next began m) what_is ∙ ap (left_by m) answers.1) more)

  -- the first entry is of the first call
  pub first_call : (e : HistoryEntry) (es : List HistoryEntry) (p : Past) (cs : List Call) → e ∷ es ≡ entries_from p cs → (c : Call) × (rest : List Call) × (cs ≡ c ∷ rest)
      × (e ≡ entry_of p (Stepped c.step c.now c.reply)) × (es ≡ entries_from (with_call p c.step c.now c.reply) rest)
  first_call e es p [] is = absurd (cc is)
  first_call e es p (c ∷ cs) is = (c, cs, refl, head_is is, tail_is is)

  -- it answers these, and then the tail
  pub mixed : (log : List HistoryEntry) (m : Plain) (p q : Past) (cs ds tail : List Call) → IsLegal began m log → picked by_first log ≡ entries_from p cs
      → picked by_other log ≡ entries_from q ds → PlainAnswers (after began m log) tail → Mixed m cs ds tail
  mixed [] m p q cs ds tail legal firsts others then = ([], (none_from p cs firsts, none_from q ds others), then)
  mixed (e ∷ log) m p q cs ds tail legal firsts others then =
      elim (is_first e.by) as
      (λ b. cond b (e ∷ picked by_first log) (picked by_first log) ≡ entries_from p cs → cond (not b) (e ∷ picked by_other log) (picked by_other log) ≡ entries_from q ds → Mixed m cs ds tail) [
        | true ↦ λ here there.
            let c = first_call e (picked by_first log) p cs here in
            let mix = mixed log (next began m e.what) (with_call p c.0.step c.0.now c.0.reply) q c.1 ds tail legal.1 c.4 there then in
            (c.0 ∷ mix.0, inl (c.1, c.2, mix.1), next_answers m e p c.0 (mix.0 ++ tail) c.3 legal.0 mix.2)
        | false ↦ λ here there.
            let c = first_call e (picked by_other log) q ds there in
            let mix = mixed log (next began m e.what) p (with_call q c.0.step c.0.now c.0.reply) cs c.1 tail legal.1 here c.4 then in
            (c.0 ∷ mix.0, inr (c.1, c.2, mix.1), next_answers m e q c.0 (mix.0 ++ tail) c.3 legal.0 mix.2)
      ] firsts others

-- ---- two callers
abbrev pub first_past : Past
first_past = made (start [] spent) (0 ∷ [])

abbrev pub other_past : Past
other_past = start (0 ∷ []) (start [] spent)

module _ (log : List HistoryEntry) (cs ds : List Call) (kept : KeptBy log (two_callers cs ds)) where
  all_joined : Whole (two_callers cs ds)
  all_joined =
      let callers_are : callers (two_callers cs ds) ≡ [] ∷ (0 ∷ []) ∷ [] = λ i. callers_with first_past cs i ++ callers_with other_past ds i in
      let makes_are : makes (two_callers cs ds) ≡ (0 ∷ []) ∷ [] = λ i. makes_with first_past cs i ++ makes_with other_past ds i in (
        let one : times [] (callers (two_callers cs ds)) ≡ 1 = ap (times []) callers_are in omega (arith, one),
        λ d some.
            let is_made : times d (makes (two_callers cs ds)) ≡ same d (0 ∷ []) + 0 = ap (times d) makes_are in
            let is_held : times d (callers (two_callers cs ds)) ≡ same d [] + (same d (0 ∷ []) + 0) = ap (times d) callers_are in
            omega (arith, some, is_made, is_held),
      )

  -- by either test the history is the caller's own calls
  first_part : picked by_first log ≡ entries_from first_past cs
  first_part =
      let p : Past = with_calls first_past cs in
      let q : Past = with_calls other_past ds in
      let joined = kept.whole all_joined (weight by_first) in
      let none = weighs_none (weight by_first) q (all_with (λ n. ◌≡◌ {A = ℕ} (cond (is_first n) 1 0) 0) other_past ds refl tt) in
      picked_held by_first p log (all_with (λ n. is_first n ≡ true) first_past cs refl tt) kept.ordered.0
      (omega (arith, joined, none, total-append (weight by_first) (held p) (held q))) ∙ held_with first_past cs

  other_part : picked by_other log ≡ entries_from other_past ds
  other_part =
      let p : Past = with_calls first_past cs in
      let q : Past = with_calls other_past ds in
      let joined = kept.whole all_joined (weight by_other) in
      let none = weighs_none (weight by_other) p (all_with (λ n. ◌≡◌ {A = ℕ} (cond (not (is_first n)) 1 0) 0) first_past cs refl tt) in
      picked_held by_other q log (all_with (λ n. not (is_first n) ≡ true) other_past ds refl tt) kept.ordered.1
      (omega (arith, joined, none, total-append (weight by_other) (held p) (held q))) ∙ held_with other_past ds

pub two_mix : (began : Beginning) (first second : List Call) → Agrees began (two_callers first second) → (mix : List Call) × IsMixOf first second mix × PlainAnswers began.plain mix
two_mix began first second agrees =
    let answered =
    mixed began agrees.log began.plain first_past other_past first second [] agrees.legal (first_part agrees.log first second agrees.keeps) (other_part agrees.log first second agrees.keeps) tt in
    (answered.0, answered.1, subst (PlainAnswers began.plain) (append-nil answered.0) answered.2)
