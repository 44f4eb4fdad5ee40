-- A caller that is alone: the history is its calls.
use Rattle.std.proofs.Common.{◌≡◌, ℕ, ◌+◌, ◌≤◌, Bool, true, false, cond, List, [], ◌∷◌, ◌++◌, sym, refl, ap, ◌∙◌, subst, arith}
use Rattle.mc_shared.proofs.Words.{append-nil, Plain, total, Beginning, Stepped, HistoryEntry, left_by, after, IsLegal, Past, spent, start, call, made, both, held, callers, makes}
use Rattle.mc_shared.proofs.Words.{same, Ordered, Whole, KeptBy, entry_of, Agrees, with_call}
use Rattle.mc_laws.specs.Laws.{Call, with_calls, PlainAnswers}
use Rattle.mc_shared.specs.Past.{times}
use Rattle.mc_laws.specs.Laws.{IsAlone}
use Rattle.mc_shared.proofs.Sums.{total-append}
use Rattle.mc_laws.proofs.ReadLawLemmas.{legal_parts, after_parts}

-- how many
abbrev pub count : List HistoryEntry → ℕ
count = total (λ _. 1)

pub none_left : (es : List HistoryEntry) → count es ≤ 0 → es ≡ []
none_left [] le = refl
none_left (e ∷ es) le = absurd (omega (arith, le))

-- ---- the entries that a test picks
-- a caller's own calls are all so, and it took in none but callers without calls
abbrev pub AllAre : (HistoryEntry → Type 0) → Past → Type 0
AllAre P spent = ⊥
AllAre P (start c seen) = Unit {0}
AllAre P (call p e) = AllAre P p × P e
AllAre P (made p d) = AllAre P p
AllAre P (both p (start c seen)) = AllAre P p
AllAre P (both p q) = ⊥

module _ (u : HistoryEntry → Bool) where
  abbrev pub picked : List HistoryEntry → List HistoryEntry
  picked [] = []
  picked (e ∷ es) = cond (u e) (e ∷ picked es) (picked es)

  abbrev pub weight : HistoryEntry → ℕ
  weight e = cond (u e) 1 0

  put_in : (b : Bool) (e : HistoryEntry) (xs ys : List HistoryEntry) → cond b (e ∷ (xs ++ ys)) (xs ++ ys) ≡ cond b (e ∷ xs) xs ++ ys
  put_in true e xs ys = refl
  put_in false e xs ys = refl

  pub picked_parts : (xs ys : List HistoryEntry) → picked (xs ++ ys) ≡ picked xs ++ picked ys
  picked_parts [] ys = refl
  picked_parts (e ∷ es) ys = ap (λ r. cond (u e) (e ∷ r) r) (picked_parts es ys) ∙ put_in (u e) e (picked es) (picked ys)

  one_counted : (b : Bool) (e : HistoryEntry) (es : List HistoryEntry) (n : ℕ) → count es ≡ n → count (cond b (e ∷ es) es) ≡ cond b 1 0 + n
  one_counted true e es n is = omega (arith, is)
  one_counted false e es n is = omega (arith, is)

  pub picked_count : (es : List HistoryEntry) → count (picked es) ≡ total weight es
  picked_count [] = refl
  picked_count (e ∷ es) = one_counted (u e) e (picked es) (total weight es) (picked_count es)

  at_most_one : (b : Bool) → cond b 1 0 ≤ 1
  at_most_one true = omega arith
  at_most_one false = omega arith

  weighs_most : (es : List HistoryEntry) → total weight es ≤ count es
  weighs_most [] = omega arith
  weighs_most (e ∷ es) = let rest = weighs_most es in let one = at_most_one (u e) in omega (arith, rest, one)

  -- it picks as many as the caller's calls at least, and just those if it picks no more
  pub just_those : (p : Past) (log : List HistoryEntry) → AllAre (λ e. u e ≡ true) p → Ordered log p
      → (count (held p) ≤ count (picked log)) × (count (picked log) ≤ count (held p) → picked log ≡ held p)
  just_those (start c seen) log all o = (omega arith, none_left (picked log))
  just_those (call p e) log all o =
      let parts : picked log ≡ picked o.0 ++ e ∷ picked o.1 =
      ap picked o.2 ∙ picked_parts o.0 (e ∷ o.1) ∙ ap (λ b. picked o.0 ++ cond b (e ∷ picked o.1) (picked o.1)) all.1 in
      let is : count (picked log) ≡ count (picked o.0 ++ e ∷ picked o.1) = ap count parts in
      let here = total-append (λ (x : HistoryEntry). 1) (picked o.0) (e ∷ picked o.1) in
      let there = total-append (λ (x : HistoryEntry). 1) (held p) (e ∷ []) in
      let rest = just_those p o.0 all.0 o.3 in
      let few = rest.0 in (
        omega (arith, few, is, here, there),
        λ le.
            let last : picked o.1 ≡ [] = none_left (picked o.1) (omega (arith, few, is, le, here, there)) in
            let front : picked o.0 ≡ held p = rest.1 (omega (arith, few, is, le, here, there)) in
            parts ∙ ap (λ es. es ++ e ∷ picked o.1) front ∙ ap (λ es. held p ++ e ∷ es) last,
      )
  just_those (made p d) log all o = just_those p log all o
  just_those (both p (start c seen)) log all o =
      let rest = just_those p log all o.0 in
      let is = total-append (λ (x : HistoryEntry). 1) (held p) [] in
      (let few = rest.0 in omega (arith, few, is), λ le. rest.1 (omega (arith, le, is)) ∙ sym (append-nil (held p)))
  just_those p log all o = absurd all

  pub picked_held : (p : Past) (log : List HistoryEntry) → AllAre (λ e. u e ≡ true) p → Ordered log p → total weight log ≤ total weight (held p) → picked log ≡ held p
  picked_held p log all o le = (just_those p log all o).1 (let is = picked_count log in let most = weighs_most (held p) in omega (arith, le, is, most))

-- ---- all calls of one
picked_all : (es : List HistoryEntry) → picked (λ _. true) es ≡ es
picked_all [] = refl
picked_all (e ∷ es) = ap (λ r. e ∷ r) (picked_all es)

alone_are : (p : Past) → IsAlone p → AllAre (λ _. true ≡ true) p
alone_are (start c seen) alone = tt
alone_are (call p e) alone = (alone_are p alone, refl)
alone_are p alone = absurd alone

holds_first : (p : Past) → IsAlone p → 1 ≤ times [] (callers p)
holds_first (start c seen) alone = let is : same [] c ≡ 1 = ap (same []) alone.0 in omega (arith, is)
holds_first (call p e) alone = holds_first p alone
holds_first p alone = absurd alone

makes_none : (p : Past) → IsAlone p → makes p ≡ []
makes_none (start c seen) alone = refl
makes_none (call p e) alone = makes_none p alone
makes_none p alone = absurd alone

is_whole : (p : Past) → IsAlone p → Whole p
is_whole p alone = (holds_first p alone, λ d some. let is : times d (makes p) ≡ 0 = ap (times d) (makes_none p alone) in omega (arith, some, is))

pub alone_history : (log : List HistoryEntry) (p : Past) → IsAlone p → KeptBy log p → log ≡ held p
alone_history log p alone kept =
    sym (picked_all log) ∙ picked_held (λ _. true) p log (alone_are p alone) kept.ordered (let is = kept.whole (is_whole p alone) (weight (λ _. true)) in omega (arith, is))

pub alone_legal : (began : Beginning) (p : Past) → IsAlone p → Agrees began p → IsLegal began began.plain (held p)
alone_legal began p alone agrees = subst (IsLegal began began.plain) (alone_history agrees.log p alone agrees.keeps) agrees.legal

-- ---- the replies
module _ (began : Beginning) where
  answers : (p : Past) (calls : List Call) → IsLegal began began.plain (held (with_calls p calls)) → IsLegal began began.plain (held p) × PlainAnswers (after began began.plain (held p)) calls
  answers p [] legal = (legal, tt)
  answers p (c ∷ cs) legal =
      let e : HistoryEntry = entry_of p (Stepped c.step c.now c.reply) in
      let more = answers (with_call p c.step c.now c.reply) cs legal in
      let front = legal_parts began began.plain (held p) (e ∷ []) more.0 in
      let here = front.1.0 in
      let m : Plain = after began began.plain (held p) in
      (front.0, (here.0, here.1, subst (λ (s : Plain). PlainAnswers s cs) (after_parts began began.plain (held p) (e ∷ []) ∙ ap (left_by m) here.1) more.1))

still_alone : (p : Past) (calls : List Call) → IsAlone p → IsAlone (with_calls p calls)
still_alone p [] alone = alone
still_alone p (c ∷ cs) alone = still_alone (with_call p c.step c.now c.reply) cs alone

pub alone_answers : (began : Beginning) (calls : List Call) → Agrees began (with_calls (start [] spent) calls) → PlainAnswers began.plain calls
alone_answers began calls agrees =
    let p : Past = with_calls (start [] spent) calls in
    (answers began (start [] spent) calls (alone_legal began p (still_alone (start [] spent) calls (refl, refl)) agrees)).1
