-- One order of all calls.
use Rattle.std.proofs.Common.{◌≡◌, ⊎_elim, ℕ, ◌+◌, ◌≤◌, List, [], ◌∷◌, ◌++◌, sym, refl, ap, ◌∙◌, subst, arith}
use Rattle.mc_shared.proofs.Words.{Plain, Answered, total, Beginning, Name, Operation, Stepped, Purged, HistoryEntry, left_by, next, IsRight, after, IsLegal, Past, held}
use Rattle.mc_shared.proofs.Words.{numbered, Whole, KeptBy, Agrees, IsAfter}
use Rattle.mc_laws.specs.Laws.{StandsInLog}
use Rattle.std.specs.List.Sorted.{IsPermutation}
use Rattle.std.proofs.lemmas.List.Sorted.{IsPermutation-refl, IsPermutation-sym, IsPermutation-cons, IsPermutation-middle, IsPermutation-trans}
use Rattle.mc_laws.specs.Together.{AnswersOne, AnswersEach, AreAnswered}
use Rattle.mc_shared.proofs.Sums.{total-append}
use Rattle.mc_shared.proofs.NamedKept.{same_self}
use Rattle.mc_laws.proofs.OrderLawLemmas.{stands_longer, knew_before, keeps_all}
use Rattle.mc_laws.proofs.ReadLawLemmas.{stands_behind, around}
use Rattle.mc_laws.proofs.OnlyLawLemmas.{weight_in, held_has, own_held, once_only}
use Rattle.mc_laws.proofs.AloneLawLemmas.{count, none_left}

-- ---- the plain machine's answers
module _ (began : Beginning) where
  answers_one : (m : Plain) (what : Operation) → IsRight m what → AnswersOne began m what (next began m what)
  answers_one m (Stepped step now reply) right = right.1 ∙ ap (λ o. Answered reply (left_by m o)) (sym right.1)
  answers_one m (Purged shelf now) right = refl

  pub answers_each : (m : Plain) (es : List HistoryEntry) → IsLegal began m es → AnswersEach began m es (after began m es)
  answers_each m [] legal = refl
  answers_each m (e ∷ es) legal = (next began m e.what, answers_one m e.what legal.0, answers_each (next began m e.what) es legal.1)

-- ---- a list has what another has, each once
stands_in_rest : (before rest : List HistoryEntry) (e : HistoryEntry) → StandsInLog rest e → StandsInLog (before ++ rest) e
stands_in_rest [] rest e s = s
stands_in_rest (x ∷ before) rest e s = stands_behind x e (before ++ rest) (stands_in_rest before rest e s)

-- each entry has a label of its own
abbrev Apart : List HistoryEntry → Type 0
Apart es = (c : Name) (n : ℕ) → total (numbered c n) es ≤ 1

module _ (y : HistoryEntry) (ys : List HistoryEntry) where
  apart_rest : Apart (y ∷ ys) → Apart ys
  apart_rest apart c n = let least = apart c n in omega (arith, least)

  stands_once : Apart (y ∷ ys) → StandsInLog ys y → ⊥
  stands_once apart s =
      let least = apart y.by y.number in
      let one : numbered y.by y.number y ≡ 1 = same_self (y.number ∷ y.by) in
      let more = weight_in (numbered y.by y.number) ys y s in
      omega (arith, least, one, more)

  others_stand : (before rest : List HistoryEntry) → Apart (y ∷ ys) → ((e : HistoryEntry) → StandsInLog (y ∷ ys) e → StandsInLog (before ++ y ∷ rest) e)
      → (e : HistoryEntry) → StandsInLog ys e → StandsInLog (before ++ rest) e
  others_stand before rest apart all e s = ⊎_elim
      (λ (front : StandsInLog before e). stands_longer before rest e front)
      (λ t. ⊎_elim (λ (is : e ≡ y). absurd (stands_once apart (subst (StandsInLog ys) is s))) (λ (behind : StandsInLog rest e). stands_in_rest before rest e behind) t)
      (around before y rest e (all e (stands_behind y e ys s)))

  one_more : (before rest xs : List HistoryEntry) → xs ≡ before ++ y ∷ rest → IsPermutation ys (before ++ rest) → IsPermutation (y ∷ ys) xs
  one_more before rest xs is others = subst (IsPermutation (y ∷ ys)) (sym is)
      (IsPermutation-trans (y ∷ ys) (y ∷ (before ++ rest)) (before ++ y ∷ rest) (IsPermutation-cons y ys (before ++ rest) others)
      (IsPermutation-sym (before ++ y ∷ rest) (y ∷ (before ++ rest)) (IsPermutation-middle before y rest)))

one_fewer : (before rest xs : List HistoryEntry) (y : HistoryEntry) (n : ℕ) → xs ≡ before ++ y ∷ rest → count xs ≡ 1 + n → count (before ++ rest) ≡ n
one_fewer before rest xs y n is counted =
    let whole : count xs ≡ count (before ++ y ∷ rest) = ap count is in
    omega (arith, whole, counted, total-append (λ (x : HistoryEntry). 1) before (y ∷ rest), total-append (λ (x : HistoryEntry). 1) before rest)

permuted : (ys xs : List HistoryEntry) → Apart ys → ((e : HistoryEntry) → StandsInLog ys e → StandsInLog xs e) → count xs ≡ count ys → IsPermutation ys xs
permuted [] xs apart all counted = subst (IsPermutation []) (sym (none_left xs (omega (arith, counted)))) (IsPermutation-refl [])
permuted (y ∷ ys) xs apart all counted =
    let s = all y ([], ys, refl) in
    one_more y ys s.0 s.1 xs s.2
    (permuted ys (s.0 ++ s.1) (apart_rest y ys apart) (others_stand y ys s.0 s.1 apart (λ e t. subst (λ es. StandsInLog es e) s.2 (all e t))) (one_fewer s.0 s.1 xs y (count ys) s.2 counted))

-- ---- a whole past
module _ (log : List HistoryEntry) (p : Past) (kept : KeptBy log p) (whole : Whole p) where
  held_apart : Apart (held p)
  held_apart c n = let least = kept.once c n in let is = kept.whole whole (numbered c n) in omega (arith, least, is)

  whole_permuted : IsPermutation (held p) log
  whole_permuted = permuted (held p) log held_apart (λ e s. keeps_all log p e kept (held_has p e s)) (kept.whole whole (λ (x : HistoryEntry). 1))

-- ---- the law's clauses
pub log_order : (began : Beginning) (p : Past) (agrees : Agrees began p) → AreAnswered began p agrees.log (after began began.plain agrees.log)
log_order began p agrees = record {
  all = λ e. keeps_all agrees.log p e agrees.keeps;
  once = λ first second. once_only agrees.log p first second agrees.keeps;
  order = λ later known. knew_before agrees.log p later known agrees.keeps;
  own = λ e. own_held agrees.log p e agrees.keeps;
  exactly = whole_permuted agrees.log p agrees.keeps;
  answers = answers_each began began.plain agrees.log agrees.legal;
}

pub closed_order : (began : Beginning) (p : Past) (closed : Plain) → IsAfter began p closed → (calls : List HistoryEntry) × AreAnswered began p calls closed
closed_order began p closed is =
    (is.log, subst (AreAnswered began p is.log) (sym is.state) (log_order began p (record { log = is.log; legal = is.legal; keeps = is.keeps })))

pub one_order : (began : Beginning) (p : Past) → Agrees began p → (calls : List HistoryEntry) × (left : Plain) × AreAnswered began p calls left
one_order began p agrees = (agrees.log, after began began.plain agrees.log, log_order began p agrees)
