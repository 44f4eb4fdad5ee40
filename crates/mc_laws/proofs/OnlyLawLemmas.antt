-- What a history that keeps a past has beside it.
use Rattle.std.proofs.Common.{◌≡◌, ◌≢◌, ◌⊎◌, inl, inr, ⊎_elim, ℕ, ◌≤◌, List, [], ◌∷◌, ◌++◌, sym, refl, ap, subst, arith}
use Rattle.mc_shared.proofs.Words.{dite, ℕ_discrete, total, HistoryEntry, Past, spent, start, call, made, both, held, callers, same, numbered, Whole, KeptBy}
use Rattle.mc_laws.specs.Laws.{StandsInLog}
use Rattle.mc_laws.specs.Laws.{StandsBefore, Has}
use Rattle.mc_shared.specs.Past.{times}
use Rattle.mc_shared.proofs.Sums.{total-append, tail_is}
use Rattle.mc_shared.proofs.NamedKept.{same_self, same_is}
use Rattle.mc_laws.proofs.OrderLawLemmas.{stands_in}
use Rattle.mc_laws.proofs.ReadLawLemmas.{none_stands, first_or_behind, stands_behind, around}

module _ (f : HistoryEntry → ℕ) where
  -- something weighs where the sum is some
  find : (es : List HistoryEntry) → 1 ≤ total f es → (x : HistoryEntry) × StandsInLog es x × (f x ≢ 0)
  find [] some = absurd (omega (arith, some))
  find (x ∷ es) some = dite (ℕ_discrete (f x) 0)
      (λ none. let rest = find es (omega (arith, some, none)) in (rest.0, stands_behind x rest.0 es rest.1, rest.2))
      (λ weighs. (x, ([], es, refl), weighs))

  pub weight_in : (es : List HistoryEntry) (e : HistoryEntry) → StandsInLog es e → f e ≤ total f es
  weight_in es e s = let is : total f es ≡ total f (s.0 ++ e ∷ s.1) = ap (total f) s.2 in omega (arith, is, total-append f s.0 (e ∷ s.1))

-- what stands in two lists one after the other
in_either : (xs ys : List HistoryEntry) (e : HistoryEntry) → StandsInLog (xs ++ ys) e → StandsInLog xs e ⊎ StandsInLog ys e
in_either [] ys e s = inr s
in_either (x ∷ xs) ys e s = ⊎_elim
    (λ (is : e ≡ x). inl ([], xs, ap (λ y. y ∷ xs) (sym is)))
    (λ (more : StandsInLog (xs ++ ys) e). ⊎_elim (λ (front : StandsInLog xs e). inl (stands_behind x e xs front)) inr (in_either xs ys e more))
    (first_or_behind x e (xs ++ ys) s)

pub held_has : (p : Past) (e : HistoryEntry) → StandsInLog (held p) e → Has p e
held_has spent e s = none_stands e s
held_has (start c seen) e s = absurd (none_stands e s)
held_has (call p d) e s = ⊎_elim (λ (front : StandsInLog (held p) e). inr (held_has p e front))
    (λ (last : StandsInLog (d ∷ []) e). ⊎_elim (λ (is : e ≡ d). inl (sym is)) (λ (none : StandsInLog [] e). absurd (none_stands e none)) (first_or_behind d e [] last))
    (in_either (held p) (d ∷ []) e s)
held_has (made p d) e s = held_has p e s
held_has (both p q) e s = ⊎_elim (λ (l : StandsInLog (held p) e). inl (held_has p e l)) (λ (r : StandsInLog (held q) e). inr (held_has q e r)) (in_either (held p) (held q) e s)

-- whose an entry is, and its number
abbrev label : HistoryEntry → List ℕ
label e = e.number ∷ e.by

abbrev labelled : HistoryEntry → HistoryEntry → ℕ
labelled e = numbered e.by e.number

one_label : (e x : HistoryEntry) → labelled e x ≢ 0 → label e ≡ label x
one_label e x h = same_is (label e) (label x) h

module _ (log : List HistoryEntry) (p : Past) (kept : KeptBy log p) where
  -- of two places with one label there is one
  one_place : (e x : HistoryEntry) → StandsInLog log e → StandsInLog log x → labelled e x ≢ 0 → x ≡ e
  one_place e x s t weighs =
      let f : HistoryEntry → ℕ = numbered e.by e.number in
      let least = kept.once e.by e.number in
      let here : f e ≡ 1 = same_self (label e) in
      let is : total f log ≡ total f (s.0 ++ e ∷ s.1) = ap (total f) s.2 in
      let parts = total-append f s.0 (e ∷ s.1) in
      ⊎_elim
      (λ (front : StandsInLog s.0 x). let w = weight_in f s.0 x front in absurd (omega (arith, least, here, is, parts, w, weighs)))
      (λ (u : (x ≡ e) ⊎ StandsInLog s.1 x). ⊎_elim (λ (same_entry : x ≡ e). same_entry)
      (λ (rest : StandsInLog s.1 x). let w = weight_in f s.1 x rest in absurd (omega (arith, least, here, is, parts, w, weighs))) u)
      (around s.0 e s.1 x (subst (λ es. StandsInLog es x) s.2 t))

  is_held : (e : HistoryEntry) → StandsInLog log e → total (labelled e) log ≡ total (labelled e) (held p) → StandsInLog (held p) e
  is_held e s same_sums =
      let f : HistoryEntry → ℕ = labelled e in
      let here : f e ≡ 1 = same_self (label e) in
      let w = weight_in f log e s in
      let found = find f (held p) (omega (arith, here, w, same_sums)) in
      let is = one_place e found.0 s (stands_in p log found.0 kept.ordered (held_has p found.0 found.1)) found.2 in
      subst (StandsInLog (held p)) is found.1

pub own_held : (log : List HistoryEntry) (p : Past) (e : HistoryEntry) → KeptBy log p → 1 ≤ times e.by (callers p) → StandsInLog log e → StandsInLog (held p) e
own_held log p e kept holds s = is_held log p kept e s (kept.own (labelled e)
    (λ x none. dite (ℕ_discrete (labelled e x) 0) (λ z. z)
    (λ weighs. let is : times e.by (callers p) ≡ times x.by (callers p) = ap (λ c. times c (callers p)) (tail_is (one_label e x weighs)) in absurd (omega (arith, is, none, holds)))))

pub whole_held : (log : List HistoryEntry) (p : Past) (e : HistoryEntry) → KeptBy log p → Whole p → StandsInLog log e → StandsInLog (held p) e
whole_held log p e kept whole s = is_held log p kept e s (kept.whole whole (labelled e))

pub once_only : (log : List HistoryEntry) (p : Past) (first second : HistoryEntry) → KeptBy log p → StandsBefore log first second → first.by ≡ second.by → first.number ≡ second.number → ⊥
once_only log p first second kept s by number =
    let f : HistoryEntry → ℕ = numbered first.by first.number in
    let least = kept.once first.by first.number in
    let one : f first ≡ 1 = same_self (label first) in
    let other : f second ≡ 1 = subst (λ (l : List ℕ). same (label first) l ≡ 1) (λ i. number i ∷ by i) (same_self (label first)) in
    let is : total f log ≡ total f ((s.before ++ first ∷ s.between) ++ second ∷ s.rest) = ap (total f) s.is in
    omega (arith, least, one, other, is, total-append f (s.before ++ first ∷ s.between) (second ∷ s.rest), total-append f s.before (first ∷ s.between))
