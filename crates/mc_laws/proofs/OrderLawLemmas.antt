-- Where a kept past's entries stand.
use Rattle.std.proofs.Common.{◌≡◌, inl, inr, ⊎_elim, ◌≤◌, ◌<◌, List, [], ◌∷◌, ◌++◌, sym, refl, ap, ◌∙◌, subst, arith, append_assoc}
use Rattle.mc_shared.proofs.Words.{append-nil, Name, Operation, HistoryEntry, Past, spent, start, call, made, both, name_of, held, Ordered, called_by, count_calls}
use Rattle.mc_shared.proofs.Words.{KeptBy, entry_of}
use Rattle.mc_laws.specs.Laws.{StandsInLog, StandsBefore, Has, CallerKnew}
use Rattle.mc_laws.specs.Laws.{PastIsWithin, WentOn}
use Rattle.mc_shared.proofs.Sums.{total-append}
use Rattle.mc_shared.proofs.NamedKept.{same_self}

-- in a longer history it stands too
pub stands_longer : (log more : List HistoryEntry) (e : HistoryEntry) → StandsInLog log e → StandsInLog (log ++ more) e
stands_longer log more e s = (s.0, s.1 ++ more, ap (λ es. es ++ more) s.2 ∙ append_assoc s.0 (e ∷ s.1) more)

pub stands_in : (p : Past) (log : List HistoryEntry) (e : HistoryEntry) → Ordered log p → Has p e → StandsInLog log e
stands_in spent log e o has = absurd has
stands_in (start c seen) log e o has = stands_in seen log e o has
stands_in (call p d) log e o has = ⊎_elim
    (λ (is : d ≡ e). (o.0, o.1, o.2 ∙ ap (λ x. o.0 ++ x ∷ o.1) is))
    (λ (in_p : Has p e). let s = stands_longer o.0 (d ∷ o.1) e (stands_in p o.0 e o.3 in_p) in (s.0, s.1, o.2 ∙ s.2))
    has
stands_in (made p d) log e o has = stands_in p log e o has
stands_in (both p q) log e o has = ⊎_elim (stands_in p log e o.0) (stands_in q log e o.1) has

-- what the past within has, the other has
pub has_within : (p q : Past) (e : HistoryEntry) → PastIsWithin p q → Has p e → Has q e
has_within p spent e w has = subst (λ (r : Past). Has r e) w has
has_within p (start c seen) e w has = ⊎_elim (λ (is : p ≡ start c seen). subst (λ (r : Past). Has r e) is has) (λ (v : PastIsWithin p seen). has_within p seen e v has) w
has_within p (call q d) e w has = ⊎_elim (λ (is : p ≡ call q d). subst (λ (r : Past). Has r e) is has) (λ (v : PastIsWithin p q). inr (has_within p q e v has)) w
has_within p (made q d) e w has = ⊎_elim (λ (is : p ≡ made q d). subst (λ (r : Past). Has r e) is has) (λ (v : PastIsWithin p q). has_within p q e v has) w
has_within p (both q o) e w has = ⊎_elim (λ (is : p ≡ both q o). subst (λ (r : Past). Has r e) is has)
    (λ v. ⊎_elim (λ (u : PastIsWithin p q). inl (has_within p q e u has)) (λ (u : PastIsWithin p o). inr (has_within p o e u has)) v) w

-- a front of the history keeps the order of the past within
Fronts : List HistoryEntry → Past → Type 0
Fronts log p = (front : List HistoryEntry) × (rest : List HistoryEntry) × (log ≡ front ++ rest) × Ordered front p

module _ (p : Past) where
  whole_front : (q : Past) (log : List HistoryEntry) → Ordered log q → p ≡ q → Fronts log p
  unfolding Fronts
  whole_front q log o is = (log, [], sym (append-nil log), subst (Ordered log) (sym is) o)

  longer_front : (log more : List HistoryEntry) → Fronts log p → Fronts (log ++ more) p
  unfolding Fronts
  longer_front log more f = (f.0, f.1 ++ more, ap (λ es. es ++ more) f.2 ∙ append_assoc f.0 f.1 more, f.3)

  fronts : (q : Past) (log : List HistoryEntry) → Ordered log q → PastIsWithin p q → Fronts log p
  fronts spent log o w = whole_front spent log o w
  fronts (start c seen) log o w = ⊎_elim (whole_front (start c seen) log o) (fronts seen log o) w
  fronts (call q e) log o w = ⊎_elim (whole_front (call q e) log o)
      (λ (v : PastIsWithin p q). subst (λ es. Fronts es p) (sym o.2) (longer_front o.0 (e ∷ o.1) (fronts q o.0 o.3 v))) w
  fronts (made q d) log o w = ⊎_elim (whole_front (made q d) log o) (fronts q log o) w
  fronts (both q r) log o w = ⊎_elim (whole_front (both q r) log o) (λ v. ⊎_elim (fronts q log o.0) (fronts r log o.1) v) w

  pub within_front : (q : Past) (log : List HistoryEntry) → Ordered log q → PastIsWithin p q → (front : List HistoryEntry) × (rest : List HistoryEntry) × (log ≡ front ++ rest) × Ordered front p
  unfolding Fronts
  within_front = fronts

pub stands_before : (log : List HistoryEntry) (p : Past) (e first : HistoryEntry) → Ordered log (call p e) → Has p first → StandsBefore log first e
stands_before log p e first o has = let s = stands_in p o.0 first o.3 has in record {
  before = s.0;
  between = s.1;
  rest = o.1;
  is = o.2 ∙ ap (λ es. es ++ e ∷ o.1) s.2;
}

pub keeps_order : (log : List HistoryEntry) (p q r : Past) (e first : HistoryEntry) → KeptBy log r → PastIsWithin (call q e) r → PastIsWithin p q → Has p first → StandsBefore log first e
unfolding Fronts
keeps_order log p q r e first kept inner outer has =
    let f = fronts (call q e) r log kept.ordered inner in
    let s = stands_before f.0 q e first f.3 (has_within p q first outer has) in record {
      before = s.before;
      between = s.between;
      rest = s.rest ++ f.1;
      is = f.2 ∙ ap (λ es. es ++ f.1) s.is ∙ append_assoc (s.before ++ first ∷ s.between) (e ∷ s.rest) f.1;
    }

within_itself : (p : Past) → PastIsWithin p p
within_itself spent = refl
within_itself (start c seen) = inl refl
within_itself (call p e) = inl refl
within_itself (made p d) = inl refl
within_itself (both p q) = inl refl

pub knew_before : (log : List HistoryEntry) (p : Past) (later known : HistoryEntry) → KeptBy log p → CallerKnew p later known → StandsBefore log known later
knew_before log p later known kept knew = keeps_order log knew.0 knew.0 p later known kept knew.1 (within_itself knew.0) knew.2

pub keeps_all : (log : List HistoryEntry) (p : Past) (e : HistoryEntry) → KeptBy log p → Has p e → StandsInLog log e
keeps_all log p e kept has = stands_in p log e kept.ordered has

-- ---- numbers
-- who goes on keeps its name, and holds no fewer calls
record Grows (p q : Past) : Type 0 where
  name : name_of q ≡ name_of p
  calls : (c : Name) → count_calls c (held p) ≤ count_calls c (held q)

grows_same : (p q : Past) → p ≡ q → Grows p q
grows_same p q is = subst (Grows p) is (record { name = refl; calls = λ c. omega arith })

grows : (p q : Past) → WentOn p q → Grows p q
grows p spent w = grows_same p spent w
grows p (start c seen) w = grows_same p (start c seen) w
grows p (call q e) w = ⊎_elim (grows_same p (call q e))
    (λ (v : WentOn p q). let g = grows p q v in record { name = g.name; calls = λ c. let m = g.calls c in omega (arith, m, total-append (called_by c) (held q) (e ∷ [])) }) w
grows p (made q d) w = ⊎_elim (grows_same p (made q d)) (λ (v : WentOn p q). let g = grows p q v in record { name = g.name; calls = g.calls }) w
grows p (both q o) w = ⊎_elim (grows_same p (both q o))
    (λ (v : WentOn p q). let g = grows p q v in record { name = g.name; calls = λ c. let m = g.calls c in omega (arith, m, total-append (called_by c) (held q) (held o)) }) w

pub numbers_grow : (p q : Past) (first second : Operation) → WentOn (call p (entry_of p first)) q → ((entry_of q second).by ≡ (entry_of p first).by)
    × ((entry_of p first).number < (entry_of q second).number)
numbers_grow p q first second w =
    let g = grows (call p (entry_of p first)) q w in
    let more = g.calls (name_of p) in
    let one = same_self (name_of p) in
    let here : count_calls (name_of q) (held q) ≡ count_calls (name_of p) (held q) = ap (λ c. count_calls c (held q)) g.name in
    (g.name, omega (arith, more, one, here, total-append (called_by (name_of p)) (held p) (entry_of p first ∷ [])))
