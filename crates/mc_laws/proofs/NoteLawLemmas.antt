-- A caller that heeds a note of another's calls.
use Rattle.std.proofs.Common.{◌≡◌, inl, inr, ⊎_elim, ℕ, ◌+◌, ◌≤◌, Bool, true, cond, List, [], ◌∷◌, ◌++◌, length, sym, refl, ap, ◌∙◌, subst, arith, append_assoc}
use Rattle.mc_shared.proofs.Words.{append-nil, not, Plain, total, Beginning, Name, Operation, Stepped, HistoryEntry, after, IsLegal, Past, spent, start, call, made, both}
use Rattle.mc_shared.proofs.Words.{name_of, held, callers, makes, same, Ordered, Whole, KeptBy, entry_of, Agrees, with_call}
use Rattle.mc_shared.specs.Steps.{next_name}
use Rattle.mc_shared.specs.Past.{times}
use Rattle.mc_laws.specs.Laws.{Has, StandsBefore, CallerKnew, PastIsWithin, WentOn, Call, with_calls, PlainAnswers, heeded}
use Rattle.mc_laws.specs.Together.{IsMixOf, one_note, IsMixWithNote}
use Rattle.mc_shared.proofs.Sums.{total-append, head_is, tail_is}
use Rattle.mc_laws.proofs.OrderLawLemmas.{knew_before}
use Rattle.mc_laws.proofs.ReadLawLemmas.{legal_parts}
use Rattle.mc_laws.proofs.AloneLawLemmas.{AllAre, picked, picked_parts, picked_count, weight, picked_held, just_those, count}
use Rattle.mc_laws.proofs.MixLawLemmas.{weighs_none, entries_from, held_with, callers_with, makes_with, all_with, is_first, by_first, by_other, mixed, first_call, first_past, other_past}

-- ---- what the note knows, it knows
went_has : (p q : Past) (e : HistoryEntry) → WentOn p q → Has p e → Has q e
went_has p spent e w has = subst (λ (r : Past). Has r e) w has
went_has p (start c seen) e w has = subst (λ (r : Past). Has r e) w has
went_has p (call q d) e w has = ⊎_elim (λ (is : p ≡ call q d). subst (λ (r : Past). Has r e) is has) (λ (v : WentOn p q). inr (went_has p q e v has)) w
went_has p (made q d) e w has = ⊎_elim (λ (is : p ≡ made q d). subst (λ (r : Past). Has r e) is has) (λ (v : WentOn p q). went_has p q e v has) w
went_has p (both q o) e w has = ⊎_elim (λ (is : p ≡ both q o). subst (λ (r : Past). Has r e) is has) (λ (v : WentOn p q). inl (went_has p q e v has)) w

pub heeded_knows : (giver taker q r : Past) (note : Name) (known later : HistoryEntry) → WentOn (heeded taker note giver) q → PastIsWithin (call q later) r → Has giver known
    → CallerKnew r later known
heeded_knows giver taker q r note known later went within has = (q, within, went_has (heeded taker note giver) q known went (inr has))

pub heeded_order : (log : List HistoryEntry) (giver taker q r : Past) (note : Name) (known later : HistoryEntry) → KeptBy log r → WentOn (heeded taker note giver) q
    → PastIsWithin (call q later) r → Has giver known → StandsBefore log known later
heeded_order log giver taker q r note known later kept went within has = knew_before log r later known kept (heeded_knows giver taker q r note known later went within has)

-- ---- the entries of calls
names_with : (p : Past) (cs : List Call) → name_of (with_calls p cs) ≡ name_of p
names_with p [] = refl
names_with p (c ∷ cs) = names_with (with_call p c.step c.now c.reply) cs

entries_alike : (p q : Past) (cs : List Call) → name_of p ≡ name_of q → held p ≡ held q → entries_from p cs ≡ entries_from q cs
entries_alike p q [] names helds = refl
entries_alike p q (c ∷ cs) names helds =
    let what : Operation = Stepped c.step c.now c.reply in
    let here : entry_of p what ≡ entry_of q what = λ i. record { by = names i; number = total (λ (e : HistoryEntry). same (names i) e.by) (helds i); what = what } in
    let more = entries_alike (with_call p c.step c.now c.reply) (with_call q c.step c.now c.reply) cs names (λ i. helds i ++ here i ∷ []) in
    λ i. here i ∷ more i

entries_both : (p : Past) (cs ds : List Call) → entries_from p (cs ++ ds) ≡ entries_from p cs ++ entries_from (with_calls p cs) ds
entries_both p [] ds = refl
entries_both p (c ∷ cs) ds = ap (λ es. entry_of p (Stepped c.step c.now c.reply) ∷ es) (entries_both (with_call p c.step c.now c.reply) cs ds)

entries_count : (p : Past) (cs : List Call) → count (entries_from p cs) ≡ length cs
entries_count p [] = refl
entries_count p (c ∷ cs) = let more = entries_count (with_call p c.step c.now c.reply) cs in omega (arith, more)

-- the first of a caller's entries are of its first calls
Parts : Past → (cs : List Call) → (xs ys : List HistoryEntry) → Type 0
Parts p cs xs ys = (ds : List Call) × (bs : List Call) × (cs ≡ ds ++ bs) × (xs ≡ entries_from p ds) × (ys ≡ entries_from (with_calls p ds) bs)

module _ (began : Beginning) where
  parts : (xs ys : List HistoryEntry) (p : Past) (cs : List Call) → xs ++ ys ≡ entries_from p cs → Parts p cs xs ys
  unfolding Parts
  parts [] ys p cs is = ([], cs, refl, refl, is)
  parts (x ∷ xs) ys p cs is =
      let c = first_call began x (xs ++ ys) p cs is in
      let more = parts xs ys (with_call p c.0.step c.0.now c.0.reply) c.1 c.4 in
      (c.0 ∷ more.0, more.1, c.2 ∙ ap (λ es. c.0 ∷ es) more.2, λ i. c.3 i ∷ more.3 i, more.4)

-- of two equal lists in two parts, the longer front has the shorter
longer : (xs ds ys bs : List Call) → length xs ≤ length ds → xs ++ ys ≡ ds ++ bs → (soon : List Call) × (ds ≡ xs ++ soon) × (ys ≡ soon ++ bs)
longer [] ds ys bs le is = (ds, refl, is)
longer (x ∷ xs) [] ys bs le is = absurd (omega (arith, le))
longer (x ∷ xs) (d ∷ ds) ys bs le is =
    let more = longer xs ds ys bs (omega (arith, le)) (tail_is is) in
    (more.0, λ i. sym (head_is is) i ∷ more.1 i, more.2)

no_calls : (cs : List Call) → length cs ≤ 0 → cs ≡ []
no_calls [] le = refl
no_calls (c ∷ cs) le = absurd (omega (arith, le))

calls_both : (ds bs : List Call) → length (ds ++ bs) ≡ length ds + length bs
calls_both [] bs = omega arith
calls_both (d ∷ ds) bs = let more = calls_both ds bs in omega (arith, more)

-- A history that orders a past's further calls has a front that orders the past, and the calls behind
-- it.
module _ (u : HistoryEntry → Bool) where
  cut : (p : Past) (cs : List Call) (log : List HistoryEntry) → ((e : HistoryEntry) → e.by ≡ name_of p → u e ≡ true) → Ordered log (with_calls p cs)
      → (front : List HistoryEntry) × (back : List HistoryEntry) × (log ≡ front ++ back) × Ordered front p × (length cs ≤ total (weight u) back)
  cut p [] log is o = (log, [], sym (append-nil log), o, omega arith)
  cut p (c ∷ cs) log is o =
      let e : HistoryEntry = entry_of p (Stepped c.step c.now c.reply) in
      let more = cut (with_call p c.step c.now c.reply) cs log is o in
      let one = is e refl in
      let few = more.4 in
      let here : weight u e ≡ 1 = ap (λ b. cond b 1 0) one in (
        more.3.0,
        (e ∷ more.3.1) ++ more.1,
        more.2 ∙ ap (λ es. es ++ more.1) more.3.2 ∙ append_assoc more.3.0 (e ∷ more.3.1) more.1,
        more.3.3,
        omega (arith, few, here, total-append (weight u) more.3.1 more.1),
      )

-- as many calls are behind as there are, so that none is between
none_between : (soon lates last : List Call) → lates ≡ soon ++ last → length lates ≤ length last → (soon ≡ []) × (last ≡ lates)
none_between soon lates last is le =
    let long : length lates ≡ length soon + length last = ap length is ∙ calls_both soon last in
    let none : soon ≡ [] = no_calls soon (omega (arith, le, long)) in
    (none, sym (is ∙ ap (λ cs. cs ++ last) none))

just_front : (theirs earlier soon : List Call) → theirs ≡ earlier ++ soon → soon ≡ [] → theirs ≡ earlier
just_front theirs earlier soon is none = is ∙ ap (λ cs. earlier ++ cs) none ∙ append-nil earlier

no_tail : (m : Plain) (cs : List Call) → PlainAnswers m (cs ++ []) → PlainAnswers m cs
no_tail m cs replies = subst (PlainAnswers m) (append-nil cs) replies

-- ---- one note
in_two_parts : (m : Plain) (firsts more earlier lates ours theirs later soon rest front back : List Call) → ours ≡ firsts ++ soon → more ≡ soon ++ rest → theirs ≡ earlier → later ≡ lates
    → IsMixOf ours theirs front → IsMixOf rest later back → PlainAnswers m (front ++ back) → (mix : List Call) × IsMixWithNote firsts more earlier lates mix × PlainAnswers m mix
in_two_parts m firsts more earlier lates ours theirs later soon rest front back ours_are went_on theirs_are later_are before behind replies = (
  front ++ back,
  record {
    front = front;
    back = back;
    soon = soon;
    rest = rest;
    is = refl;
    went_on = went_on;
    before = subst (λ ds. IsMixOf (firsts ++ soon) ds front) theirs_are (subst (λ cs. IsMixOf cs theirs front) ours_are before);
    behind = subst (λ ds. IsMixOf rest ds back) later_are behind;
  },
  replies,
)

module _ (began : Beginning) (firsts more earlier lates : List Call) where
  -- the giver's past when it gives the note, and the taker's when it heeds it
  abbrev giver : Past
  giver = with_calls first_past firsts

  abbrev name : Name
  name = next_name giver

  abbrev taker : Past
  taker = with_calls other_past earlier

  abbrev heeding : Past
  heeding = heeded taker name giver

  abbrev left : Past
  left = with_calls (made giver name) more

  abbrev right : Past
  right = with_calls heeding lates

  abbrev whole_past : Past
  whole_past = one_note firsts more earlier lates

  all_joined : Whole whole_past
  all_joined =
      let callers_are : callers whole_past ≡ [] ∷ (0 ∷ []) ∷ name ∷ [] =
      λ i. (callers_with (made giver name) more ∙ callers_with first_past firsts) i ++ (callers_with heeding lates ∙ ap (λ ns. ns ++ name ∷ []) (callers_with other_past earlier)) i in
      let makes_are : makes whole_past ≡ name ∷ (0 ∷ []) ∷ [] =
      λ i. (makes_with (made giver name) more ∙ ap (λ ns. name ∷ ns) (makes_with first_past firsts)) i ++ (makes_with heeding lates ∙ ap (λ ns. ns ++ []) (makes_with other_past earlier)) i in (
        let one : times [] (callers whole_past) ≡ 1 + (0 + (same [] name + 0)) = ap (times []) callers_are in omega (arith, one),
        λ d some.
            let is_made : times d (makes whole_past) ≡ same d name + (same d (0 ∷ []) + 0) = ap (times d) makes_are in
            let is_held : times d (callers whole_past) ≡ same d [] + (same d (0 ∷ []) + (same d name + 0)) = ap (times d) callers_are in
            omega (arith, some, is_made, is_held),
      )

  first_named : name_of giver ≡ []
  first_named = names_with first_past firsts

  other_named : name_of taker ≡ 0 ∷ []
  other_named = names_with other_past earlier

  held_left : held left ≡ entries_from first_past (firsts ++ more)
  held_left =
      held_with (made giver name) more
      ∙ (λ i. held_with first_past firsts i ++ entries_alike (made giver name) giver more refl refl i)
      ∙ sym (entries_both first_past firsts more)

  held_right : held right ≡ entries_from other_past (earlier ++ lates)
  held_right =
      held_with heeding lates
      ∙ (λ i. (append-nil (held taker) ∙ held_with other_past earlier) i ++ entries_alike heeding taker lates refl (append-nil (held taker)) i)
      ∙ sym (entries_both other_past earlier lates)

  left_are : (P : Name → Type 0) → P [] → AllAre (λ e. P e.by) left
  left_are P is = all_with P (made giver name) more (subst P (sym first_named) is) (all_with P first_past firsts is tt)

  right_are : (P : Name → Type 0) → P (0 ∷ []) → AllAre (λ e. P e.by) right
  right_are P is = all_with P heeding lates (subst P (sym other_named) is) (all_with P other_past earlier is tt)

  legal_front : (front back log : List HistoryEntry) → log ≡ front ++ back → IsLegal began began.plain log → IsLegal began began.plain (front ++ back)
  legal_front front back log is legal = subst (IsLegal began began.plain) is legal

  parts_of : (u : HistoryEntry → Bool) (front back log : List HistoryEntry) (cs : List Call) (p : Past) → log ≡ front ++ back → picked u log ≡ entries_from p cs
      → picked u front ++ picked u back ≡ entries_from p cs
  parts_of u front back log cs p is own = sym (picked_parts u front back) ∙ ap (picked u) (sym is) ∙ own

  -- the history in two parts, and the calls of each in either part
  cut_mix : (front back : List HistoryEntry) (ours our_last theirs their_last : List Call) → IsLegal began began.plain (front ++ back) → firsts ++ more ≡ ours ++ our_last
      → picked by_first front ≡ entries_from first_past ours → picked by_first back ≡ entries_from (with_calls first_past ours) our_last → earlier ++ lates ≡ theirs ++ their_last
      → picked by_other front ≡ entries_from other_past theirs → picked by_other back ≡ entries_from (with_calls other_past theirs) their_last
      → count (held giver) ≤ count (picked by_first front) → count (held taker) ≤ count (picked by_other front) → length lates ≤ total (weight by_other) back
      → (mix : List Call) × IsMixWithNote firsts more earlier lates mix × PlainAnswers began.plain mix
  cut_mix front back ours our_last theirs their_last legal our_calls our_front our_back their_calls their_front their_back made_all had_all behind =
      let firsts_count : count (held giver) ≡ length firsts = ap count (held_with first_past firsts) ∙ entries_count first_past firsts in
      let earlier_count : count (held taker) ≡ length earlier = ap count (held_with other_past earlier) ∙ entries_count other_past earlier in
      let our_count : count (picked by_first front) ≡ length ours = ap count our_front ∙ entries_count first_past ours in
      let their_count : count (picked by_other front) ≡ length theirs = ap count their_front ∙ entries_count other_past theirs in
      let back_count : count (picked by_other back) ≡ length their_last = ap count their_back ∙ entries_count (with_calls other_past theirs) their_last in
      let back_weight = picked_count by_other back in
      let we = longer firsts ours more our_last (omega (arith, made_all, firsts_count, our_count)) our_calls in
      let they = longer earlier theirs lates their_last (omega (arith, had_all, earlier_count, their_count)) their_calls in
      let last_is = none_between they.0 lates their_last they.2 (omega (arith, behind, back_weight, back_count)) in
      let laws = legal_parts began began.plain front back legal in
      let m : Plain = after began began.plain front in
      let second = mixed began back m (with_calls first_past ours) (with_calls other_past theirs) our_last their_last [] laws.1 our_back their_back tt in
      let first = mixed began front began.plain first_past other_past ours theirs second.0 laws.0 our_front their_front (no_tail m second.0 second.2) in
      let theirs_are = just_front theirs earlier they.0 they.1 last_is.0 in
      in_two_parts began.plain firsts more earlier lates ours theirs their_last we.0 our_last first.0 second.0 we.1 we.2 theirs_are last_is.1 first.1 second.1 first.2

  module _ (log : List HistoryEntry) (legal : IsLegal began began.plain log) (kept : KeptBy log whole_past) where
    first_part : picked by_first log ≡ entries_from first_past (firsts ++ more)
    first_part =
        let joined = kept.whole all_joined (weight by_first) in
        let none = weighs_none (weight by_first) right (right_are (λ n. ◌≡◌ {A = ℕ} (cond (is_first n) 1 0) 0) refl) in
        picked_held by_first left log (left_are (λ n. is_first n ≡ true) refl) kept.ordered.0
        (omega (arith, joined, none, total-append (weight by_first) (held left) (held right))) ∙ held_left

    other_part : picked by_other log ≡ entries_from other_past (earlier ++ lates)
    other_part =
        let joined = kept.whole all_joined (weight by_other) in
        let none = weighs_none (weight by_other) left (left_are (λ n. ◌≡◌ {A = ℕ} (cond (not (is_first n)) 1 0) 0) refl) in
        picked_held by_other right log (right_are (λ n. not (is_first n) ≡ true) refl) kept.ordered.1
        (omega (arith, joined, none, total-append (weight by_other) (held left) (held right))) ∙ held_right

    note_mix : (mix : List Call) × IsMixWithNote firsts more earlier lates mix × PlainAnswers began.plain mix
    unfolding Parts
    note_mix =
        let split = cut by_other heeding lates log (λ e is. ap (λ n. not (is_first n)) (is ∙ other_named)) kept.ordered.1 in
        let front : List HistoryEntry = split.0 in
        let back : List HistoryEntry = split.1 in
        let ours = parts began (picked by_first front) (picked by_first back) first_past (firsts ++ more) (parts_of by_first front back log (firsts ++ more) first_past split.2 first_part) in
        let theirs = parts began (picked by_other front) (picked by_other back) other_past (earlier ++ lates) (parts_of by_other front back log (earlier ++ lates) other_past split.2 other_part) in
        let made_all = (just_those by_first giver front (all_with (λ n. is_first n ≡ true) first_past firsts refl tt) split.3.1).0 in
        let had_all = (just_those by_other taker front (all_with (λ n. not (is_first n) ≡ true) other_past earlier refl tt) split.3.0).0 in
        cut_mix front back ours.0 ours.1 theirs.0 theirs.1 (legal_front front back log split.2 legal) ours.2 ours.3 ours.4 theirs.2 theirs.3 theirs.4 made_all had_all split.4

pub one_note_mix : (began : Beginning) (firsts more earlier lates : List Call) → Agrees began (one_note firsts more earlier lates)
    → (mix : List Call) × IsMixWithNote firsts more earlier lates mix × PlainAnswers began.plain mix
one_note_mix began firsts more earlier lates agrees = note_mix began firsts more earlier lates agrees.log agrees.legal agrees.keeps
