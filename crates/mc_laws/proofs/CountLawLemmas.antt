-- Counts add up.
use Rattle.std.proofs.Common.{◌≡◌, ⊎_elim, ℕ, ◌+◌, ◌*◌, ◌%◌, ◌^◌, ◌≤◌, ◌<◌, Bool, true, false, cond, leb, ◌&&◌, List, [], ◌∷◌, ◌++◌, length, take, drop, Option, Some}
use Rattle.std.proofs.Common.{None, sym, refl, ap, ◌∙◌, subst, arith}
use Rattle.mc_shared.proofs.Words.{get, dite, ℕ_discrete, Expiry, Counted, Number, Plain, Outcome, Answered, Spent, plain, changed, written, with_chunk, block_need}
use Rattle.mc_shared.proofs.Words.{keeps_chunk, without_dead, standing, Entry as Item, total, Beginning, Operation, Stepped, HistoryEntry, left_by, next, IsRight, after}
use Rattle.mc_shared.proofs.Words.{IsLegal, Past, held, same, Whole, KeptBy, get_put}
use Rattle.mc_laws.specs.Laws.{StandsInLog, MayChange}
use Rattle.std.proofs.lemmas.Bool.{le-leb, leb-true}
use Rattle.std.proofs.lemmas.Fmt.{digits_decimal, digits_value-decimal, decimal_nonempty, length-decimal-le}
use Rattle.std.specs.Prelude.{decimal}
use Rattle.std.proofs.Math.Seq.{drop-length, take-length}
use Rattle.std.specs.List.{take_while, prefix_len, list_all}
use Rattle.std.specs.Char.{is_ascii_digit}
use Rattle.std.specs.Str.{all_ascii_digits}
use Rattle.std.specs.Str.Parse.{digits_value}
use Rattle.mc_protocol.specs.Words.{is_space, is_nonempty}
use Rattle.mc_protocol.specs.Numbers.{number_up_to}
use Rattle.mc_protocol.specs.declared.step.KeyStep.TheVariants.{Count}
use Rattle.mc_protocol.specs.Plain.{row_of, number_row, number_of}
use Rattle.mc_laws.specs.Laws.{IsNumber, IsCount, counts_by, counts_up}
use Rattle.mc_shared.proofs.NamedKept.{same_self, same_is}
use Rattle.mc_protocol.proofs.NumberLemmas.{own, number-some}
use Rattle.mc_laws.proofs.KeyLawLemmas.{some_is, none_some, alive_was, wrote_so}
use Rattle.mc_laws.proofs.ReadLawLemmas.{OthersStay, may_or_not, stands_behind, spares, legal_parts, after_parts}
use Rattle.mc_laws.proofs.OnlyLawLemmas.{whole_held}

-- ---- a number's digits are that number
both_true : (a b : Bool) → (a && b) ≡ true → (a ≡ true) × (b ≡ true)
both_true true true e = (refl, refl)
both_true true false e = absurd (cc e)
both_true false b e = absurd (cc e)

digits_front : (ds : List ℕ) → all_ascii_digits ds ≡ true → prefix_len is_ascii_digit ds ≡ length ds
digits_front [] h = refl
digits_front (d ∷ ds) h = let parts = both_true (is_ascii_digit d) (all_ascii_digits ds) h in
    let here : prefix_len is_ascii_digit (d ∷ ds) ≡ 1 + prefix_len is_ascii_digit ds = ap (λ b. cond b (1 + prefix_len is_ascii_digit ds) 0) parts.0 in
    let more = digits_front ds parts.1 in omega (arith, here, more)

taken_whole : (ds : List ℕ) → all_ascii_digits ds ≡ true → take_while is_ascii_digit ds ≡ ds
taken_whole ds h = ap (λ n. take n ds) (digits_front ds h) ∙ take-length ds

digits_number : (ds : List ℕ) (n : ℕ) → 0 < length ds → length ds ≤ 20 → all_ascii_digits ds ≡ true → digits_value 10 ds ≡ n → n < 2 ^ 64 → number_of ds ≡ Some n
digits_number ds n some short digits value small =
    let l : leb (length ds) 20 ≡ true = le-leb _ _ short in
    let reads : List ℕ → Option ℕ = λ t. cond (leb (length t) 20 && list_all is_space (drop (length t) ds)) (number_up_to 18446744073709551615 t) None in
    ap reads (taken_whole ds digits)
    ∙ ap (λ b. cond (b && list_all is_space (drop (length ds) ds)) (number_up_to 18446744073709551615 ds) None) l
    ∙ ap (λ r. cond (list_all is_space r) (number_up_to 18446744073709551615 ds) None) (drop-length ds)
    ∙ number-some 18446744073709551615 ds (own.to ds digits) (omega (arith, value, small)) some ∙ ap Some value

decimal_number : (n : ℕ) → n < 2 ^ 64 → number_of (decimal n) ≡ Some n
decimal_number n small =
    digits_number (decimal n) n (decimal_nonempty n small) (length-decimal-le 20 n (omega arith) (omega (arith, small)) small) (digits_decimal own n small) (digits_value-decimal own n small) small

-- what a number is, is below 2 ^ 64
up_to_small : (a b : Bool) (v limit n : ℕ) → cond a (cond (b && leb v limit) (Some v) None) None ≡ Some n → n ≤ limit
up_to_small false b v limit n is = absurd (none_some n is)
up_to_small true false v limit n is = absurd (none_some n is)
up_to_small true true v limit n is = elim (leb v limit) as (λ t. leb v limit ≡ t → cond t (Some v) None ≡ Some n → n ≤ limit) [
  | true ↦ λ e h. let le = leb-true v limit e in let same_number : v ≡ n = some_is v n h in omega (arith, le, same_number)
  | false ↦ λ e h. absurd (none_some n h)
] refl is

number_small : (block : List ℕ) (n : ℕ) → number_of block ≡ Some n → n < 2 ^ 64
number_small block n is =
    let digits : List ℕ = take_while is_ascii_digit block in
    let le =
    up_to_small (leb (length digits) 20 && list_all is_space (drop (length digits) block)) (is_nonempty digits && all_ascii_digits digits) (digits_value 10 digits) 18446744073709551615 n is in
    omega (arith, le)

-- ---- one count
abbrev CountsTo : List ℕ → ℕ → Outcome → Type 0
CountsTo key n (Answered (Number number) new) = IsNumber new key n
CountsTo key n (Answered reply new) = Unit {0}
CountsTo key n Spent = Unit {0}

written_number : (m : Plain) (key : List ℕ) (flags : ℕ) (expiry : Expiry) (now n : ℕ) → n < 2 ^ 64 → IsNumber (written m key flags expiry (decimal n) now) key n
written_number m key flags expiry now n small =
    let put : Item = record { flags = flags; expiry = expiry; block = decimal n; unique = m.next_unique; updated = now } in
    (put, get_put m.items key put, decimal_number n small)

module _ (key : List ℕ) (by now n : ℕ) where
  abbrev sum : ℕ
  sum = (n + by) % 18446744073709551616

  item_counts : (i : Item) (found : Plain) → CountsTo key sum (changed (number_row i true by (Some n)) (Count key true by) (Some i) found now)
  item_counts i found =
      wrote_so (CountsTo key sum) (keeps_chunk (Counted sum) key (Some i)) (Number sum) key i.flags i.expiry (decimal sum) found now tt tt
      (written_number found key i.flags i.expiry now sum (omega arith)) (written_number (with_chunk found (block_need key (decimal sum))) key i.flags i.expiry now sum (omega arith)) tt

  row_counts : (o : Option Item) (found : Plain) → ((i : Item) → o ≡ Some i → number_of i.block ≡ Some n) → CountsTo key sum (changed (row_of (Count key true by) now o) (Count key true by) o found now)
  row_counts None found is = tt
  row_counts (Some i) found is =
      subst (λ r. CountsTo key sum (changed (number_row i true by r) (Count key true by) (Some i) found now)) (sym (is i refl)) (item_counts i found)

  step_counts : (m new : Plain) (number : ℕ) → plain m (Count key true by) now ≡ Answered (Number number) new → IsNumber m key n → IsNumber new key sum
  step_counts m new number is h =
      let o = standing m key now in
      subst (CountsTo key sum) is (row_counts o (without_dead o key m)
      (λ i e. let same_item : h.0 ≡ i = some_is h.0 i (sym h.1 ∙ alive_was m.cut now (get m.items key) i e) in ap (λ (x : Item). number_of x.block) (sym same_item) ∙ h.2))

-- ---- many counts
module _ (others_stay : OthersStay) (began : Beginning) (key : List ℕ) where
  counts_no_more : (other : List ℕ) (by : ℕ) → (other ≡ key → ⊥) → same other key * by ≡ 0
  counts_no_more other by ne = dite (ℕ_discrete (same other key) 0) (λ none. ap (λ n. n * by) none ∙ omega arith) (λ some. absurd (ne (same_is other key some)))

  not_counted : (what : Operation) → (MayChange began key what → ⊥) → counts_by key what ≡ 0
  not_counted (Stepped (Count other true by) now (Number number)) not_may = counts_no_more other by not_may
  not_counted what not_may = refl

  number_stays : (m : Plain) (what : Operation) (n : ℕ) → IsRight m what → (MayChange began key what → ⊥) → IsNumber m key n → IsNumber (next began m what) key n
  number_stays m what n right not_may h = (h.0, spares others_stay began key m what right not_may ∙ h.1, h.2)

  count_next : (m : Plain) (what : Operation) (n : ℕ) → IsRight m what → IsCount key what → IsNumber m key n → IsNumber (next began m what) key ((n + counts_by key what) % (2 ^ 64))
  count_next m (Stepped (Count other true by) now (Number number)) n right is h =
      let one : same other key ≡ 1 = ap (same other) (sym is) ∙ same_self other in
      let by_is : by ≡ same other key * by = sym (ap (λ k. k * by) one ∙ omega arith) in
      let at_key : IsNumber right.0 key ((n + by) % (2 ^ 64)) =
      subst (λ k. IsNumber m k n → IsNumber right.0 k ((n + by) % (2 ^ 64))) is (step_counts other by now n m right.0 number right.1) h in
      subst (λ d. IsNumber (next began m (Stepped (Count other true by) now (Number number))) key ((n + d) % (2 ^ 64))) by_is
      (subst (λ o. IsNumber (left_by m o) key ((n + by) % (2 ^ 64))) (sym right.1) at_key)
  count_next m what n right is h = absurd is

  all_counted : (m : Plain) (es : List HistoryEntry) (n : ℕ) → IsLegal began m es → IsNumber m key n → ((e : HistoryEntry) → StandsInLog es e → MayChange began key e.what → IsCount key e.what)
      → IsNumber (after began m es) key ((n + total (counts_up key) es) % (2 ^ 64))
  all_counted m [] n legal h counts = let small = number_small h.0.block n h.2 in
      let is : n ≡ (n + 0) % (2 ^ 64) = omega (arith, small) in subst (λ k. IsNumber m key k) is h
  all_counted m (e ∷ es) n legal h counts =
      let new : Plain = next began m e.what in
      let more = all_counted new es in
      let rest : (x : HistoryEntry) → StandsInLog es x → MayChange began key x.what → IsCount key x.what = λ x s. counts x (stands_behind e x es s) in
      ⊎_elim
      (λ (may : MayChange began key e.what).
      let sums : ((n + counts_by key e.what) % (2 ^ 64) + total (counts_up key) es) % (2 ^ 64) ≡ (n + (counts_by key e.what + total (counts_up key) es)) % (2 ^ 64) = omega arith in
      subst (λ k. IsNumber (after began new es) key k) sums
      (more ((n + counts_by key e.what) % (2 ^ 64)) legal.1 (count_next m e.what n legal.0 (counts e ([], es, refl) may) h) rest))
      (λ (not_may : MayChange began key e.what → ⊥).
      let none = not_counted e.what not_may in
      subst (λ k. IsNumber (after began new es) key ((n + k) % (2 ^ 64))) (let is : total (counts_up key) es ≡ counts_by key e.what + total (counts_up key) es = omega (arith, none) in is)
      (more n legal.1 (number_stays m e.what n legal.0 not_may h) rest))
      (may_or_not began key e.what)

pub counts_add_up : OthersStay → (began : Beginning) (front es : List HistoryEntry) (key : List ℕ) (n : ℕ) → IsLegal began began.plain (front ++ es) → IsNumber (after began began.plain front) key n
    → ((e : HistoryEntry) → StandsInLog es e → MayChange began key e.what → IsCount key e.what)
    → IsNumber (after began began.plain (front ++ es)) key ((n + total (counts_up key) es) % (2 ^ 64))
counts_add_up stay began front es key n legal h counts =
    subst (λ (s : Plain). IsNumber s key ((n + total (counts_up key) es) % (2 ^ 64))) (sym (after_parts began began.plain front es))
    (all_counted stay began key (after began began.plain front) es n (legal_parts began began.plain front es legal).1 h counts)

pub whole_counts : OthersStay → (began : Beginning) (log : List HistoryEntry) (p : Past) (key : List ℕ) (n : ℕ) → IsLegal began began.plain log → KeptBy log p → Whole p → IsNumber began.plain key n
    → ((e : HistoryEntry) → StandsInLog (held p) e → MayChange began key e.what → IsCount key e.what)
    → IsNumber (after began began.plain log) key ((n + total (counts_up key) (held p)) % (2 ^ 64))
whole_counts stay began log p key n legal kept whole h counts =
    subst (λ k. IsNumber (after began began.plain log) key ((n + k) % (2 ^ 64))) (kept.whole whole (counts_up key))
    (all_counted stay began key began.plain log n legal h (λ e s. counts e (whole_held log p e kept whole s)))
