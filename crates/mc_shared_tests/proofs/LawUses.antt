-- What the laws say of callers that meet, in the tests.
use Rattle.std.proofs.Common.{◌≡◌, inl, inr, ℕ, List, [], ◌∷◌, sym, refl, ap, ◌∙◌, subst}
use Rattle.mc_shared.proofs.Words.{Read, Reply, Beginning, Stepped, HistoryEntry, Past, spent, start, made, both, call, entry_of, next_name, Agrees, with_call}
use Rattle.mc_shared.specs.History.{Name}
use Rattle.mc_laws.specs.Laws.{Has, CallerKnew, WentOn, PastIsWithin, heeded}
use Rattle.mc_laws.specs.Laws.{Found, hit, IsHit, IsNoOlder, HasDrawnNumbers, Call, PlainAnswers}
use Rattle.mc_laws.specs.Together.{two_callers, IsMixOf}

abbrev pub KnownHits : Type 0
KnownHits = (began : Beginning) (p : Past) (first second : HistoryEntry) (key : List ℕ) (was is : Found) → HasDrawnNumbers began.plain
    → Agrees began p → CallerKnew p second first → IsHit key was first.what → IsHit key is second.what → IsNoOlder was is

-- a caller read, another took it in and read
pub reads_of_two : KnownHits → (began : Beginning) (key : List ℕ) (now : ℕ) (first second : Reply) (me me_then other met other_then : Past) → HasDrawnNumbers began.plain
    → me_then ≡ with_call me (Read key) now first → met ≡ both other me_then → other_then ≡ with_call met (Read key) now second → Agrees began other_then
    → (was is : Found) → first ≡ hit was → second ≡ hit is → IsNoOlder was is
reads_of_two law began key now first second me me_then other met other_then drawn read meets read_then agrees was is told told_then =
    let one : HistoryEntry = entry_of me (Stepped (Read key) now first) in
    let two : HistoryEntry = entry_of met (Stepped (Read key) now second) in
    law began (with_call met (Read key) now second) one two key was is drawn (subst (Agrees began) read_then agrees)
    (met, inl refl, subst (λ (p : Past). Has p one) (sym meets) (inr (subst (λ (p : Past). Has p one) (sym read) (inl refl))))
    (refl, told) (refl, told_then)

abbrev pub AnyMix : Type 0
AnyMix = (began : Beginning) (first second : List Call) → Agrees began (two_callers first second) → (mix : List Call) × IsMixOf first second mix × PlainAnswers began.plain mix

-- the first caller made another, each made a call, and the other was joined into the first
pub steps_of_two : AnyMix → (began : Beginning) (a b : Call) (me maker other me_then other_then met : Past) → me ≡ start [] spent
    → maker ≡ made me (next_name me) → other ≡ start (next_name me) me → me_then ≡ with_call maker a.step a.now a.reply → other_then ≡ with_call other b.step b.now b.reply
    → met ≡ both me_then other_then → Agrees began met
    → (mix : List Call) × IsMixOf (a ∷ []) (b ∷ []) mix × PlainAnswers began.plain mix
steps_of_two law began a b me maker other me_then other_then met first makes begins calls other_calls meets agrees =
    let maker_is : maker ≡ made (start [] spent) (0 ∷ []) = makes ∙ ap (λ p. made p (next_name p)) first in
    let other_is : other ≡ start (0 ∷ []) (start [] spent) = begins ∙ ap (λ p. start (next_name p) p) first in
    let one = calls ∙ ap (λ p. with_call p a.step a.now a.reply) maker_is in
    let two = other_calls ∙ ap (λ p. with_call p b.step b.now b.reply) other_is in
    let met_is : met ≡ two_callers (a ∷ []) (b ∷ []) = meets ∙ (λ i. both (one i) (two i)) in
    law began (a ∷ []) (b ∷ []) (subst (Agrees began) met_is agrees)

abbrev pub NotesKnow : Type 0
NotesKnow = (giver taker q r : Past) (note : Name) (known later : HistoryEntry) → WentOn (heeded taker note giver) q → PastIsWithin (call q later) r → Has giver known
    → CallerKnew r later known

-- a caller read and gave a note, another heeded it and read
pub reads_with_note : KnownHits → NotesKnow → (began : Beginning) (key : List ℕ) (now : ℕ) (first second : Reply) (giver giver_then note taker heeds taker_then : Past)
    → HasDrawnNumbers began.plain → giver_then ≡ with_call giver (Read key) now first → note ≡ start (next_name giver_then) giver_then → heeds ≡ both taker note
    → taker_then ≡ with_call heeds (Read key) now second → Agrees began taker_then
    → (was is : Found) → first ≡ hit was → second ≡ hit is → IsNoOlder was is
reads_with_note law knows began key now first second giver giver_then note taker heeds taker_then drawn read notes takes read_then agrees was is told told_then =
    let name : Name = next_name giver_then in
    let q : Past = heeded taker name giver_then in
    let q_is : heeds ≡ q = takes ∙ ap (both taker) notes in
    let one : HistoryEntry = entry_of giver (Stepped (Read key) now first) in
    let two : HistoryEntry = entry_of q (Stepped (Read key) now second) in
    law began (with_call q (Read key) now second) one two key was is drawn (subst (Agrees began) (read_then ∙ ap (λ p. with_call p (Read key) now second) q_is) agrees)
    (knows giver_then taker q (with_call q (Read key) now second) name one two (inl refl) (inl refl) (subst (λ (p : Past). Has p one) (sym read) (inl refl)))
    (refl, told) (refl, told_then)
