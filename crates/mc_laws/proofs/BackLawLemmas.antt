-- No hit is older than one before it.
use Rattle.std.proofs.Common.{◌≡◌, ℕ, suc, ◌<◌, List, ◌∷◌, ◌++◌, sym, refl, ap, ◌∙◌, subst, arith}
use Rattle.mc_shared.proofs.Words.{get, KeyStep, Read, ReadTouch, Reply, key_of, Plain, Answered, plain, Beginning, Operation, Stepped, HistoryEntry, IsRight}
use Rattle.mc_shared.proofs.Words.{after, IsLegal, Past, Agrees}
use Rattle.mc_laws.specs.Laws.{StandsInLog, StandsBefore, CallerKnew, HasItem, Wrote, Found, hit, IsHit, IsNoOlder, HasDrawnNumbers}
use Rattle.mc_laws.proofs.KeyLawLemmas.{some_is, hit_shows}
use Rattle.mc_laws.proofs.OrderLawLemmas.{knew_before}
use Rattle.mc_laws.proofs.ReadLawLemmas.{OthersStay, legal_parts, after_parts}
use Rattle.mc_laws.proofs.CasLawLemmas.{drawn_stay, shown, all_hold, rises_past}

-- the item that a hit tells is under the key
told_by : (m new : Plain) (step : KeyStep) (now : ℕ) (key : List ℕ) (found : Found) (reply : Reply) → plain m step now ≡ Answered reply new → key_of step ≡ key → reply ≡ hit found
    → HasItem m key found.flags found.unique found.block
told_by m new step now key found reply is at told =
    subst (λ k. HasItem m k found.flags found.unique found.block) at
    (hit_shows found.flags found.unique found.block m new step now (is ∙ ap (λ r. Answered r new) told))

pub hit_has : (m : Plain) (what : Operation) (key : List ℕ) (found : Found) → IsRight m what → IsHit key found what → HasItem m key found.flags found.unique found.block
hit_has m (Stepped (Read other) now reply) key found right is = told_by m right.0 (Read other) now key found reply right.1 is.0 is.1
hit_has m (Stepped (ReadTouch other exptime) now reply) key found right is = told_by m right.0 (ReadTouch other exptime) now key found reply right.1 is.0 is.1
hit_has m what key found right is = absurd is

-- the law's clauses
pub hits_in_order : OthersStay → (began : Beginning) (log : List HistoryEntry) (first second : HistoryEntry) (key : List ℕ) (was is : Found) → HasDrawnNumbers began.plain
    → IsLegal began began.plain log → StandsBefore log first second → IsHit key was first.what → IsHit key is second.what → IsNoOlder was is
hits_in_order stay began log first second key was is drawn legal places first_hits second_hits =
    let front : List HistoryEntry = places.before ++ first ∷ places.between in
    let m : Plain = after began began.plain places.before in
    let whole = legal_parts began began.plain front (second ∷ places.rest) (subst (IsLegal began began.plain) places.is legal) in
    let parts = legal_parts began began.plain places.before (first ∷ places.between) whole.0 in
    let shows = hit_has m first.what key was parts.1.0 first_hits in
    let low = drawn_stay stay began places.before drawn parts.0 key shows.0 shows.1 in
    let number = shows.3 in
    let there = all_hold began key stay (suc was.unique) (λ a f. IsNoOlder was f) (λ a b f le old. old) (λ a f least lt. (omega (arith, least), λ same. absurd (omega (arith, least, same))))
    m (first ∷ places.between) parts.1 (
      omega (arith, low, number),
      λ i at. subst (IsNoOlder was)
          ((λ x. record { flags = sym shows.2 x; unique = sym shows.3 x; block = sym shows.4 x }) ∙ ap (shown began key) (some_is shows.0 i (sym shows.1 ∙ at))) (omega arith, λ _. refl),
    ) in
    let tells = hit_has (after began began.plain front) second.what key is whole.1.0 second_hits in
    subst (IsNoOlder was) (λ x. record { flags = tells.2 x; unique = tells.3 x; block = tells.4 x })
    (there.1 tells.0 (ap (λ (s : Plain). get s.items key) (sym (after_parts began began.plain places.before (first ∷ places.between))) ∙ tells.1))

pub known_hits : OthersStay → (began : Beginning) (p : Past) (first second : HistoryEntry) (key : List ℕ) (was is : Found) → HasDrawnNumbers began.plain
    → Agrees began p → CallerKnew p second first → IsHit key was first.what → IsHit key is second.what → IsNoOlder was is
known_hits stay began p first second key was is drawn agrees knew =
    hits_in_order stay began agrees.log first second key was is drawn agrees.legal (knew_before agrees.log p second first agrees.keeps knew)

pub hits_round_a_write : OthersStay → (began : Beginning) (log : List HistoryEntry) (first second write : HistoryEntry) (key : List ℕ) (was is : Found) → HasDrawnNumbers began.plain
    → IsLegal began began.plain log → (places : StandsBefore log first second) → IsHit key was first.what → IsHit key is second.what → StandsInLog places.between write → Wrote key write.what
    → was.unique < is.unique
hits_round_a_write stay began log first second write key was is drawn legal places first_hits second_hits stands wrote =
    let front : List HistoryEntry = places.before ++ first ∷ places.between in
    let whole = legal_parts began began.plain front (second ∷ places.rest) (subst (IsLegal began began.plain) places.is legal) in
    let parts = legal_parts began began.plain places.before (first ∷ places.between) whole.0 in
    let shows = hit_has (after began began.plain places.before) first.what key was parts.1.0 first_hits in
    let tells = hit_has (after began began.plain front) second.what key is whole.1.0 second_hits in
    let rises = rises_past stay began log first second write key shows.0 tells.0 drawn legal places stands wrote shows.1 tells.1 in
    let number = shows.3 in
    let its = tells.3 in
    omega (arith, rises, number, its)
