-- Of two hits of a key the one with the smaller number stands first.
use Rattle.std.proofs.Common.{◌≡◌, inl, inr, ⊎_elim, ◌⊎◌, ℕ, ◌<◌, List, ◌∷◌, ◌++◌, sym, ap, ◌∙◌, subst, arith, append_assoc}
use Rattle.mc_protocol.specs.declared.reply.Reply.{Reply}
use Rattle.mc_protocol.specs.declared.reply.Reply.TheVariants.{Hit}
use Rattle.mc_shared.proofs.Words.{Read, ReadTouch, Beginning, Operation, Stepped, HistoryEntry, IsLegal}
use Rattle.mc_laws.specs.Laws.{StandsInLog, StandsBefore, Found, hit, IsHit, HasDrawnNumbers}
use Rattle.mc_laws.proofs.ReadLawLemmas.{OthersStay, around}
use Rattle.mc_laws.proofs.BackLawLemmas.{hits_in_order}

number_of_hit : Reply → ℕ
number_of_hit (Hit flags unique block) = unique
number_of_hit reply = 0

one_number : (was is : Found) → hit was ≡ hit is → was.unique ≡ is.unique
unfolding number_of_hit
one_number was is same = ap number_of_hit same

same_hit : (key : List ℕ) (was is : Found) (what : Operation) → IsHit key was what → IsHit key is what → was.unique ≡ is.unique
same_hit key was is (Stepped (Read other) now reply) one two = one_number was is (sym one.1 ∙ two.1)
same_hit key was is (Stepped (ReadTouch other exptime) now reply) one two = one_number was is (sym one.1 ∙ two.1)
same_hit key was is what one two = absurd one

-- of two entries one is first, or they are one
one_first : (log : List HistoryEntry) (a b : HistoryEntry) → StandsInLog log a → StandsInLog log b → StandsBefore log b a ⊎ ((b ≡ a) ⊎ StandsBefore log a b)
one_first log a b (before, rest, is) stands = ⊎_elim
    (λ (front : StandsInLog before b). inl (record { before = front.0; between = front.1; rest = rest; is = is ∙ ap (λ es. es ++ a ∷ rest) front.2 }))
    (λ t. ⊎_elim (λ (same : b ≡ a). inr (inl same)) (λ (behind : StandsInLog rest b). inr (inr (stands_behind behind))) t)
    (around before a rest b (subst (λ es. StandsInLog es b) is stands))
  where
    stands_behind : StandsInLog rest b → StandsBefore log a b
    stands_behind (between, last, there) =
        record { before = before; between = between; rest = last; is = is ∙ ap (λ es. before ++ a ∷ es) there ∙ sym (append_assoc before (a ∷ between) (b ∷ last)) }

pub numbers_order : OthersStay → (began : Beginning) (log : List HistoryEntry) (first second : HistoryEntry) (key : List ℕ) (was is : Found) → HasDrawnNumbers began.plain
    → IsLegal began began.plain log → StandsInLog log first → StandsInLog log second → IsHit key was first.what → IsHit key is second.what → was.unique < is.unique → StandsBefore log first second
numbers_order stay began log first second key was is drawn legal first_stands second_stands one two less = ⊎_elim
    (λ (back : StandsBefore log second first).
    let no_older = hits_in_order stay began log second first key is was drawn legal back two one in
    let most = no_older.0 in absurd (omega (arith, most, less)))
    (λ t. ⊎_elim
    (λ (same : second ≡ first). let equal = same_hit key was is first.what one (subst (λ (e : HistoryEntry). IsHit key is e.what) same two) in absurd (omega (arith, equal, less)))
    (λ (before : StandsBefore log first second). before) t)
    (one_first log first second first_stands second_stands)
