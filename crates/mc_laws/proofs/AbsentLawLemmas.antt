-- What a key that is absent tells of the history.
use Rattle.std.proofs.Common.{◌≡◌, ⊎_elim, ℕ, Bool, true, false, List, [], ◌∷◌, Some, None, sym, refl, ap, ◌∙◌, subst}
use Rattle.mc_shared.proofs.Words.{get, KeyStep, Stored, key_of, Plain, Entry as Item, Beginning, Stepped, HistoryEntry, next, after, IsLegal, Past, KeptBy, IsShown}
use Rattle.mc_laws.specs.Laws.{StandsInLog, Has, MayChange, item_after}
use Rattle.mc_laws.specs.Laws.{StoresAsGiven, IsTakenAway}
use Rattle.mc_laws.proofs.KeyLawLemmas.{none_some}
use Rattle.mc_laws.proofs.OrderLawLemmas.{keeps_all}
use Rattle.mc_laws.proofs.ReadLawLemmas.{OthersStay, may_or_not, legal_parts, after_parts, stands_behind, spares, given_is_left}

pub absent_gone : (began : Beginning) (p : Past) (key : List ℕ) → IsShown began p key true
    → (log : List HistoryEntry) × IsLegal began began.plain log × KeptBy log p × (item_after began log key ≡ None)
absent_gone began p key shown = (shown.log, shown.legal, shown.keeps, shown.gone refl key refl)

pub never_absent : (began : Beginning) (p : Past) (key : List ℕ) (answer : Bool) → IsShown began p key answer
    → ((log : List HistoryEntry) → IsLegal began began.plain log → KeptBy log p → item_after began log key ≡ None → ⊥) → answer ≡ false
never_absent began p key false shown has = refl
never_absent began p key true shown has = absurd (has shown.log shown.legal shown.keeps (shown.gone refl key refl))

-- what was there, and is no more, an entry took away
module _ (others_stay : OthersStay) (began : Beginning) (key : List ℕ) where
  taken_away : (m : Plain) (es : List HistoryEntry) (item : Item) → IsLegal began m es → get m.items key ≡ Some item → get (after began m es).items key ≡ None
      → (other : HistoryEntry) × StandsInLog es other × MayChange began key other.what
  taken_away m [] item legal has none = absurd (none_some item (sym none ∙ has))
  taken_away m (e ∷ es) item legal has none = ⊎_elim
      (λ (may : MayChange began key e.what). (e, ([], es, refl), may))
      (λ (not_may : MayChange began key e.what → ⊥).
      let more = taken_away (next began m e.what) es item legal.1 (spares others_stay began key m e.what legal.0 not_may ∙ has) none in
      (more.0, stands_behind e more.0 es more.1, more.2))
      (may_or_not began key e.what)

pub known_taken_away : OthersStay → (began : Beginning) (p : Past) (step : KeyStep) (then : ℕ) (write : HistoryEntry) → Has p write → write.what ≡ Stepped step then Stored
    → StoresAsGiven step then → IsShown began p (key_of step) true → IsTakenAway began p (key_of step) write
known_taken_away others_stay began p step then write has wrote given shown =
    let key = key_of step in
    let stands : StandsInLog shown.log write = keeps_all shown.log p write shown.keeps has in
    let before = stands.0 in
    let rest = stands.1 in
    let m = after began began.plain before in
    let parts = legal_parts began began.plain before (write ∷ rest) (subst (IsLegal began began.plain) stands.2 shown.legal) in
    let item = given m.next_unique in
    let left : get (next began m write.what).items key ≡ Some item.0 =
    ap (λ (n : Plain). get n.items key) (sym (after_parts began began.plain before (write ∷ [])))
    ∙ given_is_left began shown.log before rest write step then item.0 shown.legal stands.2 wrote item.1 in
    let none : get (after began (next began m write.what) rest).items key ≡ None =
    ap (λ (n : Plain). get n.items key) (sym (after_parts began began.plain before (write ∷ rest))) ∙ (ap (λ log. item_after began log key) (sym stands.2) ∙ shown.gone refl key refl) in
    let other = taken_away others_stay began key (next began m write.what) rest item.0 parts.1.1 left none in record {
      log = shown.log;
      legal = shown.legal;
      keeps = shown.keeps;
      stands = stands;
      other = other.0;
      behind = other.1;
      changes = other.2;
    }
