-- Unique numbers are drawn in the history's order.
use Rattle.std.proofs.Common.{◌≡◌, ⊎_elim, ℕ, ℤ, ◌≤◌, ◌<◌, Bool, true, false, cond, eqb, List, [], ◌∷◌, ◌++◌, Option, Some, None, sym, refl, ap, ◌∙◌, subst, arith}
use Rattle.std.proofs.Common.{ne_eqb}
use Rattle.mc_shared.proofs.Words.{get, get-empty, dite, ℕ_discrete, Expiry, expiry_of, KeyStep, Cas, Flush, Row, Reads, Touches, Deletes, Writes, Reply, Stored, Number}
use Rattle.mc_shared.proofs.Words.{Hit, key_of, Plain, Outcome, Answered, Spent, plain, stepped, changed, row_of, given, written, with_chunk, block_need}
use Rattle.mc_shared.proofs.Words.{without_dead, expiring, keeps_chunk, write_reply, written_block, block_of, standing, Entry as Item, Beginning, Operation, Stepped}
use Rattle.mc_shared.proofs.Words.{Purged, HistoryEntry, left_by, next, IsRight, after, IsLegal}
use Rattle.mc_laws.specs.Laws.{StandsInLog, StandsBefore, HasItem, Wrote, Found, HasDrawnNumbers}
use Rattle.mc_shared.proofs.Words.{found-next, order, get_put}
use Rattle.mc_protocol.specs.declared.row.Row.TheVariants.{Refuses}
use Rattle.mc_protocol.specs.Plain.{opening, perhaps_expiring}
use Rattle.mc_laws.proofs.KeyLawLemmas.{none_some, some_is, alive_was, hit_shows, wrote_so}
use Rattle.mc_laws.proofs.ReadLawLemmas.{OthersStay, legal_parts, after_parts, decided_was}
use Rattle.mc_protocol.specs.declared.row.Refusal.TheVariants as refusal

-- ---- the next unique number after a step
-- the item under a key has this number
abbrev HasNumber : Plain → List ℕ → ℕ → Type 0
HasNumber m key n = (i : Item) → get m.items key ≡ Some i → i.unique ≡ n

-- the next number falls never, and rises where the step wrote, and the write has the number that was next
abbrev Rises : Plain → KeyStep → ℕ → Outcome → Type 0
Rises old step now (Answered reply new) = (old.next_unique ≤ new.next_unique)
    × (Wrote (key_of step) (Stepped step now reply) → (old.next_unique < new.next_unique) × HasNumber new (key_of step) old.next_unique)
Rises old step now Spent = Unit {0}

expiring_next : (item : Option Item) (key : List ℕ) (expiry : Expiry) (m : Plain) → (expiring item key expiry m).next_unique ≡ m.next_unique
expiring_next None key expiry m = refl
expiring_next (Some i) key expiry m = refl

perhaps_next : (item : Option Item) (key : List ℕ) (expiry : Option Expiry) (m : Plain) → (perhaps_expiring item key expiry m).next_unique ≡ m.next_unique
perhaps_next item key None m = refl
perhaps_next item key (Some expiry) m = expiring_next item key expiry m

same_le : (a b : ℕ) → b ≡ a → a ≤ b
same_le a b is = omega (arith, is)

written_number : (m : Plain) (key : List ℕ) (flags : ℕ) (expiry : Expiry) (block : List ℕ) (now n : ℕ) → m.next_unique ≡ n → HasNumber (written m key flags expiry block now) key n
written_number m key flags expiry block now n is i e =
    let put : Item = record { flags = flags; expiry = expiry; block = block; unique = m.next_unique; updated = now } in
    sym (ap (λ (x : Item). x.unique) (some_is put i (sym (get_put m.items key put) ∙ e))) ∙ is

changed_rises : (row : Row) (step : KeyStep) (item : Option Item) (old found : Plain) (now : ℕ) → found.next_unique ≡ old.next_unique → Rises old step now (changed row step item found now)
changed_rises (Refuses refusal.NotStored) step item old found now f = (same_le _ _ f, λ w. absurd w)
changed_rises (Refuses refusal.Exists) step item old found now f = (same_le _ _ f, λ w. absurd w)
changed_rises (Refuses refusal.NotFound) step item old found now f = (same_le _ _ f, λ w. absurd w)
changed_rises (Refuses refusal.Miss) step item old found now f = (same_le _ _ f, λ w. absurd w)
changed_rises (Refuses refusal.NotNumeric) step item old found now f = (same_le _ _ f, λ w. absurd w)
changed_rises (Reads expiry) step None old found now f = (same_le _ _ (perhaps_next None (key_of step) expiry found ∙ f), λ w. absurd w)
changed_rises (Reads expiry) step (Some i) old found now f = (same_le _ _ (perhaps_next (Some i) (key_of step) expiry found ∙ f), λ w. absurd w)
changed_rises (Touches expiry) step item old found now f = (same_le _ _ (expiring_next item (key_of step) expiry found ∙ f), λ w. absurd w)
changed_rises Deletes step item old found now f = (same_le _ _ f, λ w. absurd w)
changed_rises (Writes flags expiry body) step item old found now f =
    let key : List ℕ = key_of step in
    let b : List ℕ = written_block body (block_of step) item in
    wrote_so (Rises old step now) (keeps_chunk body key item) (write_reply body) key flags expiry b found now
    (same_le _ _ f, λ w. absurd w) tt
    (omega (arith, f), λ w. (omega (arith, f), written_number found key flags expiry b now old.next_unique f))
    (omega (arith, f), λ w. (omega (arith, f), written_number (with_chunk found (block_need key b)) key flags expiry b now old.next_unique f))
    (same_le _ _ f, λ w. absurd w)

stepped_rises : (old : Plain) (step : KeyStep) (now : ℕ) → Rises old step now (stepped old step now)
stepped_rises old step now =
    let item = standing old (key_of step) now in
    changed_rises (row_of step now item) step item old (without_dead item (key_of step) old) now (found-next item (key_of step) old)

flushed_next : (b : Bool) (once later : Plain) (n : ℕ) → once.next_unique ≡ n → later.next_unique ≡ n → (cond b once later).next_unique ≡ n
flushed_next true once later n h k = h
flushed_next false once later n h k = k

plain_rises : (old : Plain) (step : KeyStep) (now : ℕ) → Rises old step now (plain old step now)
plain_rises old (Flush delay) now = (same_le _ _ (flushed_next (eqb delay 0) _ _ old.next_unique refl refl), λ w. absurd w)
plain_rises old step now = stepped_rises old step now

wrote_key : (key : List ℕ) (step : KeyStep) (now : ℕ) (reply : Reply) → Wrote key (Stepped step now reply) → (key_of step ≡ key) × Wrote (key_of step) (Stepped step now reply)
wrote_key key step now Stored w = (w, refl)
wrote_key key step now (Number n) w = (w, refl)
wrote_key key step now reply w = absurd w

module _ (began : Beginning) (key : List ℕ) where
  step_rises : (m new : Plain) (step : KeyStep) (now : ℕ) (reply : Reply) → plain m step now ≡ Answered reply new → Rises m step now (Answered reply new)
  step_rises m new step now reply is = subst (Rises m step now) is (plain_rises m step now)

  pub never_falls : (m : Plain) (what : Operation) → IsRight m what → m.next_unique ≤ (next began m what).next_unique
  never_falls m (Stepped step now reply) right =
      let is : (left_by m (plain m step now)).next_unique ≡ right.0.next_unique = ap (λ o. (left_by m o).next_unique) right.1 in
      let up = (step_rises m right.0 step now reply right.1).0 in omega (arith, is, up)
  never_falls m (Purged shelf now) right = omega arith

  write_draws : (m : Plain) (what : Operation) → IsRight m what → Wrote key what → (m.next_unique < (next began m what).next_unique) × HasNumber (next began m what) key m.next_unique
  write_draws m (Stepped step now reply) right w =
      let is : (left_by m (plain m step now)).next_unique ≡ right.0.next_unique = ap (λ o. (left_by m o).next_unique) right.1 in
      let wrote = wrote_key key step now reply w in
      let drew = (step_rises m right.0 step now reply right.1).1 wrote.1 in
      let up = drew.0 in
      (omega (arith, is, up), λ i e. drew.1 i (ap (get right.0.items) wrote.0 ∙ sym (ap (λ o. get (left_by m o).items key) right.1) ∙ e))
  write_draws m (Purged shelf now) right w = absurd w

  all_rise : (m : Plain) (es : List HistoryEntry) → IsLegal began m es → m.next_unique ≤ (after began m es).next_unique
  all_rise m [] legal = omega arith
  all_rise m (e ∷ es) legal = let one = never_falls m e.what legal.0 in let more = all_rise (next began m e.what) es legal.1 in omega (arith, one, more)

  -- what an item shows
  abbrev pub shown : Item → Found
  shown i = record { flags = i.flags; unique = i.unique; block = i.block }

  -- what is under the key is related so to the next number, which is no smaller than one
  module _ (others_stay : OthersStay) (n : ℕ) (R : ℕ → Found → Type 0) (longer : (a b : ℕ) (f : Found) → a ≤ b → R a f → R b f)
      (fresh : (a : ℕ) (f : Found) → n ≤ f.unique → f.unique < a → R a f) where
    abbrev pub Holds : Plain → Type 0
    Holds m = (n ≤ m.next_unique) × ((i : Item) → get m.items key ≡ Some i → R m.next_unique (shown i))

    one_holds : (m : Plain) (what : Operation) → IsRight m what → Holds m → Holds (next began m what)
    one_holds m what right high =
        let up = never_falls m what right in
        let least = high.0 in (
          omega (arith, up, least),
          λ i is. ⊎_elim
              (λ (h : HasItem m key i.flags i.unique i.block).
              longer m.next_unique _ (shown i) up (subst (R m.next_unique) (λ x. record { flags = h.2 x; unique = h.3 x; block = h.4 x }) (high.1 h.0 h.1)))
              (λ (w : Wrote key what × (i.unique ≡ m.next_unique)).
              let drew = (write_draws m what right w.0).0 in let number = w.1 in fresh _ (shown i) (omega (arith, least, number)) (omega (arith, drew, number)))
              (decided_was others_stay began key i.flags i.unique i.block m what right (i, is, refl, refl, refl)),
        )

    pub all_hold : (m : Plain) (es : List HistoryEntry) → IsLegal began m es → Holds m → Holds (after began m es)
    all_hold m [] legal high = high
    all_hold m (e ∷ es) legal high = all_hold (next began m e.what) es legal.1 (one_holds m e.what legal.0 high)

-- after a write every number of the key is new
pub written_numbers : OthersStay → (began : Beginning) (key : List ℕ) (m : Plain) (b r : List HistoryEntry) (e : HistoryEntry) → IsLegal began m (b ++ e ∷ r) → Wrote key e.what
    → (i : Item) → get (after began m (b ++ e ∷ r)).items key ≡ Some i → m.next_unique ≤ i.unique
written_numbers stay began key m b r e legal wrote i is =
    let parts = legal_parts began m b (e ∷ r) legal in
    let front : Plain = after began m b in
    let up = all_rise began key m b parts.0 in
    let draws = write_draws began key front e.what parts.1.0 wrote in
    let drew = draws.0 in
    (all_hold began key stay m.next_unique (λ a f. m.next_unique ≤ f.unique) (λ a c f le least. least) (λ a f least lt. least) (next began front e.what) r parts.1.1
    (omega (arith, up, drew), λ j at. let number = draws.1 j at in omega (arith, up, number))).1 i (ap (λ (s : Plain). get s.items key) (sym (after_parts began m b (e ∷ r))) ∙ is)

-- numbers are drawn in every store
pub new_drawn : (limit greatest : ℕ) → HasDrawnNumbers (opening limit greatest)
new_drawn limit greatest key item is = absurd (none_some item (sym (get-empty order key) ∙ is))

pub drawn_stay : OthersStay → (began : Beginning) (log : List HistoryEntry) → HasDrawnNumbers began.plain → IsLegal began began.plain log → HasDrawnNumbers (after began began.plain log)
drawn_stay stay began log drawn legal key =
    (all_hold began key stay 0 (λ a f. f.unique < a) (λ a b f le lt. omega (arith, le, lt)) (λ a f least lt. lt) began.plain log legal (omega arith, drawn key)).1

-- an item that is under a key behind a write has a greater number than one that was under it before
pub rises_past : OthersStay → (began : Beginning) (log : List HistoryEntry) (first second write : HistoryEntry) (key : List ℕ) (was is : Item) → HasDrawnNumbers began.plain
    → IsLegal began began.plain log → (places : StandsBefore log first second) → StandsInLog places.between write → Wrote key write.what
    → get (after began began.plain places.before).items key ≡ Some was → get (after began began.plain (places.before ++ first ∷ places.between)).items key ≡ Some is → was.unique < is.unique
rises_past stay began log first second write key was is drawn legal places stands wrote at_first at_second =
    let front : List HistoryEntry = places.before ++ first ∷ places.between in
    let m0 : Plain = after began began.plain places.before in
    let m1 : Plain = next began m0 first.what in
    let whole = legal_parts began began.plain front (second ∷ places.rest) (subst (IsLegal began began.plain) places.is legal) in
    let parts = legal_parts began began.plain places.before (first ∷ places.between) whole.0 in
    let low = drawn_stay stay began places.before drawn parts.0 key was at_first in
    let up = never_falls began key m0 first.what parts.1.0 in
    let there : after began began.plain front ≡ after began m1 (stands.0 ++ write ∷ stands.1) =
    after_parts began began.plain places.before (first ∷ places.between) ∙ ap (after began m1) stands.2 in
    let least = written_numbers stay began key m1 stands.0 stands.1 write (subst (IsLegal began m1) stands.2 parts.1.1) wrote is
    (sym (ap (λ (s : Plain). get s.items key) there) ∙ at_second) in
    omega (arith, low, up, least)

-- ---- a cas that stored met its number
abbrev Met : Plain → List ℕ → ℕ → Outcome → Type 0
Met m key n (Answered Stored new) = (i : Item) × (get m.items key ≡ Some i) × (i.unique ≡ n)
Met m key n (Answered reply new) = Unit {0}
Met m key n Spent = Unit {0}

met : (m : Plain) (key : List ℕ) (n : ℕ) (i : Item) (o : Outcome) → get m.items key ≡ Some i → i.unique ≡ n → Met m key n o
met m key n i (Answered Stored new) is number = (i, is, number)
met m key n i (Answered reply new) is number = tt
met m key n i Spent is number = tt

module _ (key : List ℕ) (flags : ℕ) (exptime : ℤ) (block : List ℕ) (n now : ℕ) where
  abbrev step : KeyStep
  step = Cas key flags exptime block n

  cas_meets : (m found : Plain) (o : Option Item) → ((i : Item) → o ≡ Some i → get m.items key ≡ Some i) → Met m key n (changed (row_of step now o) step o found now)
  cas_meets m found None stands = tt
  cas_meets m found (Some i) stands = dite (ℕ_discrete i.unique n)
      (λ is. met m key n i _ (stands i refl) is)
      (λ ne. subst (λ b. Met m key n (changed (cond b (given flags (expiry_of exptime now)) (Refuses refusal.Exists)) step (Some i) found now)) (sym (ne_eqb i.unique n ne)) tt)

  cas_met : (m new : Plain) → plain m step now ≡ Answered Stored new → (i : Item) × (get m.items key ≡ Some i) × (i.unique ≡ n)
  cas_met m new is = let o = standing m key now in
      subst (Met m key n) is (cas_meets m (without_dead o key m) o (λ i e. alive_was m.cut now (get m.items key) i e))

pub cas_is_of_read : OthersStay → (began : Beginning) (log : List HistoryEntry) (read cas other : HistoryEntry) (step : KeyStep) (then now flags unique more : ℕ) (exptime : ℤ) (block brought : List ℕ)
    → HasDrawnNumbers began.plain → IsLegal began began.plain log → (places : StandsBefore log read cas) → read.what ≡ Stepped step then (Hit flags unique block)
    → cas.what ≡ Stepped (Cas (key_of step) more exptime brought unique) now Stored → StandsInLog places.between other → Wrote (key_of step) other.what → ⊥
cas_is_of_read stay began log read cas other step then now flags unique more exptime block brought drawn legal places told met_is stands wrote =
    let key : List ℕ = key_of step in
    let front : List HistoryEntry = places.before ++ read ∷ places.between in
    let whole = legal_parts began began.plain front (cas ∷ places.rest) (subst (IsLegal began began.plain) places.is legal) in
    let parts = legal_parts began began.plain places.before (read ∷ places.between) whole.0 in
    let right = subst (IsRight (after began began.plain places.before)) told parts.1.0 in
    let shows = hit_shows flags unique block (after began began.plain places.before) right.0 step then right.1 in
    let cas_right = subst (IsRight (after began began.plain front)) met_is whole.1.0 in
    let met_item = cas_met key more exptime brought unique now (after began began.plain front) cas_right.0 cas_right.1 in
    let rises = rises_past stay began log read cas other key shows.0 met_item.0 drawn legal places stands wrote shows.1 met_item.1 in
    let number = shows.3 in
    let its = met_item.2 in
    omega (arith, rises, number, its)
