-- What the plan of a step says of the plain machine at the key.
use Rattle.mc_shelf.proofs.Common.{◌&&◌, ◌∙◌, ◌≡◌, ◌≤◌, Action, alive, Answer, Answered, answered, ap, Appended, block_in, block_of, Body, changed, charge, cond_both, Deleted, Deletes}
use Rattle.mc_shelf.proofs.Common.{DeskState, Discard, Entry, Expire, expiring, Expiry, false, get, Given, hit_of, if◌then◌else◌, insert, is_dead, is_gone, is_none, is_some, IsOnKey}
use Rattle.mc_shelf.proofs.Common.{keeps_chunk, key_of, KeyStep, Left, List, ltb, ltb-false, ltb-true, made_block, next_by, next_of, None, Option, Outcome, Plain, Prepended, Reads, refl}
use Rattle.mc_shelf.proofs.Common.{refusal_reply, Refuses, remove, Reply, Row, row_at, row_of, ShelfContent, Some, StandsAt, stood, subst, sym, TooLarge, Touched, Touches, true, true≢false}
use Rattle.mc_shelf.proofs.Common.{Write, write_reply, Writes, written_block, wrote, ℕ}
use Rattle.std.proofs.Common.{append-nil}
use Rattle.mc_protocol.specs.Plain.{Absent, Lacks, Stores, absent_row, if_absent, if_present}
use Rattle.mc_shelf.specs.Plans.{charge_of}
use Rattle.mc_shelf.proofs.StandLemmas.{base, wrote_too_large}

-- ---- the item that a row speaks of

-- a row that reads, touches or deletes has an item, and one that writes where none stands writes the step's own block
abbrev pub SpeaksOf : Option Entry → Row → Type 0
SpeaksOf stands (Refuses refusal) = Unit {0}
SpeaksOf stands (Writes flags expiry body) = stands ≡ None → body ≡ Given
SpeaksOf stands row = (item : Entry) × (stands ≡ Some item)

absent_speaks : (does : Absent) → SpeaksOf None (absent_row does)
absent_speaks (Lacks why) = tt
absent_speaks (Stores flags expiry) = λ e. refl

present_speaks : (old : Entry) (row : Row) → SpeaksOf (Some old) row
present_speaks old (Refuses why) = tt
present_speaks old (Writes flags expiry body) = λ e. cc
present_speaks old row = (old, refl)

pub row_speaks : (step : KeyStep) (now : ℕ) (stands : Option Entry) → SpeaksOf stands (row_of step now stands)
row_speaks step now None = absent_speaks (if_absent step now)
row_speaks step now (Some old) = present_speaks old (if_present step now old)

-- an item that stands is the key's
pub alive_found : (cut : Option ℕ) (now : ℕ) (found : Option Entry) (item : Entry) → alive cut now found ≡ Some item → found ≡ Some item
alive_found cut now None item h = cc
alive_found cut now (Some old) item h =
    elim (is_dead old.expiry old.updated cut now) as (λ b. (if b then None else Some old) ≡ Some item → Some old ≡ Some item) [ true ↦ λ e. cc | false ↦ λ e. e ] h

-- ---- the block of a write

pub made_is : (body : Body) (block : List ℕ) (item : Option Entry) → made_block body block (block_in item) ≡ written_block body block item
made_is Prepended block None = append-nil block
made_is Appended block None = refl
made_is body block item = refl

-- what a write makes beside the block of the item that was found is what the row asks, though that item is dead
pub made_beside : (cut : Option ℕ) (now : ℕ) (found : Option Entry) (body : Body) (block : List ℕ) → (alive cut now found ≡ None → body ≡ Given)
    → made_block body block (block_in found) ≡ written_block body block (alive cut now found)
made_beside cut now found body block own =
    elim (alive cut now found) as (λ stands. alive cut now found ≡ stands → made_block body block (block_in found) ≡ written_block body block stands) [
      | None ↦ λ e. ap (λ (b : Body). made_block b block (block_in found)) (own e) ∙ ap (λ (b : Body). written_block b block None) (sym (own e))
      | Some old ↦ λ e. ap (λ (f : Option Entry). made_block body block (block_in f)) (alive_found cut now found old e) ∙ made_is body block (Some old)
    ] refl

-- ---- what comes next, and what the plain machine does

-- the state that a step finds, and what it makes of it
abbrev pub found_in : ShelfContent → KeyStep → ℕ → Plain → Plain
found_in shelf step now s = record s { items = base (stood shelf step now) (key_of step) s.items }

abbrev pub block_at : ShelfContent → KeyStep → ℕ → Body → List ℕ
block_at shelf step now body = written_block body (block_of step) (stood shelf step now)

abbrev pub wrote_at : ShelfContent → KeyStep → ℕ → (flags : ℕ) → Expiry → Body → Plain → Outcome
wrote_at shelf step now flags expiry body s =
    wrote (keeps_chunk body (key_of step) (stood shelf step now)) (write_reply body) (key_of step) flags expiry (block_at shelf step now body) (found_in shelf step now s) now

-- what a write that comes next says of its size and its body
pub record IsSized (shelf : ShelfContent) (step : KeyStep) (now size : ℕ) (body : Body) : Type 0 where
  pub size_is : size ≡ charge (key_of step) (block_at shelf step now body)
  pub fits : size ≤ shelf.greatest
  pub given : stood shelf step now ≡ None → body ≡ Given

module _ (shelf : ShelfContent) (step : KeyStep) (now : ℕ) where
  abbrev found : Option Entry
  found = get shelf.items (key_of step)

  abbrev stands : Option Entry
  stands = stood shelf step now

  -- what the next step says of an outcome of the plain machine
  abbrev pub Does : Plain → Outcome → Action → Type 0
  Does s outcome (Answer reply) = (outcome ≡ Answered reply (found_in shelf step now s)) × (is_gone shelf.cut now found ≡ false)
  Does s outcome (Expire expiry reply) = (item : Entry) × (stands ≡ Some item) × (outcome ≡ Answered reply (record s { items = insert s.items (key_of step) (record item { expiry = expiry }) }))
  Does s outcome (Discard reply) = (old : Entry) × (found ≡ Some old) × (outcome ≡ Answered reply (record s { items = remove s.items (key_of step) }))
  Does s outcome (Write size flags expiry body) = (outcome ≡ wrote_at shelf step now flags expiry body s) × IsSized shelf step now size body
  Does s outcome (Left unique chunks flags expiry body) = ⊥

  -- a dead item was found, and none stands
  pub dead_found : (f st : Option Entry) → is_some f && is_none st ≡ true → ((old : Entry) × (f ≡ Some old)) × (st ≡ None)
  dead_found (Some old) None e = ((old, refl), refl)
  dead_found f st e = absurd (true≢false (sym e))

  answered_does : (s : Plain) (outcome : Outcome) (reply : Reply) → outcome ≡ Answered reply (found_in shelf step now s) → Does s outcome (answered (is_gone shelf.cut now found) reply)
  answered_does s outcome reply is =
      elim (is_gone shelf.cut now found) as (λ b. is_gone shelf.cut now found ≡ b → Does s outcome (answered b reply)) [
        | true ↦ λ dead. let there = dead_found found stands dead in (there.0.0, there.0.1, is ∙ ap (λ (o : Option Entry). Answered reply (record s { items = base o (key_of step) s.items })) there.1)
        | false ↦ λ dead. (is, dead)
      ] refl

  expires_does : (s : Plain) (expiry : Expiry) (reply : Reply) → ((item : Entry) × (stands ≡ Some item))
      → Does s (Answered reply (expiring stands (key_of step) expiry (found_in shelf step now s))) (Expire expiry reply)
  expires_does s expiry reply there = (there.0, there.1, ap (λ (o : Option Entry). Answered reply (expiring o (key_of step) expiry (record s { items = base o (key_of step) s.items }))) there.1)

  writes_does : (s : Plain) → s.greatest ≡ shelf.greatest → (flags : ℕ) (expiry : Expiry) (body : Body) → (stands ≡ None → body ≡ Given)
      → Does s (wrote_at shelf step now flags expiry body s) (next_by (is_gone shelf.cut now found) shelf.greatest step stands (Writes flags expiry body))
  writes_does s same flags expiry body given =
      let size = charge_of step stands body in
      cond_both (ltb shelf.greatest size) (answered (is_gone shelf.cut now found) TooLarge) (Write size flags expiry body) (λ next. Does s (wrote_at shelf step now flags expiry body s) next)
      (λ large. answered_does s (wrote_at shelf step now flags expiry body s) TooLarge
      (wrote_too_large (write_reply body) (key_of step) flags expiry (block_at shelf step now body) (found_in shelf step now s) now
      (keeps_chunk body (key_of step) stands) (rw same (ltb-true shelf.greatest size large))))
      (λ fits. (refl, record { size_is = refl; fits = ltb-false shelf.greatest size fits; given = given }))

  pub row_does : (s : Plain) → s.greatest ≡ shelf.greatest → (row : Row) → SpeaksOf stands row
      → Does s (changed row step stands (found_in shelf step now s) now) (next_by (is_gone shelf.cut now found) shelf.greatest step stands row)
  row_does s same (Refuses why) speaks = answered_does s (changed (Refuses why) step stands (found_in shelf step now s) now) (refusal_reply why) refl
  row_does s same (Reads None) speaks = answered_does s (changed (Reads None) step stands (found_in shelf step now s) now) (hit_of stands) refl
  row_does s same (Reads (Some expiry)) speaks = expires_does s expiry (hit_of stands) speaks
  row_does s same (Touches expiry) speaks = expires_does s expiry Touched speaks
  row_does s same Deletes speaks =
      (speaks.0, alive_found shelf.cut now found speaks.0 speaks.1, ap (λ (o : Option Entry). Answered Deleted (record s { items = remove (base o (key_of step) s.items) (key_of step) })) speaks.1)
  row_does s same (Writes flags expiry body) speaks = writes_does s same flags expiry body speaks

  -- what the plain machine does, by what comes next
  pub next_does : (desk : DeskState) (s : Plain) → IsOnKey step → StandsAt (key_of step) shelf desk s → (outcome : Outcome)
      → outcome ≡ changed (row_at shelf step now) step stands (found_in shelf step now s) now
      → (next : Action) → next ≡ next_of shelf step now → Does s outcome next
  next_does desk s on at outcome outcome_is next next_is =
      subst (λ (o : Outcome). Does s o next) (sym outcome_is)
      (subst (λ (n : Action). Does s (changed (row_at shelf step now) step stands (found_in shelf step now s) now) n) (sym next_is)
      (row_does s at.greatest (row_at shelf step now) (row_speaks step now stands)))
