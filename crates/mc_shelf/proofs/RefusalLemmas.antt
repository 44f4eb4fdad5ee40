-- Where a step may be refused: its answer is one that memory is asked for.
use Rattle.mc_shelf.proofs.Common.{◌-◌, ◌^◌, ◌∙◌, ◌≡◌, ◌≢◌, ◌≤◌, Action, Answered, back_at, block_need, Body, Bool, CanStandAt, CanWrite, charge, CopiesBlock, DeskState, Err, Expiry, false}
use Rattle.mc_shelf.proofs.Common.{Given, has_room, IfOk, IsOnKey, IsSlab, IsSpent, keeps_chunk, key_of, KeyStep, List, MayFail, need_for, NeedsPages, next_of, NumbersSpent, Ok, Plain}
use Rattle.mc_shelf.proofs.Common.{plain, refl, Reply, Result, ShelfContent, Spent, StandsAt, StepFault, StepTaken, stood, subst, sym, true, true≢false, Write, write_reply, wrote, ℕ}
use Rattle.mc_protocol.specs.declared.step.StepFault.TheVariants.{NoMemory}
use Rattle.mc_shelf.specs.Plans.{MayWantMemory, writes}
use Rattle.mc_shelf.proofs.StandLemmas.{wrote_kept, wrote_taken}
use Rattle.mc_shelf.proofs.PlanLemmas.{block_at, found_in}
use Rattle.mc_shelf.proofs.NeedLemmas.{need_class}
use Rattle.mc_shelf.proofs.TakesLemmas.{fits_plain, room_found, sized, wrote_is}
use Rattle.mc_slab.specs.Slabs as slabs

reply_copies : (body : Body) → CopiesBlock (write_reply body)
reply_copies Given = tt
reply_copies body = tt

-- a write that finds a number and a chunk is answered so that it may be refused
module _ (step : KeyStep) (now : ℕ) (shelf : ShelfContent) (desk : DeskState) (on : IsOnKey step)
    (is : IsSlab desk.slab) (size flags : ℕ) (expiry : Expiry) (body : Body) (next : Write size flags expiry body ≡ next_of shelf step now)
    (more : desk.next_unique ≢ 2 ^ 64 - 1) (chunks : slabs.has_room_with desk.slab (need_for size) (back_at shelf (key_of step) now (need_for size)) ≡ true)
    (s : Plain) (at : StandsAt (key_of step) shelf desk s) where
  abbrev under : Plain
  under = found_in shelf step now s

  abbrev block : List ℕ
  block = block_at shelf step now body

  room : has_room under (block_need (key_of step) block) ≡ true
  room = subst (λ (n : ℕ). has_room under (need_for n) ≡ true) (sized shelf step now size flags expiry body next).size_is
      (room_found step now shelf desk is s at (need_for size) (need_class size) ∙ chunks)

  fits : charge (key_of step) block ≤ s.greatest
  fits = fits_plain step now shelf desk on size flags expiry body next s at

  answers : (keeps : Bool) → MayFail (wrote keeps (write_reply body) (key_of step) flags expiry block under now)
  answers true = subst MayFail (sym (wrote_kept (write_reply body) (key_of step) flags expiry block under now fits (λ e. more (sym at.next_unique ∙ e)))) (reply_copies body)
  answers false =
      subst MayFail (sym (wrote_taken (write_reply body) (key_of step) flags expiry block under now fits (λ e. more (sym at.next_unique ∙ e)) room)) (reply_copies body)

  pub write_wants : MayFail (plain s step now)
  write_wants = subst MayFail (sym (wrote_is step now shelf desk on size flags expiry body next s at)) (answers (keeps_chunk body (key_of step) (stood shelf step now)))

pub needs_can : (next : Action) (shelf : ShelfContent) (key : List ℕ) (now : ℕ) (desk : DeskState) → NeedsPages next shelf key now desk → CanWrite next shelf key now desk
needs_can next shelf key now desk needs = record { size = needs.size; flags = needs.flags; expiry = needs.expiry; body = needs.body; writes_it = needs.writes_it; number = needs.number; chunks = needs.pages.0 }

-- ---- spent numbers

-- where a step is taken, or may be refused, the numbers are not spent
pub taken_not_spent : (step : KeyStep) (now own : ℕ) (shelf : ShelfContent) (desk : DeskState) (reply : Reply) (new : ShelfContent) (desk' : DeskState)
    → CanStandAt (key_of step) shelf desk → StepTaken step now own shelf desk reply new desk' → IsSpent step now shelf desk → ⊥
taken_not_spent step now own shelf desk reply new desk' can took spent =
    let there = took.takes can.plain can.stands in apart reply there.0 (sym there.1 ∙ spent can.plain can.stands)
  where
    apart : (reply : Reply) (t : Plain) → Answered reply t ≡ Spent → ⊥
    apart reply t e = cc

pub wants_not_spent : (step : KeyStep) (now : ℕ) (shelf : ShelfContent) (desk : DeskState) → CanStandAt (key_of step) shelf desk → MayWantMemory step now shelf desk → IsSpent step now shelf desk → ⊥
wants_not_spent step now shelf desk can wants spent = subst MayFail (spent can.plain can.stands) (wants can.plain can.stands)

-- a plan that can be taken wants memory
pub can_wants : (step : KeyStep) (now : ℕ) (shelf : ShelfContent) (desk : DeskState) → IsOnKey step → IsSlab desk.slab
    → (next : Action) → next ≡ next_of shelf step now → CanWrite next shelf (key_of step) now desk → MayWantMemory step now shelf desk
can_wants step now shelf desk on is next next_is can s at =
    write_wants step now shelf desk on is can.size can.flags can.expiry can.body (sym can.writes_it ∙ next_is) can.number can.chunks s at

-- what writes is a write
pub writes_some : (next : Action) → writes next ≡ true → (size flags : ℕ) × (expiry : Expiry) × (body : Body) × (next ≡ Write size flags expiry body)
writes_some (Write size flags expiry body) e = (size, flags, expiry, body, refl)
writes_some next e = absurd (true≢false (sym e))

-- a result that is neither an answer nor want of memory tells of spent numbers
pub spent_told : (result : Result Reply StepFault) (P : Reply → Type 0) → IfOk result P → ((reply : Reply) → P reply → ⊥) → (result ≡ Err NoMemory → ⊥) → result ≡ Err NumbersSpent
spent_told (Ok reply) P took none refused = absurd (none reply took)
spent_told (Err NoMemory) P took none refused = absurd (refused refl)
spent_told (Err NumbersSpent) P took none refused = refl
