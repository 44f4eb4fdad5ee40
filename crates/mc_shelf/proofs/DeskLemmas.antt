-- Which plans need the desk: those of a step that drops an item, writes one, finds no chunk, or finds the numbers spent.
use Rattle.mc_shelf.proofs.Common.{◌&&◌, ◌+◌, ◌-◌, ◌^◌, ◌↔◌, ◌∙◌, ◌≡◌, ◌≢◌, ◌≤◌, ◌⊎◌, Action, Answer, Answered, answered, ap, arith, block_need, Body, Bool, CanStandAt, charge, cond_both, Deletes}
use Rattle.mc_shelf.proofs.Common.{DeskState, Discard, Entry, eqb, Err, Expire, Expiry, false, full_fault, get, has_room_with, hit_of, if◌then◌else◌, inl, inr, is_gone, is_none}
use Rattle.mc_shelf.proofs.Common.{is_some, IsOnKey, keeps_chunk, key_of, KeyStep, Left, le-ltb, List, ltb, NeedState, next_by, next_of, NoChunk, None, none-some, Option, out_of, Outcome}
use Rattle.mc_shelf.proofs.Common.{pages_of, Plain, plain, Reads, refl, refusal_reply, Refuses, Reply, Result, Row, row_at, ShelfContent, SlabState, Some, Spent, StandsAt, stood, subst, sym}
use Rattle.mc_shelf.proofs.Common.{TakeFault, TellsFull, TooLarge, Touches, true, true≢false, wants_desk, WantsDesk, WantsPages, with_chunk, Write, write_reply, Writes, written, ℕ}
use Rattle.std.proofs.Common.{IfErr}
use Rattle.mc_slab.specs.declared.slab.TakeFault.TheVariants.{NoMemory}
use Rattle.mc_protocol.specs.declared.row.Refusal.{Refusal}
use Rattle.mc_protocol.specs.Plain.{has_room as plain_has_room}
use Rattle.mc_shelf.specs.Plans.{NeedsDesk, charge_of}
use Rattle.mc_shelf.proofs.KeyLemmas.{get_gone, get_put}
use Rattle.mc_shelf.proofs.StandLemmas.{base, step_is}
use Rattle.mc_shelf.proofs.PlanLemmas.{Does, block_at, found_in, next_does}
use Rattle.mc_protocol.specs.declared.row.Refusal.TheVariants as refusal

-- ---- no step without the desk is told that no chunk is left

refused_apart : (why : Refusal) → refusal_reply why ≡ NoChunk → ⊥
refused_apart refusal.NotStored e = cc
refused_apart why e = cc

hit_apart : (item : Option Entry) → hit_of item ≡ NoChunk → ⊥
hit_apart None e = cc
hit_apart (Some old) e = cc

-- the reply of what needs no desk is another
abbrev Tells : Action → Type 0
Tells (Answer reply) = reply ≢ NoChunk
Tells (Expire expiry reply) = reply ≢ NoChunk
Tells next = Unit {0}

answered_tells : (dead : Bool) (reply : Reply) → reply ≢ NoChunk → Tells (answered dead reply)
answered_tells true reply other = tt
answered_tells false reply other = other

next_tells : (dead : Bool) (greatest : ℕ) (step : KeyStep) (item : Option Entry) (row : Row) → Tells (next_by dead greatest step item row)
next_tells dead greatest step item (Refuses why) = answered_tells dead (refusal_reply why) (refused_apart why)
next_tells dead greatest step item (Reads None) = answered_tells dead (hit_of item) (hit_apart item)
next_tells dead greatest step item (Reads (Some expiry)) = hit_apart item
next_tells dead greatest step item (Touches expiry) = λ e. cc
next_tells dead greatest step item Deletes = tt
next_tells dead greatest step item (Writes flags expiry body) =
    cond_both (ltb greatest (charge_of step item body)) (answered dead TooLarge) (Write (charge_of step item body) flags expiry body) Tells (λ _. answered_tells dead TooLarge (λ e. cc)) (λ _. tt)

-- ---- a write

one_more : (n : ℕ) → n + 1 ≢ n
one_more n e = absurd (omega arith)

module _ (key : List ℕ) (s : Plain) where
  wrote_needs : (spent keeps room : Bool) (reply : Reply) (t u v : Plain) → u.next_unique ≢ s.next_unique → v.next_unique ≢ s.next_unique
      → NeedsDesk key s (if spent then Spent else if keeps then Answered reply u else if room then Answered reply v else Answered NoChunk t)
  wrote_needs true keeps room reply t u v more most = tt
  wrote_needs false true room reply t u v more most = inl more
  wrote_needs false false true reply t u v more most = inl most
  wrote_needs false false false reply t u v more most = inr (inl refl)

-- ---- plans

module _ (shelf : ShelfContent) (desk : DeskState) (step : KeyStep) (now : ℕ) (on : IsOnKey step) (s : Plain) (at : StandsAt (key_of step) shelf desk s) where
  abbrev its_key : List ℕ
  its_key = key_of step

  does : (next : Action) → next ≡ next_of shelf step now → Does shelf step now s (plain s step now) next
  does next is = next_does shelf step now desk s on at (plain s step now) (step_is step now shelf desk s on at) next is

  discard_needs : (reply : Reply) → Discard reply ≡ next_of shelf step now → NeedsDesk its_key s (plain s step now)
  discard_needs reply is =
      let d = does (Discard reply) is in
      subst (NeedsDesk its_key s) (sym d.2) (inr (inr ((λ none. none-some d.0 (sym none ∙ at.item ∙ d.1)), get_gone s.items its_key)))

  write_needs : (size flags : ℕ) (expiry : Expiry) (body : Body) → Write size flags expiry body ≡ next_of shelf step now → NeedsDesk its_key s (plain s step now)
  write_needs size flags expiry body is =
      let d = does (Write size flags expiry body) is in
      let block = block_at shelf step now body in
      let under = found_in shelf step now s in
      let need = block_need its_key block in
      let fits : ltb s.greatest (charge its_key block) ≡ false = le-ltb s.greatest (charge its_key block) (rw at.greatest (subst (λ (n : ℕ). n ≤ shelf.greatest) d.1.size_is d.1.fits)) in
      subst (NeedsDesk its_key s)
      (sym (d.0 ∙ ap (λ (b : Bool). if b then Answered TooLarge under else small flags expiry body block under) fits))
      (wrote_needs its_key s (eqb s.next_unique (2 ^ 64 - 1)) (keeps_chunk body its_key (stood shelf step now)) (plain_has_room under need) (write_reply body) under
      (written under its_key flags expiry block now) (written (with_chunk under need) its_key flags expiry block now) (one_more s.next_unique) (one_more s.next_unique))
    where
      small : ℕ → Expiry → Body → List ℕ → Plain → Outcome
      small flags expiry body block under =
          if eqb s.next_unique (2 ^ 64 - 1) then Spent
          else if keeps_chunk body its_key (stood shelf step now) then Answered (write_reply body) (written under its_key flags expiry block now)
          else if plain_has_room under (block_need its_key block) then Answered (write_reply body)
          (written (with_chunk under (block_need its_key block)) its_key flags expiry block now)
          else Answered NoChunk under

  -- where it is wanted, it is needed
  pub wanted_needs : (next : Action) → next ≡ next_of shelf step now → wants_desk next ≡ true → NeedsDesk its_key s (plain s step now)
  wanted_needs (Discard reply) is e = discard_needs reply is
  wanted_needs (Write size flags expiry body) is e = write_needs size flags expiry body is
  wanted_needs (Left unique chunks flags expiry body) is e = absurd (does (Left unique chunks flags expiry body) is)
  wanted_needs next is e = absurd (true≢false (sym e))

  -- an item that was found is still there
  still_there : (found st : Option Entry) → get s.items its_key ≡ found → is_some found && is_none st ≡ false → get s.items its_key ≢ None → get (base st its_key s.items) its_key ≡ None → ⊥
  still_there found (Some item) is gone some none = some none
  still_there None None is gone some none = some is
  still_there (Some old) None is gone some none = true≢false gone

  answer_needs_none : (reply : Reply) → Answer reply ≡ next_of shelf step now → NeedsDesk its_key s (plain s step now) → ⊥
  answer_needs_none reply is needs =
      let d = does (Answer reply) is in
      elim (subst (NeedsDesk its_key s) d.0 needs) [
        | inl more ↦ more refl
        | inr (inl none) ↦ subst Tells (sym is) (next_tells (is_gone shelf.cut now (get shelf.items its_key)) shelf.greatest step (stood shelf step now) (row_at shelf step now)) none
        | inr (inr gone) ↦ still_there (get shelf.items its_key) (stood shelf step now) at.item d.1 gone.0 gone.1
      ]

  expire_needs_none : (expiry : Expiry) (reply : Reply) → Expire expiry reply ≡ next_of shelf step now → NeedsDesk its_key s (plain s step now) → ⊥
  expire_needs_none expiry reply is needs =
      let d = does (Expire expiry reply) is in
      elim (subst (NeedsDesk its_key s) d.2 needs) [
        | inl more ↦ more refl
        | inr (inl none) ↦ subst Tells (sym is) (next_tells (is_gone shelf.cut now (get shelf.items its_key)) shelf.greatest step (stood shelf step now) (row_at shelf step now)) none
        | inr (inr gone) ↦ none-some (record d.0 { expiry = expiry }) (sym gone.1 ∙ get_put s.items its_key (record d.0 { expiry = expiry }))
      ]

  -- where it is needed, it is wanted
  pub needs_wanted : (next : Action) → next ≡ next_of shelf step now → NeedsDesk its_key s (plain s step now) → wants_desk next ≡ true
  needs_wanted (Answer reply) is needs = absurd (answer_needs_none reply is needs)
  needs_wanted (Expire expiry reply) is needs = absurd (expire_needs_none expiry reply is needs)
  needs_wanted next is needs = refl

-- the desk is wanted exactly where each plain state needs it
pub wanted_exactly : (shelf : ShelfContent) (desk : DeskState) (step : KeyStep) (now : ℕ) → IsOnKey step → CanStandAt (key_of step) shelf desk → (next : Action)
    → next ≡ next_of shelf step now → (wants_desk next ≡ true) ↔ WantsDesk step now shelf desk
wanted_exactly shelf desk step now on can next is =
    ((λ wants s at. wanted_needs shelf desk step now on s at next is wants), (λ needs. needs_wanted shelf desk step now on can.plain can.stands next is (needs can.plain can.stands)))

-- ---- want of pages

-- where the chunks of a need can be had, they are refused for want of memory alone, and that where pages are wanted
pub fault_wants : {A : Type 0} (slab : SlabState) (need : NeedState) (back : ℕ) (result : Result A TakeFault) {fault : TakeFault} → result ≡ Err fault
    → IfErr result (λ fault. (fault ≡ NoMemory) ⊎ (fault ≡ full_fault slab need)) → (result ≡ Err NoMemory → WantsPages slab need back)
    → (result ≡ Err (full_fault slab need) → TellsFull slab need back need.class (pages_of slab need.class) (out_of slab need.class)) → has_room_with slab need back ≡ true → WantsPages slab need back
fault_wants slab need back result {fault} is faults no_memory full room =
    elim (subst (λ r. IfErr r (λ fault. (fault ≡ NoMemory) ⊎ (fault ≡ full_fault slab need))) is faults) [
      | inl none ↦ no_memory (is ∙ ap Err none)
      | inr told ↦ absurd (true≢false (sym room ∙ (full (is ∙ ap Err told)).0))
    ]
