-- When a step is refused for want of chunks.
use Rattle.std.proofs.Common.{◌≡◌, ◌≢◌, ℕ, Bool, true, false, cond, ltb, eqb, List, Option, Some, None, refl, sym, ap}
use Rattle.std.specs.Prelude.{◌↔◌}
use Rattle.std.proofs.lemmas.Bool.{ltb-false, le-ltb, eq-eqb, ne_eqb}
use Rattle.mc_time.specs.declared.expiry.Expiry.{Expiry}
use Rattle.mc_sizes.specs.Needs.{NeedState, need_for}
use Rattle.mc_protocol.specs.declared.reply.Reply.{Reply}
use Rattle.mc_protocol.specs.declared.reply.Reply.TheVariants.{TooLarge, NoChunk}
use Rattle.mc_protocol.specs.declared.step.KeyStep.{KeyStep}
use Rattle.mc_protocol.specs.declared.step.KeyStep.TheVariants.{Flush}
use Rattle.mc_protocol.specs.declared.row.Row.{Row}
use Rattle.mc_protocol.specs.declared.row.Row.TheVariants.{Refuses, Reads, Touches, Deletes, Writes}
use Rattle.mc_protocol.specs.declared.row.Refusal.{Refusal}
use Rattle.mc_protocol.specs.declared.row.Refusal.TheVariants as refusal
use Rattle.mc_protocol.specs.declared.row.Body.{Body}
use Rattle.mc_protocol.specs.declared.row.Body.TheVariants.{Given, Appended, Prepended, Counted}
use Rattle.mc_protocol.specs.Commands.{key_of}
use Rattle.mc_protocol.specs.Plain.{Plain, Entry, Outcome, Answered, Spent, plain, stepped, changed, wrote, charge, has_room, with_chunk, written, without_dead, standing}
use Rattle.mc_protocol.specs.Plain.{refusal_reply, hit_of, write_reply, keeps_chunk, block_of, written_block, row_of}
use Rattle.mc_protocol.specs.Laws.{IsOnKey, found_by, chunk_taken, chunk_of, LacksChunk}
use Rattle.mc_protocol.proofs.LawLemmas.{on_key}

-- the reply that a refusal is
abbrev pub is_refusal : Reply → Bool
is_refusal NoChunk = true
is_refusal other = false

abbrev pub told : Outcome → Bool
told (Answered reply new) = is_refusal reply
told Spent = false

abbrev pub left_by : Plain → Outcome → Plain
left_by other (Answered reply new) = new
left_by other Spent = other

-- an answer that isn't that one
not_refused : (outcome : Outcome) (new : Plain) → told outcome ≡ false → outcome ≡ Answered NoChunk new → ⊥
not_refused outcome new other is = let yes : told outcome ≡ true = ap told is in cc

-- no row tells it
told-refusal : (why : Refusal) → is_refusal (refusal_reply why) ≡ false
told-refusal refusal.NotStored = refl
told-refusal refusal.Exists = refl
told-refusal refusal.NotFound = refl
told-refusal refusal.Miss = refl
told-refusal refusal.NotNumeric = refl

told-hit : (item : Option Entry) → is_refusal (hit_of item) ≡ false
told-hit None = refl
told-hit (Some old) = refl

told-write : (body : Body) → is_refusal (write_reply body) ≡ false
told-write Given = refl
told-write Appended = refl
told-write Prepended = refl
told-write (Counted number) = refl

-- the tests of a write, which is refused by the last
abbrev tested : (too_large spent stays room : Bool) → Reply → (old new placed : Plain) → Outcome
tested too_large spent stays room reply old new placed =
    cond too_large (Answered TooLarge old) (cond spent Spent (cond stays (Answered reply new) (cond room (Answered reply placed) (Answered NoChunk old))))

abbrev Fails : (too_large spent stays room : Bool) → Type 0
Fails too_large spent stays room = (too_large ≡ false) × (spent ≡ false) × (stays ≡ false) × (room ≡ false)

pub tested-fails : (too_large spent stays room : Bool) (reply : Reply) (old new placed left : Plain) → is_refusal reply ≡ false
    → tested too_large spent stays room reply old new placed ≡ Answered NoChunk left → Fails too_large spent stays room × (left ≡ old)
tested-fails true spent stays room reply old new placed left other is = absurd (not_refused (Answered TooLarge old) left refl is)
tested-fails false true stays room reply old new placed left other is = absurd (not_refused Spent left refl is)
tested-fails false false true room reply old new placed left other is = absurd (not_refused (Answered reply new) left other is)
tested-fails false false false true reply old new placed left other is = absurd (not_refused (Answered reply placed) left other is)
tested-fails false false false false reply old new placed left other is = ((refl, refl, refl, refl), sym (ap (left_by old) is))

no_truth : true ≡ false → ⊥
no_truth h = cc

ne-from : (a b : ℕ) → eqb a b ≡ false → a ≢ b
ne-from a b other same = let yes : eqb a b ≡ true = eq-eqb a b same in cc

wrote-exactly : (stays : Bool) (reply : Reply) (key : List ℕ) (flags : ℕ) (expiry : Expiry) (block : List ℕ) (old : Plain) (now : ℕ) → is_refusal reply ≡ false
    → (wrote stays reply key flags expiry block old now ≡ Answered NoChunk old) ↔ LacksChunk old (cond stays None (Some (charge key block)))
wrote-exactly true reply key flags expiry block old now other =
    let need : NeedState = need_for (charge key block) in (
      (λ is. let fails =
          (tested-fails (ltb old.greatest (charge key block)) (eqb old.next_unique 18446744073709551615) true (has_room old need) reply old
          (written old key flags expiry block now) (written (with_chunk old need) key flags expiry block now) old other is).0 in absurd (no_truth fails.2)),
      (λ lacks. absurd lacks),
    )
wrote-exactly false reply key flags expiry block old now other =
    let need : NeedState = need_for (charge key block) in (
      (λ is. let fails =
          (tested-fails (ltb old.greatest (charge key block)) (eqb old.next_unique 18446744073709551615) false (has_room old need) reply old
          (written old key flags expiry block now) (written (with_chunk old need) key flags expiry block now) old other is).0 in
          (ltb-false _ _ fails.0, ne-from _ _ fails.1, fails.3)),
      (λ lacks. rw (le-ltb _ _ lacks.0, ne_eqb _ _ lacks.1, lacks.2) refl),
    )

wrote-left : (stays : Bool) (reply : Reply) (key : List ℕ) (flags : ℕ) (expiry : Expiry) (block : List ℕ) (old new : Plain) (now : ℕ) → is_refusal reply ≡ false
    → wrote stays reply key flags expiry block old now ≡ Answered NoChunk new → new ≡ old
wrote-left stays reply key flags expiry block old new now other is =
    let need : NeedState = need_for (charge key block) in
    (tested-fails (ltb old.greatest (charge key block)) (eqb old.next_unique 18446744073709551615) stays (has_room old need) reply old
    (written old key flags expiry block now) (written (with_chunk old need) key flags expiry block now) new other is).1

changed-exactly : (row : Row) (step : KeyStep) (item : Option Entry) (old : Plain) (now : ℕ)
    → (changed row step item old now ≡ Answered NoChunk old) ↔ LacksChunk old (chunk_taken step row item)
changed-exactly (Refuses why) step item old now =
    ((λ is. not_refused (changed (Refuses why) step item old now) old (told-refusal why) is), (λ lacks. absurd lacks))
changed-exactly (Reads expiry) step item old now =
    ((λ is. not_refused (changed (Reads expiry) step item old now) old (told-hit item) is), (λ lacks. absurd lacks))
changed-exactly (Touches expiry) step item old now =
    ((λ is. not_refused (changed (Touches expiry) step item old now) old refl is), (λ lacks. absurd lacks))
changed-exactly Deletes step item old now =
    ((λ is. not_refused (changed Deletes step item old now) old refl is), (λ lacks. absurd lacks))
changed-exactly (Writes flags expiry body) step item old now =
    let key : List ℕ = key_of step in
    wrote-exactly (keeps_chunk body key item) (write_reply body) key flags expiry
    (written_block body (block_of step) item) old now (told-write body)

changed-left : (row : Row) (step : KeyStep) (item : Option Entry) (old new : Plain) (now : ℕ)
    → changed row step item old now ≡ Answered NoChunk new → new ≡ old
changed-left (Refuses why) step item old new now is =
    absurd (not_refused (changed (Refuses why) step item old now) new (told-refusal why) is)
changed-left (Reads expiry) step item old new now is =
    absurd (not_refused (changed (Reads expiry) step item old now) new (told-hit item) is)
changed-left (Touches expiry) step item old new now is =
    absurd (not_refused (changed (Touches expiry) step item old now) new refl is)
changed-left Deletes step item old new now is =
    absurd (not_refused (changed Deletes step item old now) new refl is)
changed-left (Writes flags expiry body) step item old new now is =
    let key : List ℕ = key_of step in
    wrote-left (keeps_chunk body key item) (write_reply body) key flags expiry
    (written_block body (block_of step) item) old new now (told-write body) is

pub refused-exactly : (old : Plain) (step : KeyStep) (now : ℕ) → IsOnKey step
    → (plain old step now ≡ Answered NoChunk (found_by step now old)) ↔ LacksChunk (found_by step now old) (chunk_of step now old)
refused-exactly old step now on =
    let item = standing old (key_of step) now in
    rw (on_key old step now on) (changed-exactly (row_of step now item) step item (without_dead item (key_of step) old) now)

on_key-left : (old new : Plain) (step : KeyStep) (now : ℕ) → stepped old step now ≡ Answered NoChunk new → new ≡ found_by step now old
on_key-left old new step now is =
    let item = standing old (key_of step) now in
    changed-left (row_of step now item) step item (without_dead item (key_of step) old) new now is

pub refused-left : (old new : Plain) (step : KeyStep) (now : ℕ) → plain old step now ≡ Answered NoChunk new → new ≡ found_by step now old
refused-left old new (Flush delay) now is = absurd (not_refused (plain old (Flush delay) now) new refl is)
refused-left old new step now is = on_key-left old new step now is
