-- A write's outcome, by the tests that it passes.
use Rattle.std.proofs.Common.{◌≡◌, ◌<◌, ◌≤◌, ◌+◌, ◌/◌, ◌^◌, ◌&&◌, ℕ, Bool, true, false, cond, eqb, ltb, List, length, append-nil, Option, Some, None, Result, Ok, Err, refl, ap}
use Rattle.std.proofs.Common.{sym, subst, ◌∙◌, ⊎_elim, arith}
use Rattle.std.specs.Prelude.{IsSome, IsTrue, decimal}
use Rattle.std.specs.Borrow.{Bor}
use Rattle.std.specs.Option.{option_copied}
use Rattle.std.specs.FinMap.{get, get-remove}
use Rattle.std.specs.Cmp.Lexicographic.{nat_list_cmp_total}
use Rattle.std.proofs.lemmas.Bool.{cases_lt, ne_eqb, lt-leb, le-leb}
use Rattle.std.proofs.lemmas.Fmt.{length-decimal-le}
use Rattle.mc_sizes.specs.Classes.{class_holding}
use Rattle.mc_sizes.specs.Needs.{NeedState, need_for, need_of, same_need}
use Rattle.mc_protocol.specs.declared.step.StepFault.{StepFault}
use Rattle.mc_protocol.specs.declared.step.StepFault.TheVariants.{NoMemory, NumbersSpent}
use Rattle.mc_protocol.specs.declared.reply.Reply.{Reply}
use Rattle.mc_protocol.specs.declared.reply.Reply.TheVariants.{NoChunk}
use Rattle.mc_time.specs.declared.expiry.Expiry.{Expiry}
use Rattle.mc_protocol.specs.declared.row.Row.{Row}
use Rattle.mc_protocol.specs.declared.row.Row.TheVariants.{Writes}
use Rattle.mc_protocol.specs.declared.step.KeyStep.{KeyStep}
use Rattle.mc_protocol.specs.Commands.{key_of}
use Rattle.mc_protocol.specs.declared.row.Body.{Body}
use Rattle.mc_protocol.specs.declared.row.Body.TheVariants.{Given, Appended, Prepended, Counted}
use Rattle.mc_command.specs.declared.plain.item.Written.{Written}
use Rattle.mc_command.specs.declared.plain.write.CheckedWrite.{CheckedWrite}
use Rattle.mc_protocol.specs.Plain.{Plain, Entry, Outcome, Answered, CopiesBlock, block_of, wrote, charge, item_need, has_room, keeps_chunk, standing, without_dead, write_reply, written_block}
use Rattle.mc_protocol.specs.Rows.{standing_in}
use Rattle.mc_command.specs.Steps.{Ends, Prepares, applied, block_in, done, found, made_block, needs_this, number_in, placed, same_needs, rewritten, writing}
use Rattle.mc_protocol.proofs.ItemLemmas.{laws}
use Rattle.mc_protocol.proofs.LawLemmas.{found-greatest, found-next}
use Rattle.mc_command.proofs.PlainLemmas.{needs_this-some, standing-there}

-- where an item stands none is dropped
pub found-stands : (item : Option Entry) (key : List ℕ) (old : Plain) → IsSome item → without_dead item key old ≡ old
found-stands None key old some = cc
found-stands (Some item) key old some = refl

-- a need that was found is that of a charge that isn't too large
pub fits-by : (large : Bool) (k need : NeedState) → Some need ≡ cond large None (Some k) → large ≡ false
fits-by true k need h = cc
fits-by false k need h = refl

pub need-by : (large : Bool) (k need : NeedState) → Some need ≡ cond large None (Some k) → need ≡ k
need-by true k need h = cc
need-by false k need h = cc

module _ (old : Plain) (key : List ℕ) (now : ℕ) (w : Written) (reply : Reply) (need : NeedState)
    (for : Some need ≡ cond (ltb old.greatest (charge key w.block)) None (Some (need_for (charge key w.block))))
    (left : eqb old.next_unique 18446744073709551615 ≡ false) where
  fits : ltb (found key old now).greatest (charge key w.block) ≡ false
  fits = ap (λ (n : ℕ). ltb n (charge key w.block)) (found-greatest (standing old key now) key old) ∙ fits-by (ltb old.greatest (charge key w.block)) (need_for (charge key w.block)) need for

  number : eqb (found key old now).next_unique 18446744073709551615 ≡ false
  number = ap (λ (n : ℕ). eqb n 18446744073709551615) (found-next (standing old key now) key old) ∙ left

  need-is : need ≡ need_for (charge key w.block)
  need-is = need-by (ltb old.greatest (charge key w.block)) (need_for (charge key w.block)) need for

  pub write-full : (stays : Bool) → stays ≡ false → has_room (found key old now) need ≡ false → writing stays reply w key old now ≡ Answered NoChunk (found key old now)
  write-full stays goes full =
      let full : has_room (found key old now) (need_for (charge key w.block)) ≡ false = ap (has_room (found key old now)) (sym need-is) ∙ full in
      rw (fits, number, goes, full) refl

  pub write-placed : (stays : Bool) → stays ≡ false → has_room (found key old now) need ≡ true → writing stays reply w key old now ≡ Answered reply (placed w key old now)
  write-placed stays goes room =
      let room : has_room (found key old now) (need_for (charge key w.block)) ≡ true = ap (has_room (found key old now)) (sym need-is) ∙ room in
      rw (fits, number, goes, room) refl

  pub write-kept : (stays : Bool) → stays ≡ true → IsTrue (needs_this key (standing old key now) (need_for (charge key w.block)))
      → writing stays reply w key old now ≡ Answered reply (rewritten w key old now)
  write-kept stays keeps there =
      rw (fits, number, keeps)
      (ap (λ (p : Plain). Answered reply (rewritten w key p now)) (found-stands (standing old key now) key old (needs_this-some key (standing old key now) _ there)))

-- what a body makes of them is what it writes
pub made-is : (body : Body) (block : List ℕ) (item : Option Entry) → made_block body block (block_in item) (decimal (number_in body)) ≡ written_block body block item
made-is Given block item = refl
made-is Appended block None = refl
made-is Appended block (Some old) = refl
made-is Prepended block None = append-nil block
made-is Prepended block (Some old) = refl
made-is (Counted n) block item = refl

pub write-copies : (body : Body) → CopiesBlock (write_reply body)
write-copies Given = tt
write-copies Appended = tt
write-copies Prepended = tt
write-copies (Counted n) = tt

-- a write that stays in the chunks of the item that stands needs what that does
pub keeps-need : (body : Body) (key block : List ℕ) (item : Option Entry) → keeps_chunk body key item ≡ true → IsTrue (needs_this key item (need_for (charge key (written_block body block item))))
keeps-need Given key block item keeps = absurd (cc keeps)
keeps-need Appended key block item keeps = absurd (cc keeps)
keeps-need Prepended key block item keeps = absurd (cc keeps)
keeps-need (Counted n) key block None keeps = absurd (cc keeps)
keeps-need (Counted n) key block (Some old) keeps = keeps

-- what a row writes at a key, of the block that a step brings
abbrev wrote_by : (flags : ℕ) → Expiry → Body → (key block : List ℕ) → Plain → ℕ → Outcome
wrote_by flags expiry body key block old now =
    let item = standing old key now in
    wrote (keeps_chunk body key item) (write_reply body) key flags expiry (written_block body block item) (found key old now) now

-- the write of these flags, this expiry and this block
abbrev of_parts : (flags : ℕ) → Expiry → (block : List ℕ) → Written
of_parts flags expiry block = record { flags = flags; expiry = expiry; block = block }

-- a write whose whole block a body makes of the step's, that of the item that stands, and a number's digits
module _ (flags : ℕ) (expiry : Expiry) (body : Body) (key block stood digits whole : List ℕ) (old : Plain) (now : ℕ) (there : Option (Bor Entry)) (stays : Bool)
    (stands : option_copied there ≡ standing old key now) (had : stood ≡ block_in (option_copied there)) (counted : digits ≡ decimal (number_in body))
    (is : whole ≡ made_block body block stood digits)
    (keeps : (b : List ℕ) → whole ≡ written_block body b (option_copied there) → stays ≡ keeps_chunk body key (option_copied there)) where
  block-is : whole ≡ written_block body block (option_copied there)
  block-is =
      is ∙ ap (λ (b : List ℕ). made_block body block b digits) had ∙ ap (made_block body block (block_in (option_copied there))) counted
      ∙ made-is body block (option_copied there)

  stays-by : stays ≡ keeps_chunk body key (option_copied there)
  stays-by = keeps block block-is

  pub write-stays : stays ≡ true → IsTrue (needs_this key (standing old key now) (need_for (charge key whole)))
  write-stays stay =
      subst (λ (o : Option Entry). IsTrue (needs_this key o (need_for (charge key whole)))) stands
      (subst (λ (b : List ℕ). IsTrue (needs_this key (option_copied there) (need_for (charge key b)))) (sym block-is)
      (keeps-need body key block (option_copied there) (sym stays-by ∙ stay)))

  writes-so : (reply : Reply) → reply ≡ write_reply body → wrote_by flags expiry body key block old now ≡ writing stays reply (of_parts flags expiry whole) key old now
  writes-so reply same =
      let item = standing old key now in
      sym (ap (λ (b : List ℕ). writing stays reply (of_parts flags expiry b) key old now) (block-is ∙ ap (written_block body block) stands)
      ∙ ap (λ (b : Bool). writing b reply (of_parts flags expiry (written_block body block item)) key old now) (stays-by ∙ ap (keeps_chunk body key) stands)
      ∙ ap (λ (r : Reply). writing (keeps_chunk body key item) r (of_parts flags expiry (written_block body block item)) key old now) same)

  pub write-is : (row : Row) (step : KeyStep) → row ≡ Writes flags expiry body → key ≡ key_of step → block ≡ block_of step
      → (reply : Reply) → reply ≡ write_reply body → applied row step old now ≡ writing stays reply (of_parts flags expiry whole) key old now
  write-is row step so at of reply same =
      ap (λ (r : Row). applied r step old now) so
      ∙ sym (ap (λ (k : List ℕ). wrote_by flags expiry body k block old now) at ∙ ap (λ (b : List ℕ). wrote_by flags expiry body (key_of step) b old now) of)
      ∙ writes-so reply same

-- what stands, as a row's contract has it
pub stands-is : (found : Option (Bor Entry)) → standing_in (λ item. item) found ≡ option_copied found
stands-is None = refl
stands-is (Some item) = refl

-- the key's item, once a dead one is dropped, is the one that stands
pub found-get : (old : Plain) (key : List ℕ) (now : ℕ) → get (found key old now).items key ≡ standing old key now
found-get old key now = by (standing old key now) (standing-there old key now)
  where
    by : (item : Option Entry) → ((i : Entry) → item ≡ Some i → get old.items key ≡ Some i) → get (without_dead item key old).items key ≡ item
    by None there = get-remove nat_list_cmp_total old.items key key ∙ ap (λ t. cond t None (get old.items key)) (laws.refl key)
    by (Some item) there = there item refl

-- a write that isn't made ready, and one that is
pub Ends-refused : (outcome write : Outcome) (r : Result CheckedWrite StepFault) (fault : StepFault) (result : Result Reply StepFault) (key : List ℕ) (old : Plain) (now : ℕ)
    → outcome ≡ write → Prepares write r key old now → r ≡ Err fault → result ≡ Err fault → Ends outcome result old old
Ends-refused outcome write r fault result key old now same prepares is ends =
    rw (same, ends) (record {
      took = tt;
      spent = λ e. let which : fault ≡ NumbersSpent = cc in prepares.spent (is ∙ ap (λ (f : StepFault). Err f) which);
      refused = λ e. let which : fault ≡ NoMemory = cc in prepares.refused (is ∙ ap (λ (f : StepFault). Err f) which);
      err = refl;
    })

pub Ends-finished : (outcome write : Outcome) (next : CheckedWrite) (result : Result Reply StepFault) (key : List ℕ) (old new : Plain) (now : ℕ)
    → outcome ≡ write → Prepares write (Ok next) key old now → Ends (done next key old now) result old new → Ends outcome result old new
Ends-finished outcome write next result key old new now same prepares ends =
    subst (λ (o : Outcome). Ends o result old new) (prepares.same ∙ sym same) ends

-- a write that memory is wanted for
pub Prepares-refused : (outcome : Outcome) (reply : Reply) (new : Plain) (result : Result CheckedWrite StepFault) (key : List ℕ) (old : Plain) (now : ℕ)
    → outcome ≡ Answered reply new → CopiesBlock reply → result ≡ Err NoMemory → Prepares outcome result key old now
Prepares-refused outcome reply new result key old now is copies ends =
    rw (ends, is) (record { ready = tt; same = tt; spent = λ e. cc; refused = λ e. copies })

-- what two charges need, of which the second isn't above a page
page-least : (charge : ℕ) → 1048576 < charge → 2 ≤ (charge + 1048575) / 1048576
page-least charge above = omega arith

unlike : (same : Bool) (count : ℕ) → 2 ≤ count → (same && eqb count 1) ≡ false
unlike true count some = ne_eqb count 1 (omega arith)
unlike false count some = refl

abbrev one_chunk : ℕ → NeedState
one_chunk charge = record { class = class_holding charge; count = 1 }

abbrev whole_pages : ℕ → NeedState
whole_pages charge = record { class = 40; count = (charge + 1048575) / 1048576 }

pub same-by : (a b : ℕ) → b ≤ 1048576 → same_needs (need_of a) (need_of b) ≡ same_need (need_for a) (need_for b)
same-by a b small =
    let is_b : need_of b ≡ Some (need_for b) = ap (λ (t : Bool). cond t (Some (need_for b)) None) (le-leb b 8388608 (omega arith)) in
    ⊎_elim
    (λ (larger : 8388608 < a).
    let large : 1048576 < a = omega arith in
    let is_a : need_of a ≡ None = ap (λ (t : Bool). cond t (Some (need_for a)) None) (lt-leb a 8388608 larger) in
    let pages : need_for a ≡ whole_pages a = ap (λ (t : Bool). cond t (one_chunk a) (whole_pages a)) (lt-leb a 1048576 large) in
    let one : need_for b ≡ one_chunk b = ap (λ (t : Bool). cond t (one_chunk b) (whole_pages b)) (le-leb b 1048576 small) in
    ap (λ (o : Option NeedState). same_needs o (need_of b)) is_a
    ∙ sym (ap (λ (n : NeedState). same_need n (need_for b)) pages ∙ ap (same_need (whole_pages a)) one ∙ unlike (eqb 40 (class_holding b)) ((a + 1048575) / 1048576) (page-least a large)))
    (λ held.
    let is_a : need_of a ≡ Some (need_for a) = ap (λ (t : Bool). cond t (Some (need_for a)) None) (le-leb a 8388608 held) in
    ap (λ (o : Option NeedState). same_needs o (need_of b)) is_a ∙ ap (same_needs (Some (need_for a))) is_b)
    (cases_lt 8388608 a)

pub stays-is : (key block : List ℕ) (item : Entry) (a b : Option NeedState) → charge key block ≤ 1048576 → a ≡ need_of (charge key item.block) → b ≡ need_of (charge key block)
    → same_needs a b ≡ same_need (item_need key item) (need_for (charge key block))
stays-is key block item a b fits is other =
    ap (λ (o : Option NeedState). same_needs o b) is ∙ ap (λ (o : Option NeedState). same_needs (need_of (charge key item.block)) o) other
    ∙ same-by (charge key item.block) (charge key block) fits

-- a write of a number stays where both need the same
pub stays-kept : (body : Body) (n : ℕ) (key block w : List ℕ) (found : Option (Bor Entry)) (item : Bor Entry) (a b : Option NeedState) (result : Bool)
    → length key ≤ 250 → n < 2 ^ 64 → body ≡ Counted n → found ≡ Some item
    → w ≡ written_block body block (option_copied found) → result ≡ same_needs a b → a ≡ need_of (charge key item.now.block) → b ≡ need_of (charge key w)
    → result ≡ keeps_chunk body key (option_copied found)
stays-kept body n key block w found item a b result short below is some made same old new =
    let digits : w ≡ decimal n = made ∙ ap (λ (y : Body). written_block y block (option_copied found)) is in
    let few = length-decimal-le 20 n (omega arith) (omega arith) below in
    rw (is, some) (same ∙ stays-is key (decimal n) item.now a b (omega arith) old (new ∙ ap (λ (d : List ℕ). need_of (charge key d)) digits))
