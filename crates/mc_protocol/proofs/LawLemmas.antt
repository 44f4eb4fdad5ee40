-- What a step does to the items under other keys, and what it depends on.
use Rattle.std.proofs.Common.{◌≡◌, ◌≢◌, ◌≤◌, ◌<◌, ◌+◌, ◌&&◌, ◌||◌, ℕ, Bool, true, false, cond, leb, ltb, eqb, List, Option, Some, None, refl, sym, ap, subst, ◌∙◌, arith}
use Rattle.std.proofs.lemmas.Bool.{le-leb, leb-true, lt-ltb, ne_eqb, false_from_ne_true}
use Rattle.std.specs.Prelude.{is_some}
use Rattle.std.specs.Cmp.Lexicographic.{nat_list_cmp_total}
use Rattle.std.specs.FinMap.{get, insert, remove, get-insert, get-remove, get-retain_keys, get-empty}
use Rattle.mc_time.specs.declared.expiry.Expiry.{Expiry}
use Rattle.mc_time.specs.declared.expiry.Expiry.TheVariants.{Never, At}
use Rattle.mc_time.specs.Death.{is_dead, is_expired, is_flushed, moment_named}
use Rattle.mc_protocol.specs.declared.reply.Reply.{Reply}
use Rattle.mc_protocol.specs.declared.reply.Reply.TheVariants.{TooLarge, NoChunk}
use Rattle.mc_protocol.specs.declared.step.KeyStep.{KeyStep}
use Rattle.mc_protocol.specs.declared.step.KeyStep.TheVariants.{Flush}
use Rattle.mc_sizes.specs.Needs.{NeedState, need_for}
use Rattle.mc_protocol.specs.Commands.{key_of}
use Rattle.mc_protocol.specs.declared.row.Row.{Row}
use Rattle.mc_protocol.specs.declared.row.Row.TheVariants.{Refuses, Reads, Touches, Deletes, Writes}
use Rattle.mc_protocol.specs.Plain.{Plain, Entry, Items, Outcome, Answered, Spent, plain, stepped, changed, wrote, charge, has_room, with_chunk, written, without_dead, expiring}
use Rattle.mc_protocol.specs.Plain.{perhaps_expiring, standing, alive, living, flushed, keeps_chunk, write_reply, block_of, written_block, row_of}
use Rattle.mc_protocol.specs.Laws.{IsOnKey, AgreeAt, AgreeAfter, HaveSameRoom}
use Rattle.mc_protocol.proofs.ItemLemmas.{bytes_cmp, same_bytes, laws, exact, is_equal}

-- other bytes
other_bytes : (other key : List ℕ) → other ≢ key → same_bytes other key ≡ false
other_bytes other key ne = false_from_ne_true _ (λ h. ne (exact other key (is_equal (bytes_cmp other key) h)))

inserted_other : (items : Items) (key other : List ℕ) (item : Entry) → other ≢ key → get (insert items key item) other ≡ get items other
inserted_other items key other item ne = get-insert nat_list_cmp_total items key item other ∙ ap (λ b. cond b (Some item) (get items other)) (other_bytes other key ne)

removed_other : (items : Items) (key other : List ℕ) → other ≢ key → get (remove items key) other ≡ get items other
removed_other items key other ne = get-remove nat_list_cmp_total items key other ∙ ap (λ b. cond b None (get items other)) (other_bytes other key ne)

without_dead_other : (item : Option Entry) (key other : List ℕ) (old : Plain) → other ≢ key → get (without_dead item key old).items other ≡ get old.items other
without_dead_other None key other old ne = removed_other old.items key other ne
without_dead_other (Some item) key other old ne = refl

-- the state that an answer leaves has what the old one has at this key
abbrev Keeps : Plain → List ℕ → Outcome → Type 0
Keeps old other (Answered reply new) = get new.items other ≡ get old.items other
Keeps old other Spent = Unit {0}

write_keeps : (too_large spent stays room : Bool) (reply : Reply) (old new placed : Plain) (other : List ℕ) → get new.items other ≡ get old.items other → get placed.items other ≡ get old.items other
    → Keeps old other (cond too_large (Answered TooLarge old) (cond spent Spent (cond stays (Answered reply new) (cond room (Answered reply placed) (Answered NoChunk old)))))
write_keeps true spent stays room reply old new placed other h k = refl
write_keeps false true stays room reply old new placed other h k = tt
write_keeps false false true room reply old new placed other h k = h
write_keeps false false false true reply old new placed other h k = k
write_keeps false false false false reply old new placed other h k = refl

wrote_keeps : (stays : Bool) (reply : Reply) (key : List ℕ) (flags : ℕ) (expiry : Expiry) (block : List ℕ) (old : Plain) (now : ℕ) (other : List ℕ)
    → other ≢ key → Keeps old other (wrote stays reply key flags expiry block old now)
wrote_keeps stays reply key flags expiry block old now other ne =
    let need : NeedState = need_for (charge key block) in
    write_keeps (ltb old.greatest (charge key block)) (eqb old.next_unique 18446744073709551615) stays (has_room old need) reply old
    (written old key flags expiry block now) (written (with_chunk old need) key flags expiry block now) other
    (inserted_other old.items key other _ ne)
    (inserted_other old.items key other _ ne)

expiring_other : (item : Option Entry) (key other : List ℕ) (expiry : Expiry) (old : Plain)
    → other ≢ key → get (expiring item key expiry old).items other ≡ get old.items other
expiring_other None key other expiry old ne = refl
expiring_other (Some item) key other expiry old ne = inserted_other old.items key other _ ne

perhaps_other : (item : Option Entry) (key other : List ℕ) (expiry : Option Expiry) (old : Plain)
    → other ≢ key → get (perhaps_expiring item key expiry old).items other ≡ get old.items other
perhaps_other item key other None old ne = refl
perhaps_other item key other (Some expiry) old ne = expiring_other item key other expiry old ne

changed_keeps : (row : Row) (step : KeyStep) (item : Option Entry) (old : Plain) (now : ℕ) (other : List ℕ)
    → other ≢ key_of step → Keeps old other (changed row step item old now)
changed_keeps (Refuses why) step item old now other ne = refl
changed_keeps (Reads expiry) step item old now other ne = perhaps_other item (key_of step) other expiry old ne
changed_keeps (Touches expiry) step item old now other ne = expiring_other item (key_of step) other expiry old ne
changed_keeps Deletes step item old now other ne = removed_other old.items (key_of step) other ne
changed_keeps (Writes flags expiry body) step item old now other ne =
    let key : List ℕ = key_of step in
    wrote_keeps (keeps_chunk body key item) (write_reply body) key flags expiry
    (written_block body (block_of step) item) old now other ne

-- a step on a key
pub on_key : (old : Plain) (step : KeyStep) (now : ℕ) → IsOnKey step → plain old step now ≡ stepped old step now
on_key old (Flush delay) now on = absurd on
on_key old step now on = refl

keeps_from : (outcome : Outcome) (mid old new : Plain) (reply : Reply) (other : List ℕ)
    → Keeps mid other outcome → get mid.items other ≡ get old.items other → outcome ≡ Answered reply new
    → get new.items other ≡ get old.items other
keeps_from outcome mid old new reply other kept before is = subst (Keeps mid other) is kept ∙ before

pub other_keys : (old new : Plain) (step : KeyStep) (now : ℕ) (reply : Reply) (other : List ℕ)
    → IsOnKey step → plain old step now ≡ Answered reply new → other ≢ key_of step → get new.items other ≡ get old.items other
other_keys old new step now reply other on is ne =
    let item = standing old (key_of step) now in
    let mid = without_dead item (key_of step) old in
    keeps_from (stepped old step now) mid old new reply other
    (changed_keeps (row_of step now item) step item mid now other ne)
    (without_dead_other item (key_of step) other old ne)
    (sym (on_key old step now on) ∙ is)

-- the same change at the same key of two states that agree there
insert_agrees : (m n : Items) (key : List ℕ) (item : Entry) → get (insert m key item) key ≡ get (insert n key item) key
insert_agrees m n key item =
    get-insert nat_list_cmp_total m key item key ∙ ap (λ t. cond t (Some item) (get m key)) (laws.refl key)
    ∙ sym (get-insert nat_list_cmp_total n key item key ∙ ap (λ t. cond t (Some item) (get n key)) (laws.refl key))

remove_agrees : (m n : Items) (key : List ℕ) → get (remove m key) key ≡ get (remove n key) key
remove_agrees m n key =
    get-remove nat_list_cmp_total m key key ∙ ap (λ t. cond t None (get m key)) (laws.refl key)
    ∙ sym (get-remove nat_list_cmp_total n key key ∙ ap (λ t. cond t None (get n key)) (laws.refl key))

without_dead_agrees : (item : Option Entry) (key : List ℕ) (a b : Plain) → AgreeAt key a b → AgreeAt key (without_dead item key a) (without_dead item key b)
without_dead_agrees None key a b same = record { item = remove_agrees a.items b.items key; cut = same.cut; next_unique = same.next_unique; greatest = same.greatest }
without_dead_agrees (Some item) key a b same = same

write_agrees : (too_large spent stays room : Bool) (reply : Reply) (key : List ℕ) (a b new other placed moved : Plain) → AgreeAt key a b → AgreeAt key new other → AgreeAt key placed moved
    → AgreeAfter key (cond too_large (Answered TooLarge a) (cond spent Spent (cond stays (Answered reply new) (cond room (Answered reply placed) (Answered NoChunk a)))))
    (cond too_large (Answered TooLarge b) (cond spent Spent (cond stays (Answered reply other) (cond room (Answered reply moved) (Answered NoChunk b)))))
write_agrees true spent stays room reply key a b new other placed moved same after took = (refl, same)
write_agrees false true stays room reply key a b new other placed moved same after took = tt
write_agrees false false true room reply key a b new other placed moved same after took = (refl, after)
write_agrees false false false true reply key a b new other placed moved same after took = (refl, took)
write_agrees false false false false reply key a b new other placed moved same after took = (refl, same)

with_chunk_agrees : (key : List ℕ) (a b : Plain) (need : NeedState) → AgreeAt key a b → AgreeAt key (with_chunk a need) (with_chunk b need)
with_chunk_agrees key a b need same = record { item = same.item; cut = same.cut; next_unique = same.next_unique; greatest = same.greatest }

written_agrees : (key : List ℕ) (flags : ℕ) (expiry : Expiry) (block : List ℕ) (a b : Plain) (now : ℕ) → AgreeAt key a b
    → AgreeAt key (written a key flags expiry block now) (written b key flags expiry block now)
written_agrees key flags expiry block a b now same =
    let put : ℕ → Entry = λ n. record { flags = flags; expiry = expiry; block = block; unique = n; updated = now } in
    record {
      item = insert_agrees a.items b.items key (put a.next_unique) ∙ ap (λ n. get (insert b.items key (put n)) key) same.next_unique;
      cut = same.cut;
      next_unique = ap (λ n. n + 1) same.next_unique;
      greatest = same.greatest;
    }

-- the same tests in two states
same_tests : (n m u v : ℕ) (r s stays : Bool) (charge : ℕ) (large short kept placed full : Outcome) → n ≡ m → u ≡ v → r ≡ s
    → cond (ltb n charge) large (cond (eqb u 18446744073709551615) short (cond stays kept (cond r placed full))) ≡ cond (ltb m charge) large
    (cond (eqb v 18446744073709551615) short (cond stays kept (cond s placed full)))
same_tests n m u v r s stays charge large short kept placed full e f g = cc

wrote_agrees : (stays : Bool) (reply : Reply) (key : List ℕ) (flags : ℕ) (expiry : Expiry) (block : List ℕ) (a b : Plain) (now : ℕ) → AgreeAt key a b
    → ((need : NeedState) → has_room a need ≡ has_room b need)
    → AgreeAfter key (wrote stays reply key flags expiry block a now) (wrote stays reply key flags expiry block b now)
wrote_agrees stays reply key flags expiry block a b now same room =
    let need : NeedState = need_for (charge key block) in
    subst (λ (o : Outcome). AgreeAfter key (wrote stays reply key flags expiry block a now) o)
    (same_tests a.greatest b.greatest a.next_unique b.next_unique (has_room a need) (has_room b need) stays (charge key block) (Answered TooLarge b) Spent
    (Answered reply (written b key flags expiry block now)) (Answered reply (written (with_chunk b need) key flags expiry block now))
    (Answered NoChunk b) same.greatest same.next_unique (room need))
    (write_agrees (ltb a.greatest (charge key block)) (eqb a.next_unique 18446744073709551615) stays (has_room a need) reply key a b _ _ _ _ same (written_agrees key flags expiry block a b now same)
    (written_agrees key flags expiry block (with_chunk a need) (with_chunk b need) now (with_chunk_agrees key a b need same)))

expiring_agrees : (item : Option Entry) (key : List ℕ) (expiry : Expiry) (a b : Plain)
    → AgreeAt key a b → AgreeAt key (expiring item key expiry a) (expiring item key expiry b)
expiring_agrees None key expiry a b same = same
expiring_agrees (Some item) key expiry a b same = record {
  item = insert_agrees a.items b.items key _;
  cut = same.cut;
  next_unique = same.next_unique;
  greatest = same.greatest;
}

perhaps_agrees : (item : Option Entry) (key : List ℕ) (expiry : Option Expiry) (a b : Plain)
    → AgreeAt key a b → AgreeAt key (perhaps_expiring item key expiry a) (perhaps_expiring item key expiry b)
perhaps_agrees item key None a b same = same
perhaps_agrees item key (Some expiry) a b same = expiring_agrees item key expiry a b same

changed_agrees : (row : Row) (step : KeyStep) (item : Option Entry) (a b : Plain) (now : ℕ)
    → AgreeAt (key_of step) a b → ((need : NeedState) → has_room a need ≡ has_room b need)
    → AgreeAfter (key_of step) (changed row step item a now) (changed row step item b now)
changed_agrees (Refuses why) step item a b now same room = (refl, same)
changed_agrees (Reads expiry) step item a b now same room = (refl, perhaps_agrees item (key_of step) expiry a b same)
changed_agrees (Touches expiry) step item a b now same room = (refl, expiring_agrees item (key_of step) expiry a b same)
changed_agrees Deletes step item a b now same room = (
  refl,
  record {
    item = remove_agrees a.items b.items (key_of step);
    cut = same.cut;
    next_unique = same.next_unique;
    greatest = same.greatest;
  },
)
changed_agrees (Writes flags expiry body) step item a b now same room =
    let key : List ℕ = key_of step in
    wrote_agrees (keeps_chunk body key item) (write_reply body) key flags expiry
    (written_block body (block_of step) item) a b now same room

standing_agrees : (a b : Plain) (key : List ℕ) (now : ℕ) → AgreeAt key a b → standing a key now ≡ standing b key now
standing_agrees a b key now same = ap (λ (o : Option Entry). alive a.cut now o) same.item ∙ ap (λ (c : Option ℕ). alive c now (get b.items key)) same.cut

stepped_agrees : (a b : Plain) (step : KeyStep) (now : ℕ)
    → AgreeAt (key_of step) a b → HaveSameRoom step now a b → AgreeAfter (key_of step) (stepped a step now) (stepped b step now)
stepped_agrees a b step now same room =
    let key : List ℕ = key_of step in
    let stands = standing_agrees a b key now same in
    subst (λ (item : Option Entry). AgreeAfter key (stepped a step now) (changed (row_of step now item) step item (without_dead item key b) now)) stands
    (changed_agrees (row_of step now (standing a key now)) step (standing a key now) _ _ now
    (without_dead_agrees (standing a key now) key a b same)
    (λ need. room need ∙ ap (λ (item : Option Entry). has_room (without_dead item key b) need) (sym stands)))

pub one_key : (a b : Plain) (step : KeyStep) (now : ℕ)
    → IsOnKey step → AgreeAt (key_of step) a b → HaveSameRoom step now a b
    → AgreeAfter (key_of step) (plain a step now) (plain b step now)
one_key a b step now on same room =
    rw (on_key a step now on, on_key b step now on) (stepped_agrees a b step now same room)

-- the dead stay dead
later_true : (moment now later : ℕ) → now ≤ later → leb moment now ≡ true → leb moment later ≡ true
later_true moment now later le h = let a = leb-true moment now h in le-leb moment later (omega arith)

expired_later : (expiry : Expiry) (now later : ℕ) → now ≤ later → is_expired expiry now ≡ true → is_expired expiry later ≡ true
expired_later Never now later le h = h
expired_later (At moment) now later le h = later_true moment now later le h

and_more : (a b c : Bool) → (a ≡ true → b ≡ true) → (a && c) ≡ true → (b && c) ≡ true
and_more true b c more h = rw (more refl) h
and_more false b c more h = cc

flushed_later : (updated : ℕ) (cut : Option ℕ) (now later : ℕ) → now ≤ later → is_flushed updated cut now ≡ true → is_flushed updated cut later ≡ true
flushed_later updated None now later le h = h
flushed_later updated (Some moment) now later le h = and_more _ _ _ (later_true moment now later le) h

or_more : (a b c d : Bool) → (a ≡ true → c ≡ true) → (b ≡ true → d ≡ true) → (a || b) ≡ true → (c || d) ≡ true
or_more true b c d first second h = rw (first refl) refl
or_more false b true d first second h = refl
or_more false b false d first second h = second h

pub dead_later : (expiry : Expiry) (updated : ℕ) (cut : Option ℕ) (now later : ℕ) → now ≤ later → is_dead expiry updated cut now ≡ true → is_dead expiry updated cut later ≡ true
dead_later expiry updated cut now later le h = or_more _ _ _ _ (expired_later expiry now later le) (flushed_later updated cut now later le) h

-- what a flush leaves
left_is : (reply other : Reply) (old new : Plain) → Answered reply old ≡ Answered other new → old ≡ new
left_is reply other old new is = cc

pub flushed_once : (old new : Plain) (now : ℕ) (reply : Reply) (key : List ℕ) → plain old (Flush 0) now ≡ Answered reply new → get new.items key ≡ None
flushed_once old new now reply key is = ap (λ (s : Plain). get s.items key) (sym (left_is _ _ _ _ is)) ∙ get-empty bytes_cmp key

some_delay : (delay : ℕ) → 0 < delay → eqb delay 0 ≡ false
some_delay delay some = ne_eqb delay 0 (omega arith)

delayed_is : (delay now : ℕ) (old : Plain) → 0 < delay → flushed delay old now ≡ record old { items = living old.items old.cut now; cut = Some (moment_named delay now) }
delayed_is delay now old some = let e = some_delay delay some in rw e refl

kept_is : (cut : Option ℕ) (now : ℕ) (o : Option Entry) → cond (is_some (alive cut now o)) o None ≡ alive cut now o
kept_is cut now None = refl
kept_is cut now (Some item) =
    elim (is_dead item.expiry item.updated cut now) as (λ b. cond (is_some (cond b None (Some item))) (Some item) None ≡ cond b None (Some item)) [ true ↦ refl | false ↦ refl ]

pub flushed_kept : (old new : Plain) (delay now : ℕ) (reply : Reply) (key : List ℕ) → 0 < delay → plain old (Flush delay) now ≡ Answered reply new
    → get new.items key ≡ alive old.cut now (get old.items key)
flushed_kept old new delay now reply key some is =
    ap (λ (s : Plain). get s.items key) (sym (left_is _ _ _ _ is) ∙ delayed_is delay now old some)
    ∙ get-retain_keys old.items (λ k. is_some (alive old.cut now (get old.items k))) key (λ x h. ap (λ (k : List ℕ). is_some (alive old.cut now (get old.items k))) (sym (exact key x h)))
    ∙ kept_is old.cut now (get old.items key)

or_true : (b : Bool) → (b || true) ≡ true
or_true true = refl
or_true false = refl

pub flushed_dead : (old new : Plain) (delay now later : ℕ) (reply : Reply) (item : Entry) → 0 < delay → plain old (Flush delay) now ≡ Answered reply new
    → moment_named delay now ≤ later → item.updated < moment_named delay now → alive new.cut later (Some item) ≡ None
flushed_dead old new delay now later reply item some is come before =
    let cut : new.cut ≡ Some (moment_named delay now) = ap (λ (s : Plain). s.cut) (sym (left_is _ _ _ _ is) ∙ delayed_is delay now old some) in
    let a : leb (moment_named delay now) later ≡ true = le-leb _ _ come in
    let b : ltb item.updated (moment_named delay now) ≡ true = lt-ltb _ _ before in
    let dead : is_dead item.expiry item.updated new.cut later ≡ true = rw (cut, a, b) (or_true (is_expired item.expiry later)) in
    ap (λ (t : Bool). cond t None (Some item)) dead

-- what is left once a dead item is dropped
pub found-greatest : (item : Option Entry) (key : List ℕ) (old : Plain) → (without_dead item key old).greatest ≡ old.greatest
found-greatest None key old = refl
found-greatest (Some item) key old = refl

pub found-next : (item : Option Entry) (key : List ℕ) (old : Plain) → (without_dead item key old).next_unique ≡ old.next_unique
found-next None key old = refl
found-next (Some item) key old = refl
