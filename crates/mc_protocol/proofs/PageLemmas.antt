-- What a step does to the pages, and which are the least that a write takes.
use Rattle.std.proofs.Common.{◌≡◌, ◌≤◌, ◌<◌, ◌+◌, ◌-◌, ◌*◌, ◌/◌, ◌⊎◌, inl, inr, ℕ, zero, suc, Bool, true, false, cond, leb, ltb, eqb, List, [], ◌∷◌, length, get_or, set, sum}
use Rattle.std.proofs.Common.{Option, Some, None, refl, sym, ap, subst, ◌∙◌, ⊎_elim, arith}
use Rattle.std.proofs.lemmas.Bool.{cases_lt, leb-true}
use Rattle.std.proofs.lemmas.List.{set_past}
use Rattle.std.proofs.lemmas.List.Sums.{sum_by-set}
use Rattle.mc_time.specs.declared.expiry.Expiry.{Expiry}
use Rattle.mc_sizes.specs.Classes.{chunk_sizes, chunks_a_page, class_holding}
use Rattle.mc_sizes.specs.Needs.{NeedState, IsNeed, need_for}
use Rattle.mc_sizes.proofs.ClassLemmas.{chunks_a_page-least}
use Rattle.mc_protocol.specs.declared.reply.Reply.{Reply}
use Rattle.mc_protocol.specs.declared.reply.Reply.TheVariants.{TooLarge, NoChunk}
use Rattle.mc_protocol.specs.declared.step.KeyStep.{KeyStep}
use Rattle.mc_protocol.specs.declared.step.KeyStep.TheVariants.{Flush}
use Rattle.mc_protocol.specs.declared.row.Row.{Row}
use Rattle.mc_protocol.specs.declared.row.Row.TheVariants.{Refuses, Reads, Touches, Deletes, Writes}
use Rattle.mc_protocol.specs.Commands.{key_of}
use Rattle.mc_protocol.specs.Plain.{Plain, Entry, Outcome, Answered, Spent, plain, stepped, changed, wrote, charge, count_of, pages_of, chunks_of, unused, has_room, with_chunk}
use Rattle.mc_protocol.specs.Plain.{written, without_dead, expiring, perhaps_expiring, standing, write_reply, keeps_chunk, block_of, written_block, row_of}

-- one state's pages and limit after another's
record Grows (old new : Plain) : Type 0 where
  grows : (class : ℕ) → pages_of old class ≤ pages_of new class
  limit : new.limit ≡ old.limit
  within : sum old.pages ≤ old.limit → sum new.pages ≤ new.limit

abbrev GrowsTo : Plain → Outcome → Type 0
GrowsTo old (Answered reply new) = Grows old new
GrowsTo old Spent = Unit {0}

stays : (old new : Plain) → new.pages ≡ old.pages → new.limit ≡ old.limit → Grows old new
stays old new pages limit = record {
  grows = λ class. let same : pages_of new class ≡ pages_of old class = ap (λ (ps : List ℕ). get_or ps (class - 1) 0) pages in omega arith;
  limit = limit;
  within = λ fits. let same : sum new.pages ≡ sum old.pages = ap sum pages in omega arith;
}

set-grows : (xs : List ℕ) (i j n : ℕ) → get_or xs j 0 ≤ get_or (set xs i (get_or xs i 0 + n)) j 0
set-grows [] i j n = omega arith
set-grows (x ∷ xs) zero zero n = omega arith
set-grows (x ∷ xs) zero (suc j) n = omega arith
set-grows (x ∷ xs) (suc i) zero n = omega arith
set-grows (x ∷ xs) (suc i) (suc j) n = set-grows xs i j n

set-sum : (xs : List ℕ) (i n : ℕ) → sum (set xs i (get_or xs i 0 + n)) ≤ sum xs + n
set-sum xs i n =
    ⊎_elim
    (λ (below : i < length xs).
    let sums : sum (set xs i (get_or xs i 0 + n)) + get_or xs i 0 ≡ sum xs + (get_or xs i 0 + n) = sum_by-set (λ (n : ℕ). n) xs i (get_or xs i 0 + n) 0 below in omega arith)
    (λ past. let same : sum (set xs i (get_or xs i 0 + n)) ≡ sum xs = ap sum (set_past xs i (get_or xs i 0 + n) past) in omega arith)
    (cases_lt i (length xs))

-- a page of the last class is one chunk
whole : chunks_a_page 40 ≡ 1
unfolding chunk_sizes
whole = refl

-- one chunk is needed, or whole pages are
abbrev pub InPages : NeedState → Type 0
InPages need = (need.count ≡ 1) ⊎ (need.class ≡ 40)

pub in-pages : (charge : ℕ) → InPages (need_for charge)
in-pages charge =
    elim (leb charge 1048576) as (λ b. InPages (cond b (record { class = class_holding charge; count = 1 }) (record { class = 40; count = (charge + 1048575) / 1048576 }))) [
      | true ↦ inl refl
      | false ↦ inr refl
    ]

-- the pages that are wanted are left, where there is room
one-left : (free left capacity : ℕ) → 1 ≤ free + left * capacity → 1 - free ≤ left
one-left free zero capacity room = omega arith
one-left free (suc left) capacity room = omega arith

pub pages-left : (need : NeedState) (free left : ℕ) → InPages need → leb need.count (free + left * chunks_a_page need.class) ≡ true → need.count - free ≤ left
pages-left need free left (inl one) room =
    let fits : need.count ≤ free + left * chunks_a_page need.class = leb-true _ _ room in
    let few = one-left free left (chunks_a_page need.class) (subst (λ (n : ℕ). n ≤ free + left * chunks_a_page need.class) one fits) in
    omega (arith, few, one)
pages-left need free left (inr last) room =
    let capacity : chunks_a_page need.class ≡ 1 = ap chunks_a_page last ∙ whole in
    let fits : need.count ≤ free + left * 1 = subst (λ (n : ℕ). need.count ≤ free + left * n) capacity (leb-true _ _ room) in
    omega (arith, fits)

with_chunk-grows : (old : Plain) (need : NeedState) → InPages need → has_room old need ≡ true → Grows old (with_chunk old need)
with_chunk-grows old need pages room =
    let more : ℕ = need.count - unused old need.class in
    let left : more ≤ old.limit - sum old.pages = pages-left need (unused old need.class) (old.limit - sum old.pages) pages room in
    record {
      grows = λ other. set-grows old.pages (need.class - 1) (other - 1) more;
      limit = refl;
      within = λ fits. let sums : sum (with_chunk old need).pages ≤ sum old.pages + more = set-sum old.pages (need.class - 1) more in omega arith;
    }

write_grows : (too_large spent stays room : Bool) (reply : Reply) (old new placed : Plain) → Grows old old → Grows old new → (room ≡ true → Grows old placed)
    → GrowsTo old (cond too_large (Answered TooLarge old) (cond spent Spent (cond stays (Answered reply new) (cond room (Answered reply placed) (Answered NoChunk old)))))
write_grows true spent stays room reply old new placed g h k = g
write_grows false true stays room reply old new placed g h k = tt
write_grows false false true room reply old new placed g h k = h
write_grows false false false true reply old new placed g h k = k refl
write_grows false false false false reply old new placed g h k = g

wrote_grows : (keeps : Bool) (reply : Reply) (key : List ℕ) (flags : ℕ) (expiry : Expiry) (block : List ℕ) (old : Plain) (now : ℕ) → GrowsTo old (wrote keeps reply key flags expiry block old now)
wrote_grows keeps reply key flags expiry block old now =
    let need : NeedState = need_for (charge key block) in
    write_grows (ltb old.greatest (charge key block)) (eqb old.next_unique 18446744073709551615) keeps (has_room old need) reply old
    (written old key flags expiry block now) (written (with_chunk old need) key flags expiry block now)
    (stays old old refl refl) (stays old (written old key flags expiry block now) refl refl)
    (λ room. let g = with_chunk-grows old need (in-pages (charge key block)) room in record { grows = g.grows; limit = g.limit; within = g.within })

expiring_grows : (item : Option Entry) (key : List ℕ) (expiry : Expiry) (old : Plain) → Grows old (expiring item key expiry old)
expiring_grows None key expiry old = stays old old refl refl
expiring_grows (Some item) key expiry old = stays old _ refl refl

perhaps_grows : (item : Option Entry) (key : List ℕ) (expiry : Option Expiry) (old : Plain) → Grows old (perhaps_expiring item key expiry old)
perhaps_grows item key None old = stays old old refl refl
perhaps_grows item key (Some expiry) old = expiring_grows item key expiry old

changed_grows : (row : Row) (step : KeyStep) (item : Option Entry) (old : Plain) (now : ℕ) → GrowsTo old (changed row step item old now)
changed_grows (Refuses why) step item old now = stays old old refl refl
changed_grows (Reads expiry) step item old now = perhaps_grows item (key_of step) expiry old
changed_grows (Touches expiry) step item old now = expiring_grows item (key_of step) expiry old
changed_grows Deletes step item old now = stays old _ refl refl
changed_grows (Writes flags expiry body) step item old now =
    let key : List ℕ = key_of step in
    wrote_grows (keeps_chunk body key item) (write_reply body) key flags expiry
    (written_block body (block_of step) item) old now

found-pages : (item : Option Entry) (key : List ℕ) (old : Plain) → (without_dead item key old).pages ≡ old.pages
found-pages None key old = refl
found-pages (Some item) key old = refl

found-limit : (item : Option Entry) (key : List ℕ) (old : Plain) → (without_dead item key old).limit ≡ old.limit
found-limit None key old = refl
found-limit (Some item) key old = refl

grows-from : (mid old : Plain) (outcome : Outcome) → mid.pages ≡ old.pages → mid.limit ≡ old.limit → GrowsTo mid outcome → GrowsTo old outcome
grows-from mid old Spent pages limit g = tt
grows-from mid old (Answered reply new) pages limit g = record {
  grows = λ class. let same : pages_of mid class ≡ pages_of old class = ap (λ (ps : List ℕ). get_or ps (class - 1) 0) pages in let more = g.grows class in omega arith;
  limit = g.limit ∙ limit;
  within = λ fits. let same : sum mid.pages ≡ sum old.pages = ap sum pages in g.within (omega arith);
}

stepped_grows : (old : Plain) (step : KeyStep) (now : ℕ) → GrowsTo old (stepped old step now)
stepped_grows old step now =
    let item = standing old (key_of step) now in
    let mid = without_dead item (key_of step) old in
    grows-from mid old (stepped old step now) (found-pages item (key_of step) old) (found-limit item (key_of step) old)
    (changed_grows (row_of step now item) step item mid now)

flushed_grows : (b : Bool) (now later old : Plain) → now.pages ≡ old.pages → now.limit ≡ old.limit → later.pages ≡ old.pages → later.limit ≡ old.limit → Grows old (cond b now later)
flushed_grows true now later old p l q m = stays old now p l
flushed_grows false now later old p l q m = stays old later q m

plain_grows : (old : Plain) (step : KeyStep) (now : ℕ) → GrowsTo old (plain old step now)
plain_grows old (Flush delay) now = flushed_grows (eqb delay 0) _ _ old refl refl refl refl
plain_grows old step now = stepped_grows old step now

pub pages_grow : (old new : Plain) (step : KeyStep) (now : ℕ) (reply : Reply) (class : ℕ) → plain old step now ≡ Answered reply new → pages_of old class ≤ pages_of new class
pages_grow old new step now reply class is = (subst (GrowsTo old) is (plain_grows old step now)).grows class

pub limit_stays : (old new : Plain) (step : KeyStep) (now : ℕ) (reply : Reply) → plain old step now ≡ Answered reply new → new.limit ≡ old.limit
limit_stays old new step now reply is = (subst (GrowsTo old) is (plain_grows old step now)).limit

pub pages_within : (old new : Plain) (step : KeyStep) (now : ℕ) (reply : Reply) → plain old step now ≡ Answered reply new → sum old.pages ≤ old.limit → sum new.pages ≤ new.limit
pages_within old new step now reply is fits = (subst (GrowsTo old) is (plain_grows old step now)).within fits

-- ---- the least pages

set-here : (xs : List ℕ) (i n : ℕ) → i < length xs → get_or (set xs i n) i 0 ≡ n
set-here [] i n below = absurd (omega arith)
set-here (x ∷ xs) zero n below = refl
set-here (x ∷ xs) (suc i) n below = set-here xs i n (omega arith)

set-most : (xs : List ℕ) (i n : ℕ) → get_or (set xs i n) i 0 ≤ n
set-most [] i n = omega arith
set-most (x ∷ xs) zero n = omega arith
set-most (x ∷ xs) (suc i) n = set-most xs i n

-- one chunk, which a page gives where none is free
one-enough : (pages capacity items : ℕ) → 1 ≤ capacity → items ≤ pages * capacity → 1 ≤ (pages + (1 - (pages * capacity - items))) * capacity - items
one-enough pages capacity items some fits =
    ⊎_elim
    (λ (free : items < pages * capacity). let same : pages + (1 - (pages * capacity - items)) ≡ pages = omega arith in rw same (omega arith))
    (λ (full : pages * capacity ≤ items).
    let same : pages + (1 - (pages * capacity - items)) ≡ pages + 1 = omega arith in
    let more : (pages + 1) * capacity ≡ pages * capacity + capacity = omega arith in
    rw same (omega (arith, more, full, some)))
    (cases_lt items (pages * capacity))

one-least : (before capacity items pages : ℕ) → before ≤ pages → pages < before + (1 - (before * capacity - items)) → pages * capacity - items < 1
one-least before capacity items pages from below =
    let same : pages ≡ before = omega arith in
    let none : before * capacity - items ≡ 0 = omega arith in
    rw same (omega arith)

pub enough : (old : Plain) (need : NeedState) → IsNeed need → length old.pages ≡ 40 → count_of old.items need.class ≤ chunks_of old need.class → need.count ≤ unused (with_chunk old need) need.class
enough old need is long fits =
    let before : ℕ = pages_of old need.class in
    let items : ℕ = count_of old.items need.class in
    let after : pages_of (with_chunk old need) need.class ≡ before + (need.count - (before * chunks_a_page need.class - items)) =
    set-here old.pages (need.class - 1) _ (omega (arith, long, is.is_class)) in
    subst (λ (n : ℕ). need.count ≤ n * chunks_a_page need.class - items) (sym after)
    (⊎_elim
    (λ (one : need.count ≡ 1).
    subst (λ (n : ℕ). n ≤ (before + (n - (before * chunks_a_page need.class - items))) * chunks_a_page need.class - items) (sym one)
    (one-enough before (chunks_a_page need.class) items (chunks_a_page-least need.class is.is_class) fits))
    (λ (last : need.class ≡ 40).
    let capacity : chunks_a_page need.class ≡ 1 = ap chunks_a_page last ∙ whole in
    let fits : items ≤ before * 1 = subst (λ (n : ℕ). items ≤ before * n) capacity fits in
    subst (λ (n : ℕ). need.count ≤ (before + (need.count - (before * n - items))) * n - items) (sym capacity) (omega (arith, fits)))
    is.pages)

pub least : (old : Plain) (need : NeedState) (pages : ℕ) → IsNeed need → pages_of old need.class ≤ pages → pages < pages_of (with_chunk old need) need.class
    → pages * chunks_a_page need.class - count_of old.items need.class < need.count
least old need pages is from below =
    let before : ℕ = pages_of old need.class in
    let items : ℕ = count_of old.items need.class in
    let most : pages_of (with_chunk old need) need.class ≤ before + (need.count - (before * chunks_a_page need.class - items)) = set-most old.pages (need.class - 1) _ in
    let less : pages < before + (need.count - (before * chunks_a_page need.class - items)) = omega arith in
    ⊎_elim
    (λ (one : need.count ≡ 1).
    subst (λ (n : ℕ). pages * chunks_a_page need.class - items < n) (sym one)
    (one-least before (chunks_a_page need.class) items pages from (subst (λ (n : ℕ). pages < before + (n - (before * chunks_a_page need.class - items))) one less)))
    (λ (last : need.class ≡ 40).
    let capacity : chunks_a_page need.class ≡ 1 = ap chunks_a_page last ∙ whole in
    let less : pages < before + (need.count - (before * 1 - items)) = subst (λ (n : ℕ). pages < before + (need.count - (before * n - items))) capacity less in
    let some = is.some in
    subst (λ (n : ℕ). pages * n - items < need.count) (sym capacity) (omega (arith, less, from, some)))
    is.pages
