-- How many pages a need wants, and whether there are so many.
use Rattle.std.proofs.Common.{◌≡◌, ℕ, ◌+◌, ◌-◌, ◌*◌, ◌/◌, ◌<◌, ◌≤◌, ◌⊎◌, inl, inr, Bool, true, false, leb, List, length, get_or, set, refl, sym, ap, subst, ◌∙◌, arith}
use Rattle.std.proofs.lemmas.Bool.{cases_lt, leb-true, le-leb, lt-leb}
use Rattle.std.proofs.lemmas.List.{get_or-set_same}
use Rattle.std.proofs.Math.Nat.{le-mul_of_pos_right}
use Rattle.mc_slab.specs.Classes.{IsClass, size_of, chunks_a_page}
use Rattle.mc_slab.specs.Needs.{NeedState, IsNeed}
use Rattle.mc_slab.specs.Slabs.{SlabState, IsSlab, TellsFull, WantsPages, chunks_of, given, has_room, has_room_with, made_ready, out_of, pages_left, pages_of, pages_wanted, unused, with_pages}
use Rattle.mc_slab.proofs.ClassLemmas.{size_of-last, chunks_a_page-least}

-- a page of the last class is a chunk
page_of-last : chunks_a_page 40 ≡ 1
page_of-last = ap (λ (n : ℕ). 1048576 / n) size_of-last

-- one chunk is needed, or a page gives one
one_of : (need : NeedState) → IsNeed need → (need.count ≡ 1) ⊎ (chunks_a_page need.class ≡ 1)
one_of need is = elim is.pages [
  | inl one ↦ inl one
  | inr last ↦ inr (ap (λ (k : ℕ). chunks_a_page k) last ∙ page_of-last)
]

-- so many pages more are enough
pages_do : (count free pages chunks : ℕ) → 1 ≤ chunks → count - free ≤ pages → count ≤ free + pages * chunks
pages_do count free pages chunks some wanted =
    let more : pages ≤ pages * chunks = le-mul_of_pos_right pages (omega arith) in
    omega arith

-- and fewer are not
fewer_not : (count free fewer chunks : ℕ) → (count ≡ 1) ⊎ (chunks ≡ 1) → fewer < count - free → free + fewer * chunks < count
fewer_not count free fewer chunks one below = elim one [
  | inl single ↦
      let none : fewer ≡ 0 = omega arith in
      rw none (omega arith)
  | inr page ↦ rw page (omega arith)
]

pub pages_enough : (slab : SlabState) (need : NeedState) (back : ℕ) → IsNeed need → need.count ≤ unused slab need.class + back + pages_wanted slab need back * chunks_a_page need.class
pages_enough slab need back is = pages_do need.count (unused slab need.class + back) (pages_wanted slab need back) (chunks_a_page need.class) (chunks_a_page-least need.class is.is_class) (omega arith)

pub pages_least : (slab : SlabState) (need : NeedState) (back fewer : ℕ) → IsNeed need → fewer < pages_wanted slab need back
    → unused slab need.class + back + fewer * chunks_a_page need.class < need.count
pages_least slab need back fewer is below = fewer_not need.count (unused slab need.class + back) fewer (chunks_a_page need.class) (one_of need is) below

-- there is room where the pages that are wanted are left, and none where they aren't
pub room_when : (slab : SlabState) (need : NeedState) (back : ℕ) → IsNeed need → pages_wanted slab need back ≤ pages_left slab → has_room_with slab need back ≡ true
room_when slab need back is wanted = le-leb _ _ (pages_do need.count (unused slab need.class + back) (pages_left slab) (chunks_a_page need.class) (chunks_a_page-least need.class is.is_class) wanted)

pub full_when : (slab : SlabState) (need : NeedState) (back : ℕ) → IsNeed need → pages_left slab < pages_wanted slab need back → has_room_with slab need back ≡ false
full_when slab need back is few = lt-leb _ _ (pages_least slab need back (pages_left slab) is few)

pub wanted_when : (slab : SlabState) (need : NeedState) (back : ℕ) → IsNeed need → has_room_with slab need back ≡ true → pages_wanted slab need back ≤ pages_left slab
wanted_when slab need back is room =
    let enough : need.count ≤ unused slab need.class + back + pages_left slab * chunks_a_page need.class = leb-true _ _ room in
    elim (cases_lt (pages_left slab) (pages_wanted slab need back)) as (λ _. pages_wanted slab need back ≤ pages_left slab) [
      | inr le ↦ le
      | inl few ↦ let no : has_room_with slab need back ≡ false = full_when slab need back is few in let absurd_eq : true ≡ false = sym room ∙ no in cc
    ]

-- pages that a class was given are its
pub pages-with_pages : (slab : SlabState) (class n : ℕ) → IsSlab slab → IsClass class → pages_of (with_pages slab class n) class ≡ pages_of slab class + n
pages-with_pages slab class n is_slab is = get_or-set_same slab.pages (class - 1) _ 0 (omega (arith, is_slab.pages))

-- once a class is ready, so many chunks can come out
pub ready_chunks : (slab : SlabState) (need : NeedState) (back : ℕ) → IsSlab slab → IsNeed need → out_of slab need.class + need.count ≤ chunks_of (made_ready slab need back) need.class + back
ready_chunks slab need back is_slab is =
    let n : ℕ = pages_wanted slab need back in
    let chunks : ℕ = chunks_a_page need.class in
    let pages = pages-with_pages slab need.class n is_slab is.is_class in
    let within : out_of slab need.class ≤ pages_of slab need.class * chunks = is_slab.within need.class is.is_class in
    let enough : need.count ≤ unused slab need.class + back + n * chunks = pages_enough slab need back is in
    let more : (pages_of slab need.class + n) * chunks ≡ pages_of slab need.class * chunks + n * chunks = omega arith in
    rw pages (omega arith)

-- and when the chunks that were to come back came, they are unused
pub ready_unused : (slab : SlabState) (need : NeedState) (back : ℕ) → IsSlab slab → IsNeed need → back ≤ out_of slab need.class
    → need.count ≤ unused (given (made_ready slab need back) need.class back) need.class
ready_unused slab need back is_slab is out =
    let ready = ready_chunks slab need back is_slab is in
    let fewer : out_of (given (made_ready slab need back) need.class back) need.class ≡ out_of slab need.class - back =
    get_or-set_same slab.out (need.class - 1) _ 0 (let long = is_slab.out in let class = is.is_class in omega arith) in
    rw fewer (omega arith)

pub ready_room : (slab : SlabState) (need : NeedState) (back : ℕ) → IsSlab slab → IsNeed need → back ≤ out_of slab need.class → has_room (given (made_ready slab need back) need.class back) need ≡ true
ready_room slab need back is_slab is out = le-leb _ _ (let enough = ready_unused slab need back is_slab is out in omega arith)

pub ready_no_pages : (slab : SlabState) (need : NeedState) (back : ℕ) → IsSlab slab → IsNeed need → back ≤ out_of slab need.class
    → pages_wanted (given (made_ready slab need back) need.class back) need 0 ≡ 0
ready_no_pages slab need back is_slab is out = let enough = ready_unused slab need back is_slab is out in omega arith

pub ready_not_full : (slab : SlabState) (need : NeedState) (back : ℕ) → IsSlab slab → IsNeed need → back ≤ out_of slab need.class → (class pages out : ℕ)
    → TellsFull (given (made_ready slab need back) need.class back) need 0 class pages out → ⊥
ready_not_full slab need back is_slab is least class pages out full = let room = ready_room slab need back is_slab is least in let no = full.0 in let e : true ≡ false = sym room ∙ no in cc

pub ready_no_memory : (slab : SlabState) (need : NeedState) (back : ℕ) → IsSlab slab → IsNeed need → back ≤ out_of slab need.class
    → WantsPages (given (made_ready slab need back) need.class back) need 0 → ⊥
ready_no_memory slab need back is_slab is least wants = let none = ready_no_pages slab need back is_slab is least in omega (arith, wants.1)
