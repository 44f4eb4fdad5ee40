-- What shelves that were laid aside hold of the chunks that are out of a slab.
use Rattle.mc_shelf.proofs.Common.{[], ⊎_elim, ◌*◌, ◌++◌, ◌+◌, ◌-◌, ◌<◌, ◌∙◌, ◌∷◌, ◌≡◌, ◌≤◌, ◌⊎◌, all_out, ap, AreCollected, AreOff, arith, chunks_a_page, chunks_in, ChunksState, cond_both}
use Rattle.mc_shelf.proofs.Common.{count-empty, count-remove, count_in, count_of, empty, Entry, EntryState, eqb, eqb-true, Err, full_fault, get, get_or, get_or-replicate, given}
use Rattle.mc_shelf.proofs.Common.{has_room_with, inl, inr, IsClass, IsFull, IsNeed, IsSlab, item_need, Items, le-leb, leb, length, length-set, LieAside, List, made_ready, need_in}
use Rattle.mc_shelf.proofs.Common.{NeedState, of_class, Ok, Option, out_of, pages_of, pages_wanted, Readies, refl, replicate, Result, same_Some, seen, set, ShelfState, SlabState, Some}
use Rattle.mc_shelf.proofs.Common.{subst, suc, Suffices, sym, TakeFault, Takes, TellsFull, true≢false, unused, WantsPages, zero, ℕ}
use Rattle.std.proofs.Common.{slice_get}
use Rattle.std.proofs.lemmas.List.Sums.{sum_by-set}
use Rattle.mc_slab.specs.declared.slab.TakeFault.TheVariants.{Full, NoMemory}
use Rattle.mc_shelf.specs.Asides.{GivesOwn, IsOff}
use Rattle.mc_shelf.proofs.StandLemmas.{out-given, out-taken, weight}
use Rattle.mc_slab.specs.Slabs as slabs

-- ---- shelves one after another

pub count_in-join : (xs ys : List ShelfState) (class : ℕ) → count_in (xs ++ ys) class ≡ count_in xs class + count_in ys class
count_in-join [] ys class = omega arith
count_in-join (x ∷ xs) ys class = omega (arith, count_in-join xs ys class)

-- the last one
pub count_in-last : (xs : List ShelfState) (x : ShelfState) (class : ℕ) → count_in (xs ++ x ∷ []) class ≡ count_in xs class + count_of x.content.items class
count_in-last xs x class = omega (arith, count_in-join xs (x ∷ []) class)

-- one of them has changed
pub count_in-set : (xs : List ShelfState) (at : ℕ) (old new : ShelfState) (class : ℕ) → slice_get xs at ≡ Some old
    → count_in (set xs at new) class + count_of old.content.items class ≡ count_in xs class + count_of new.content.items class
count_in-set [] at old new class here = cc
count_in-set (x ∷ xs) zero old new class here =
    let same = ap (λ (s : ShelfState). count_of s.content.items class) (same_Some x old here) in
    omega (arith, same)
count_in-set (x ∷ xs) (suc at) old new class here = omega (arith, count_in-set xs at old new class here)

-- an entry was taken off one of them
off_by : (all after : List ShelfState) (old new : ShelfState) (entry : EntryState) (chunks : ChunksState)
    → ((class : ℕ) → count_in after class + count_of old.content.items class ≡ count_in all class + count_of new.content.items class)
    → IsOff old.content new.content entry → need_in chunks ≡ item_need entry.key entry.item → IsNeed (item_need entry.key entry.item) → AreOff all after chunks
off_by all after old new entry chunks moved off need_is is_need = record {
  is_need = subst IsNeed (sym need_is) is_need;
  counts = λ class.
      let gone = count-remove class old.content.items entry.key in
      let less = ap (λ (m : Items). count_of m class) off.items in
      let one : of_class entry.key (get old.content.items entry.key) class ≡ chunks_in (item_need entry.key entry.item) class = ap (λ (o : Option Entry). of_class entry.key o class) off.found in
      let same : chunks_in (need_in chunks) class ≡ chunks_in (item_need entry.key entry.item) class = ap (λ (n : NeedState). chunks_in n class) need_is in
      omega (arith, moved class, gone, less, one, same);
}

pub off_at : (all after : List ShelfState) (at : ℕ) (old new : ShelfState) (entry : EntryState) (chunks : ChunksState) → slice_get all at ≡ Some old → after ≡ set all at new
    → IsOff old.content new.content entry → need_in chunks ≡ item_need entry.key entry.item → IsNeed (item_need entry.key entry.item) → AreOff all after chunks
off_at all after at old new entry chunks here after_is =
    off_by all after old new entry chunks (λ class. ap (λ l. count_in l class + count_of old.content.items class) after_is ∙ count_in-set all at old new class here)

-- or off the last one
pub off_last : (all rest after : List ShelfState) (old new : ShelfState) (entry : EntryState) (chunks : ChunksState) → all ≡ rest ++ old ∷ [] → after ≡ rest ++ new ∷ []
    → IsOff old.content new.content entry → need_in chunks ≡ item_need entry.key entry.item → IsNeed (item_need entry.key entry.item) → AreOff all after chunks
off_last all rest after old new entry chunks all_is after_is =
    off_by all after old new entry chunks (λ class.
    let before = ap (λ l. count_in l class) all_is ∙ count_in-last rest old class in
    let behind = ap (λ l. count_in l class) after_is ∙ count_in-last rest new class in
    omega (arith, before, behind))

-- the last one has no items
pub none_last : (all rest : List ShelfState) (last : ShelfState) → all ≡ rest ++ last ∷ [] → last.content.items ≡ empty → (class : ℕ)
    → count_in all class ≡ count_in rest class
none_last all rest last all_is none class =
    let before = ap (λ l. count_in l class) all_is ∙ count_in-last rest last class in
    let nothing = ap (λ (m : Items). count_of m class) none ∙ count-empty class in
    omega (arith, before, nothing)

-- ---- a slab as it is seen

module _ {slab : SlabState} {out : List ℕ} {shelves : List ShelfState} (lie : LieAside slab out shelves) where
  pub seen_is_slab : IsSlab (seen slab out)
  seen_is_slab = record {
    pages = lie.is_slab.pages;
    out = lie.classes;
    within = λ class is. omega (arith, lie.account class is, lie.is_slab.within class is);
    limit = lie.is_slab.limit;
    most = lie.is_slab.most;
  }

  -- the chunks of one item aside are given to the slab
  pub off_given : {after : List ShelfState} {chunks : ChunksState} {new : SlabState} → AreOff shelves after chunks → new ≡ given slab chunks.class chunks.count → IsSlab new
      → LieAside new out after
  off_given {after} {chunks} {new} off new_is is = record {
    is_slab = is;
    classes = lie.classes;
    account = λ class is_class.
        let all = lie.account class is_class in
        let one = off.counts class in
        let less = ap (λ (s : SlabState). out_of s class) new_is ∙ out-given slab chunks.class off.is_need.is_class lie.is_slab.out chunks.count class is_class in
        omega (arith, all, one, less);
  }

pub fewer_own : {slab new : SlabState} {class : ℕ} → IsSlab slab → GivesOwn class slab new → all_out new < all_out slab
fewer_own {slab} {new} {class} fits own =
    let place : class - 1 < length slab.out = omega (arith, fits.out, own.is_class.0, own.is_class.1) in
    let moved = sum_by-set (λ (n : ℕ). n) slab.out (class - 1) (out_of slab class - own.count) 0 place in
    let less : all_out (given slab class own.count) + out_of slab class ≡ all_out slab + (out_of slab class - own.count) = moved in
    let fewer : all_out (given slab class own.count) < all_out slab = omega (arith, less, own.within, own.some) in
    subst (λ (s : SlabState). all_out s < all_out slab) (sym own.back) fewer

-- ---- collecting

pub collected_both : {a b c : SlabState} {x y z : List ShelfState} → AreCollected a b x y → AreCollected b c y z → AreCollected a c x z
collected_both one two = record { lie = λ out lie. two.lie out (one.lie out lie); limit = two.limit ∙ one.limit; pages = two.pages ∙ one.pages }

pub collected_one : {slab new : SlabState} {shelves after : List ShelfState} {chunks : ChunksState} → AreOff shelves after chunks → new ≡ given slab chunks.class chunks.count → IsSlab new
    → AreCollected slab new shelves after
collected_one off new_is is = record {
  lie = λ out lie. off_given lie off new_is is;
  limit = ap (λ (s : SlabState). s.limit) new_is;
  pages = ap (λ (s : SlabState). s.pages) new_is;
}

-- nothing that is seen has changed
pub seen_same : {old new : SlabState} {before after : List ShelfState} (out : List ℕ) → AreCollected old new before after → seen new out ≡ seen old out
seen_same out collected = λ i. record { limit = collected.limit i; pages = collected.pages i; out = out }

-- ---- needs

module _ {slab : SlabState} {out : List ℕ} {shelves : List ShelfState} (lie : LieAside slab out shelves) (need : NeedState) (is_class : IsClass need.class) (back : ℕ)
    (enough : Suffices slab need back (out_of (seen slab out) need.class)) where
  abbrev shown : SlabState
  shown = seen slab out

  more_unused : unused slab need.class ≤ unused shown need.class
  more_unused = omega (arith, lie.account need.class is_class)

  same_unused : out_of slab need.class ≡ out_of shown need.class → unused slab need.class ≡ unused shown need.class
  same_unused same = ap (λ n. slabs.chunks_of slab need.class - n) same

  same_wanted : pages_wanted slab need back ≡ pages_wanted shown need back
  same_wanted = ⊎_elim
      (λ some. let none : pages_wanted slab need back ≡ 0 = omega (arith, some) in
      let none_shown : pages_wanted shown need back ≡ 0 = omega (arith, some, more_unused) in
      none ∙ sym none_shown)
      (λ same. ap (λ n. need.count - (n + back)) (same_unused same)) enough

  same_room : has_room_with slab need back ≡ has_room_with shown need back
  same_room = ⊎_elim
      (λ some. le-leb need.count (unused slab need.class + back + slabs.pages_left slab * chunks_a_page need.class) (omega (arith, some))
      ∙ sym (le-leb need.count (unused shown need.class + back + slabs.pages_left slab * chunks_a_page need.class) (omega (arith, some, more_unused))))
      (λ same. ap (λ n. leb need.count (n + back + slabs.pages_left slab * chunks_a_page need.class)) (same_unused same)) enough

  same_out : IsFull slab need back → out_of slab need.class ≡ out_of shown need.class
  same_out full = ⊎_elim
      (λ some. absurd (true≢false (sym (le-leb need.count (unused slab need.class + back + slabs.pages_left slab * chunks_a_page need.class) (omega (arith, some))) ∙ full)))
      (λ same. same) enough

  to_shown : {class pages o : ℕ} → TellsFull slab need back class pages o → TellsFull shown need back class pages o
  to_shown tells = (sym same_room ∙ tells.0, tells.1, tells.2, tells.3 ∙ same_out tells.0)

  to_real : {class pages o : ℕ} → TellsFull shown need back class pages o → TellsFull slab need back class pages o
  to_real tells = let full = same_room ∙ tells.0 in (full, tells.1, tells.2, tells.3 ∙ sym (same_out full))

  wants_shown : WantsPages slab need back → WantsPages shown need back
  wants_shown wants = (sym same_room ∙ wants.0, subst (λ n. 0 < n) same_wanted wants.1)

  ready_shown : seen (made_ready slab need back) out ≡ made_ready shown need back
  ready_shown = ap (λ n. record { limit = slab.limit; pages = set slab.pages (need.class - 1) (pages_of slab need.class + n); out = out }) same_wanted

  fault_shown : {A : Type 0} (fault : TakeFault) → ((class pages o : ℕ) → ◌≡◌ {A = Result A TakeFault} (Err fault) (Err (Full class pages o)) → TellsFull slab need back class pages o)
      → (fault ≡ NoMemory) ⊎ (fault ≡ full_fault slab need) → (fault ≡ NoMemory) ⊎ (fault ≡ full_fault shown need)
  fault_shown fault full (inl none) = inl none
  fault_shown fault full (inr is) =
      let tells = full need.class (pages_of slab need.class) (out_of slab need.class) (ap Err is) in
      inr (is ∙ ap (λ o. Full need.class (pages_of slab need.class) o) (same_out tells.0))

  -- a class that was made ready is seen so
  pub readied : {new : SlabState} (result : Result Unit TakeFault) → Readies need back slab result new
      → Readies need back shown result (seen new out) × LieAside new out shelves
  readied {new} (Ok tt) is =
      let lies : LieAside new out shelves = record {
        is_slab = is.is_slab;
        classes = lie.classes;
        account = λ class is_one. ap (λ (s : SlabState). out_of s class) is.ready ∙ lie.account class is_one;
      } in (
        record {
          ready = ap (λ (s : SlabState). seen s out) is.ready ∙ ready_shown;
          room = sym same_room ∙ is.room;
          full = λ class pages o. ((λ e. to_shown ((is.full class pages o).0 e)), (λ tells. (is.full class pages o).1 (to_real tells)));
          no_memory = λ e. wants_shown (is.no_memory e);
          faults = tt;
          err = tt;
          is_slab = seen_is_slab lies;
        },
        lies,
      )
  readied {new} (Err fault) is = (
    record {
      ready = tt;
      room = tt;
      full = λ class pages o. ((λ e. to_shown ((is.full class pages o).0 e)), (λ tells. (is.full class pages o).1 (to_real tells)));
      no_memory = λ e. wants_shown (is.no_memory e);
      faults = fault_shown fault (λ class pages o. (is.full class pages o).0) is.faults;
      err = ap (λ (s : SlabState). seen s out) is.err;
      is_slab = tt;
    },
    subst (λ (s : SlabState). LieAside s out shelves) (sym is.err) lie,
  )

-- taken chunks are seen to be out
module _ {slab : SlabState} {out : List ℕ} {shelves : List ShelfState} (lie : LieAside slab out shelves) (need : NeedState) (is_class : IsClass need.class)
    (enough : Suffices slab need 0 (out_of (seen slab out) need.class)) where
  abbrev more_out : List ℕ
  more_out = set out (need.class - 1) (get_or out (need.class - 1) 0 + need.count)

  pub took : {new : SlabState} (chunks : ChunksState) → Takes need slab (Ok chunks) new → Takes need (seen slab out) (Ok chunks) (seen new more_out) × LieAside new more_out shelves
  took {new} chunks is =
      let lies : LieAside new more_out shelves = record {
        is_slab = is.is_slab;
        classes = length-set out (need.class - 1) (get_or out (need.class - 1) 0 + need.count) ∙ lie.classes;
        account = λ class is_one.
            let real = ap (λ (s : SlabState). out_of s class) is.taken ∙ out-taken slab need is_class lie.is_slab.out class is_one in
            let shown : get_or more_out (class - 1) 0 ≡ get_or out (class - 1) 0 + chunks_in need class = out-taken (seen slab out) need is_class lie.classes class is_one in
            omega (arith, real, shown, lie.account class is_one);
      } in (
        record {
          chunks = is.chunks;
          taken = ap (λ (s : SlabState). seen s more_out) is.taken
              ∙ ap (λ (s : SlabState). seen s more_out) (ready_shown lie need is_class 0 enough);
          full = λ class pages o. ((λ e. to_shown lie need is_class 0 enough ((is.full class pages o).0 e)), (λ tells. (is.full class pages o).1 (to_real lie need is_class 0 enough tells)));
          no_memory = λ e. wants_shown lie need is_class 0 enough (is.no_memory e);
          faults = tt;
          err = tt;
          is_slab = seen_is_slab lies;
        },
        lies,
      )

  pub refused : {new : SlabState} (fault : TakeFault) → Takes need slab (Err fault) new → Takes need (seen slab out) (Err fault) (seen new out) × LieAside new out shelves
  refused {new} fault is = (
    record {
      chunks = tt;
      taken = tt;
      full = λ class pages o. ((λ e. to_shown lie need is_class 0 enough ((is.full class pages o).0 e)), (λ tells. (is.full class pages o).1 (to_real lie need is_class 0 enough tells)));
      no_memory = λ e. wants_shown lie need is_class 0 enough (is.no_memory e);
      faults = fault_shown lie need is_class 0 enough fault (λ class pages o. (is.full class pages o).0) is.faults;
      err = ap (λ (s : SlabState). seen s out) is.err;
      is_slab = tt;
    },
    subst (λ (s : SlabState). LieAside s out shelves) (sym is.err) lie,
  )

weight_within : (out : List ℕ) (class count other : ℕ) → count ≤ get_or out (class - 1) 0 → weight class count other ≤ get_or out (other - 1) 0
weight_within out class count other within =
    cond_both (eqb class other) count 0 (λ n. n ≤ get_or out (other - 1) 0) (λ e. subst (λ k. count ≤ get_or out (k - 1) 0) (eqb-true class other e) within) (λ e. omega arith)

-- given chunks are seen to be back
pub gave : {slab new : SlabState} {out : List ℕ} {shelves : List ShelfState} → LieAside slab out shelves → (class count : ℕ) → IsClass class → count ≤ get_or out (class - 1) 0
    → new ≡ given slab class count → IsSlab new → LieAside new (set out (class - 1) (get_or out (class - 1) 0 - count)) shelves
gave {slab} {new} {out} {shelves} lie class count is_class within new_is is = record {
  is_slab = is;
  classes = length-set out (class - 1) (get_or out (class - 1) 0 - count) ∙ lie.classes;
  account = λ other is_other.
      let real = ap (λ (s : SlabState). out_of s other) new_is ∙ out-given slab class is_class lie.is_slab.out count other is_other in
      let shown : get_or (set out (class - 1) (get_or out (class - 1) 0 - count)) (other - 1) 0 ≡ get_or out (other - 1) 0 - weight class count other =
      out-given (seen slab out) class is_class lie.classes count other is_other in
      let least = weight_within out class count other within in
      omega (arith, real, shown, least, lie.account other is_other);
}

-- shelves are laid aside, which have all chunks that are out
pub laid : {slab : SlabState} {out : List ℕ} (shelves before after : List ShelfState) → LieAside slab out before → ((class : ℕ) → IsClass class → get_or out (class - 1) 0 ≡ count_in shelves class)
    → ((class : ℕ) → count_in after class ≡ count_in shelves class + count_in before class) → LieAside slab (replicate 40 0) after
laid {slab} {out} shelves before after lie all joined = record {
  is_slab = lie.is_slab;
  classes = refl;
  account = λ class is.
      let none : get_or (replicate {A = ℕ} 40 0) (class - 1) 0 ≡ 0 = get_or-replicate 40 (class - 1) 0 0 (omega (arith, is.0, is.1)) in
      omega (arith, none, lie.account class is, all class is, joined class);
}
