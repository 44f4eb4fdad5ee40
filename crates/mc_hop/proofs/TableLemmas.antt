-- One hopscotch table: walks over a hop word, and what a change of one bucket changes.
use Rattle.std.proofs.Common.{◌≡◌, ◌≢◌, ℕ, ◌+◌, ◌-◌, ◌/◌, ◌<◌, ◌≤◌, ◌^◌, inl, inr, Bool, cond, eqb, List, Option, Some, None, replicate, length, get_or, set}
use Rattle.std.proofs.Common.{sym, ap, subst, ◌∙◌, arith}
use Rattle.std.proofs.lemmas.Bool.{cases_eq, eq-eqb, ne_eqb}
use Rattle.std.proofs.lemmas.Option.{none-some}
use Rattle.std.proofs.lemmas.List.{length-set, length-replicate}
use Rattle.std.proofs.lemmas.Nat.{mod_below, pow_pos}
use Rattle.std.proofs.lemmas.Nat.Bits.{bit_at-zero}
use Rattle.std.specs.Int.{bit_at}
use Rattle.mc_hop.specs.Cells.{CellsState, empty_cells}
use Rattle.mc_hop.specs.Tables.{AreApart, AreNear, HopState, IsAt, IsAbsent, IsNearHome, IsTable, IsTagged, home_in, homed, tag_in}
use Rattle.mc_hop.proofs.ListLemmas.{filled_inside, get-replicate, reads, same_Some, stood}

-- Where a walk from a home stands: of the bits of its word the lowest so many are clear. Each bit that is set in the word is
-- one of an entry of the home, and each bit that isn't is one of an entry of another home, of none, or of another hash or key.
pub record Walked {X : Type 0} (hash_of : X → ℕ) (key_of : X → List ℕ) (k : ℕ) (items : List (Option X)) (hash : ℕ) (key : List ℕ) (home word turn : ℕ) : Type 0 where
  pub low : (j : ℕ) → j < turn → bit_at word j ≡ 0
  pub tried : (j : ℕ) → j < 32 → bit_at word j ≡ 0 → homed hash_of k home (get_or items (home + j) None) ≡ 1 → IsAt hash_of key_of items hash key (home + j) → ⊥

home_below : (k hash : ℕ) → home_in k hash < 2 ^ k
home_below k hash = mod_below (hash / 256) (2 ^ k) (pow_pos k)

-- a bucket's bits after a change of one bucket of a home's neighbourhood
hops : {X : Type 0} (bits : ℕ → ℕ → ℕ) (of : ℕ → Option X → ℕ) (words : List ℕ) (items : List (Option X)) (home at word : ℕ) (o : Option X) → at < length items → home < length words → home ≤ at
    → bits word (at - home) ≡ of home o → ((b : ℕ) → b ≢ home → of b o ≡ of b (get_or items at None)) → (b j : ℕ) → (j ≢ at - home → bits word j ≡ bits (get_or words home 0) j)
    → bits (get_or words b 0) j ≡ of b (get_or items (b + j) None) → bits (get_or (set words home word) b 0) j ≡ of b (get_or (set items at o) (b + j) None)
hops bits of words items home at word o inside small low bit beside b j others old = grind (arith, reads, cases_eq b home, cases_eq (b + j) at, cases_eq j (at - home))

-- and where another entry of that home stands in its place
hops_stay : {X : Type 0} (of : Option X → ℕ) (items : List (Option X)) (at n : ℕ) (o : Option X) → at < length items
    → of o ≡ of (get_or items at None) → of (get_or (set items at o) n None) ≡ of (get_or items n None)
hops_stay of items at n o inside same = grind (arith, reads, cases_eq n at)

module _ {X : Type 0} (hash_of : X → ℕ) where
  homed_here : (k b : ℕ) (x : X) → home_in k (hash_of x) ≡ b → homed hash_of k b (Some x) ≡ 1
  homed_here k b x e = ap (λ (v : Bool). cond v 1 0) (eq-eqb _ _ e)

  homed_elsewhere : (k b : ℕ) (x : X) → home_in k (hash_of x) ≢ b → homed hash_of k b (Some x) ≡ 0
  homed_elsewhere k b x n = ap (λ (v : Bool). cond v 1 0) (ne_eqb _ _ n)

  near-set : (k : ℕ) (items : List (Option X)) (at : ℕ) (o : Option X) → AreNear hash_of k items → ((x : X) → o ≡ Some x → IsNearHome hash_of k x at) → AreNear hash_of k (set items at o)
  near-set k items at o near its p y e = elim (stood items at p o y e) [ (inl a) ↦ subst (IsNearHome hash_of k y) (sym a.0) (its y a.1) | (inr b) ↦ near p y b.1 ]

-- ---- entries stay apart

module _ {X : Type 0} (hash_of : X → ℕ) (key_of : X → List ℕ) (items : List (Option X)) (at : ℕ) where
  pub apart-put : (x : X) → AreApart hash_of key_of items → IsAbsent hash_of key_of items (hash_of x) (key_of x) → AreApart hash_of key_of (set items at (Some x))
  apart-put x apart absent p q y z e f hashes keys =
      let new : (n : ℕ) (w : X) → get_or items n None ≡ Some w → hash_of w ≡ hash_of x → key_of w ≡ key_of x → ⊥ =
      λ n w there h k. absent n (record { entry = w; there = there; same_hash = h; same_key = k }) in
      grind (arith, stood items at p (Some x) y e, stood items at q (Some x) z f, apart p q y z, new p y, new q z)

  pub apart-taken : AreApart hash_of key_of items → AreApart hash_of key_of (set items at None)
  apart-taken apart p q y z e f hashes keys = grind (arith, stood items at p None y e, stood items at q None z f, apart p q y z)

  pub apart-changed : (x y : X) → AreApart hash_of key_of items → get_or items at None ≡ Some x → hash_of y ≡ hash_of x → key_of y ≡ key_of x → AreApart hash_of key_of (set items at (Some y))
  apart-changed x y apart there same_hash same_key p q z w e f hashes keys =
      grind (arith, stood items at p (Some y) z e, stood items at q (Some y) w f, apart p q z w, apart at q x w, apart p at z x)

-- ---- a table

module _ {X : Type 0} (hash_of : X → ℕ) (key_of : X → List ℕ) (k : ℕ) (words : List ℕ) (items : List (Option X)) (table : IsTable hash_of key_of k words items) where
  -- a walk that is through has met every entry of the home
  absent_after : (hash : ℕ) (key : List ℕ) (home word turn : ℕ) → home ≡ home_in k hash → Walked hash_of key_of k items hash key home word turn
      → ((j : ℕ) → j < 32 → bit_at word j ≡ 0) → IsAbsent hash_of key_of items hash key
  absent_after hash key home word turn is walked clear at there =
      let near = table.near at there.entry there.there in
      let its : home_in k (hash_of there.entry) ≡ home = ap (home_in k) there.same_hash ∙ sym is in
      let same : at ≡ home + (at - home) = omega arith in
      let one = ap (λ (n : ℕ). homed hash_of k home (get_or items n None)) (sym same) ∙ ap (homed hash_of k home) there.there ∙ homed_here hash_of k home there.entry its in
      walked.tried (at - home) (omega arith) (clear (at - home) (omega arith)) one (subst (IsAt hash_of key_of items hash key) same there)

  -- another entry of the same hash and key in an entry's place
  pub IsTable-over : (at : ℕ) (x y : X) → get_or items at None ≡ Some x → hash_of y ≡ hash_of x → key_of y ≡ key_of x → IsTable hash_of key_of k words (set items at (Some y))
  IsTable-over at x y there same_hash same_key = record {
    least = table.least;
    most = table.most;
    words_length = table.words_length;
    items_length = length-set items at (Some y) ∙ table.items_length;
    true_hops = λ b j within. table.true_hops b j within ∙ sym (hops_stay (homed hash_of k b) items at (b + j) (Some y) (filled_inside items at x there)
        (ap (λ (h : ℕ). cond (eqb (home_in k h) b) 1 0) same_hash ∙ ap (homed hash_of k b) (sym there)));
    near = near-set hash_of k items at (Some y) table.near (λ z e.
        subst (λ (h : ℕ). (home_in k h ≤ at) × (at ≤ home_in k h + 31)) (sym same_hash ∙ ap hash_of (same_Some y z e)) (table.near at x there));
    apart = apart-changed hash_of key_of items at x y table.apart there same_hash same_key;
  }

  module _ (home at word : ℕ) (low : home ≤ at) (high : at ≤ home + 31) (small : home < 2 ^ k) (others : (j : ℕ) → j < 32 → j ≢ at - home → bit_at word j ≡ bit_at (get_or words home 0) j) where
    hops_now : (o : Option X) → bit_at word (at - home) ≡ homed hash_of k home o → ((b : ℕ) → b ≢ home → homed hash_of k b o ≡ homed hash_of k b (get_or items at None))
        → (b j : ℕ) → j < 32 → bit_at (get_or (set words home word) b 0) j ≡ homed hash_of k b (get_or (set items at o) (b + j) None)
    hops_now o bit beside b j within =
        hops bit_at (homed hash_of k) words items home at word o (omega (arith, table.items_length)) (omega (arith, table.words_length)) low
        bit beside b j (others j within) (table.true_hops b j within)

    -- an entry of a new key in an empty bucket
    IsTable-put : (x : X) → home ≡ home_in k (hash_of x) → get_or items at None ≡ None → IsAbsent hash_of key_of items (hash_of x) (key_of x)
        → bit_at word (at - home) ≡ 1 → IsTable hash_of key_of k (set words home word) (set items at (Some x))
    IsTable-put x is empty new bit = record {
      least = table.least;
      most = table.most;
      words_length = length-set words home word ∙ table.words_length;
      items_length = length-set items at (Some x) ∙ table.items_length;
      true_hops = hops_now (Some x) (bit ∙ sym (homed_here hash_of k home x (sym is))) (λ b other. homed_elsewhere hash_of k b x (λ e. other (sym e ∙ sym is)) ∙ sym (ap (homed hash_of k b) empty));
      near = near-set hash_of k items at (Some x) table.near (λ y e. subst (λ (h : ℕ). (h ≤ at) × (at ≤ h + 31)) (is ∙ ap (λ (z : X). home_in k (hash_of z)) (same_Some x y e)) (low, high));
      apart = apart-put hash_of key_of items at x table.apart new;
    }

    -- a bucket whose entry is taken out
    IsTable-remove : (x : X) → home ≡ home_in k (hash_of x) → get_or items at None ≡ Some x → bit_at word (at - home) ≡ 0 → IsTable hash_of key_of k (set words home word) (set items at None)
    IsTable-remove x is there bit = record {
      least = table.least;
      most = table.most;
      words_length = length-set words home word ∙ table.words_length;
      items_length = length-set items at None ∙ table.items_length;
      true_hops = hops_now None bit (λ b other. sym (ap (homed hash_of k b) there ∙ homed_elsewhere hash_of k b x (λ e. other (sym e ∙ sym is))));
      near = near-set hash_of k items at None table.near (λ y e. absurd (none-some y e));
      apart = apart-taken hash_of key_of items at table.apart;
    }

  -- ---- the same as the code shows it: contracts see the table as the value s

  pub absent_by_value : (s : HopState X) (hash : ℕ) (key : List ℕ) (home word : ℕ) {turn : ℕ} → record { k = k; items = items } ≡ s → home ≡ home_in s.k hash
      → Walked hash_of key_of s.k s.items hash key home word turn → ((j : ℕ) → j < 32 → bit_at word j ≡ 0) → IsAbsent hash_of key_of s.items hash key
  absent_by_value s hash key home word {turn} seen is walked clear =
      subst (λ (s : HopState X). home ≡ home_in s.k hash → Walked hash_of key_of s.k s.items hash key home word turn → IsAbsent hash_of key_of s.items hash key) seen
      (λ is walked. absent_after hash key home word turn is walked clear) is walked

  pub inside_by : (s : HopState X) (home at hash : ℕ) → record { k = k; items = items } ≡ s → home ≡ home_in s.k hash → at ≤ home + 31 → at < length s.items
  inside_by s home at hash seen is high =
      subst (λ (s : HopState X). home ≡ home_in s.k hash → at < length s.items) seen (λ is. omega (arith, is, high, home_below k hash, table.items_length)) is

  pub put_by_value : (s : HopState X) (home at word : ℕ) (x : X) → record { k = k; items = items } ≡ s → home ≡ home_in s.k (hash_of x) → home ≤ at → at ≤ home + 31
      → get_or s.items at None ≡ None → IsAbsent hash_of key_of s.items (hash_of x) (key_of x) → {old : ℕ} → old ≡ get_or words home 0
      → bit_at word (at - home) ≡ 1 → ((j : ℕ) → j < 32 → j ≢ at - home → bit_at word j ≡ bit_at old j) → IsTable hash_of key_of k (set words home word) (set items at (Some x))
  put_by_value s home at word x seen is low high empty new read bit others =
      let Put : HopState X → Type 0 = λ s. home ≡ home_in s.k (hash_of x) → get_or s.items at None ≡ None → IsAbsent hash_of key_of s.items (hash_of x) (key_of x)
      → IsTable hash_of key_of k (set words home word) (set items at (Some x)) in
      subst Put seen (λ is empty new.
      IsTable-put home at word low high (omega (arith, is, home_below k (hash_of x))) (λ j within other. others j within other ∙ ap (λ (n : ℕ). bit_at n j) read) x is empty new bit) is empty new

  pub remove_by_value : (home at word : ℕ) (x : X) → home ≡ home_in k (hash_of x) → get_or items at None ≡ Some x → {old : ℕ} → old ≡ get_or words home 0
      → bit_at word (at - home) ≡ 0 → ((j : ℕ) → j < 32 → j ≢ at - home → bit_at word j ≡ bit_at old j) → IsTable hash_of key_of k (set words home word) (set items at None)
  remove_by_value home at word x is there read bit others =
      let near = table.near at x there in
      IsTable-remove home at word (omega arith) (omega arith) (omega (arith, home_below k (hash_of x))) (λ j within other. others j within other ∙ ap (λ (n : ℕ). bit_at n j) read) x is there bit

-- the same with tags: an entry put, or put in the place of another, one taken out, and a table with no entry
module _ {X : Type 0} (hash_of : X → ℕ) (key_of : X → List ℕ) (k : ℕ) (cells : CellsState X) (before : IsTagged hash_of key_of k cells) (at : ℕ) where
  pub IsTagged-put : (words : List ℕ) (x : X) (tag : ℕ) → tag ≡ tag_in (hash_of x) → IsTable hash_of key_of k words (set cells.items at (Some x))
      → IsTagged hash_of key_of k (record { words = words; tags = set cells.tags at tag; items = set cells.items at (Some x) })
  IsTagged-put words x tag is table = record {
    table = table;
    tags_length = length-set cells.tags at tag ∙ before.tags_length ∙ sym (length-set cells.items at (Some x));
    tagged = λ p y there.
        grind (arith, reads, stood cells.items at p (Some x) y there, filled_inside (set cells.items at (Some x)) p y there, before.tags_length, before.tagged p y, same_Some x y);
  }

  -- another entry of the same hash in an entry's place
  pub IsTagged-changed : (x y : X) → get_or cells.items at None ≡ Some x → hash_of y ≡ hash_of x → IsTable hash_of key_of k cells.words (set cells.items at (Some y))
      → IsTagged hash_of key_of k (record { words = cells.words; tags = cells.tags; items = set cells.items at (Some y) })
  IsTagged-changed x y here same_hash table = record {
    table = table;
    tags_length = before.tags_length ∙ sym (length-set cells.items at (Some y));
    tagged = λ p z there. elim (stood cells.items at p (Some y) z there) [
      | (inl a) ↦ ap (λ (n : ℕ). get_or cells.tags n 0) a.0 ∙ before.tagged at x here ∙ ap tag_in (sym same_hash ∙ ap hash_of (same_Some y z a.1))
      | (inr b) ↦ before.tagged p z b.1
    ];
  }

  pub IsTagged-remove : (words : List ℕ) → IsTable hash_of key_of k words (set cells.items at None)
      → IsTagged hash_of key_of k (record { words = words; tags = cells.tags; items = set cells.items at None })
  IsTagged-remove words table = record {
    table = table;
    tags_length = before.tags_length ∙ sym (length-set cells.items at None);
    tagged = λ p y there. elim (stood cells.items at p None y there) [ (inl a) ↦ absurd (none-some y a.1) | (inr b) ↦ before.tagged p y b.1 ];
  }

pub IsTagged-none : {X : Type 0} (hash_of : X → ℕ) (key_of : X → List ℕ) (k : ℕ) → 6 ≤ k → k ≤ 24 → (n : ℕ) → n ≡ 2 ^ k + 255 → IsTagged {X = X} hash_of key_of k (empty_cells n)
IsTagged-none {X} hash_of key_of k least most n is = record {
  table = record {
    least = least;
    most = most;
    words_length = length-replicate n 0 ∙ is;
    items_length = length-replicate n None ∙ is;
    true_hops = λ b j _. ap (λ (w : ℕ). bit_at w j) (get-replicate n b 0) ∙ bit_at-zero j ∙ sym (ap (homed hash_of k b) (get-replicate n (b + j) None));
    near = λ at x there. absurd (none n at x there);
    apart = λ at other x y there _ _ _. absurd (none n at x there);
  };
  tags_length = length-replicate n 0 ∙ sym (length-replicate n None);
  tagged = λ at x there. absurd (none n at x there);
} where
  none : (n at : ℕ) (x : X) → get_or {A = Option X} (replicate n None) at None ≡ Some x → ⊥
  none n at x there = none-some x (sym (get-replicate n at None) ∙ there)
