-- Which entries can be moved into an empty bucket.
use Rattle.std.proofs.Common.{◌≡◌, ℕ, ◌+◌, ◌-◌, ◌<◌, ◌≤◌, Bool, cond, List, Option, Some, None, length, get_or, sym, ap, ◌∙◌, arith, ⊎_elim}
use Rattle.std.proofs.lemmas.Bool.{cases_eq, eq-eqb}
use Rattle.std.specs.Int.{bit_at}
use Rattle.mc_hop.specs.Tables.{HopState, NoneFree, home_in, homed}
use Rattle.mc_displace.specs.Moves.{IsMovable, IsStuck}
use Rattle.mc_hop.specs.Contents.{content}
use Rattle.mc_hop.proofs.ListLemmas.{same_Some}

-- an entry of the home is in reach of the empty bucket
pub within_reach : {X : Type 0} (hash_of : X → ℕ) (k : ℕ) (items : List (Option X)) (free at : ℕ) (x : X) (home : ℕ) → IsMovable hash_of k items free at
    → get_or items at None ≡ Some x → home_in k (hash_of x) ≡ home → home_in k (hash_of x) ≤ at → (home ≤ free) × (free ≤ home + 31)
within_reach hash_of k items free at x home m there is near =
    let its : home_in k (hash_of m.entry) ≡ home = ap (λ z. home_in k (hash_of z)) (same_Some m.entry x (sym m.there ∙ there)) ∙ is in
    (omega (arith, m.before, near, is), omega (arith, m.reach, its))

-- no entry whose home is below that one can be moved
abbrev pub NoneOfHomesBelow : {X : Type 0} → (X → ℕ) → ℕ → List (Option X) → ℕ → ℕ → Type 0
NoneOfHomesBelow hash_of k items free home = (at : ℕ) (m : IsMovable hash_of k items free at) → home_in k (hash_of m.entry) < home → ⊥

-- where the bits below the empty bucket are clear, no entry of the home can be moved
pub none_of_home : {X : Type 0} (hash_of : X → ℕ) (k : ℕ) (items : List (Option X)) (free home word : ℕ) → NoneOfHomesBelow hash_of k items free home
    → ((at : ℕ) (x : X) → get_or items at None ≡ Some x → (home_in k (hash_of x) ≤ at) × (at ≤ home_in k (hash_of x) + 31))
    → ((j : ℕ) → j < 32 → bit_at word j ≡ homed hash_of k home (get_or items (home + j) None)) → ((j : ℕ) → j < free - home → bit_at word j ≡ 0) → NoneOfHomesBelow hash_of k items free (home + 1)
none_of_home hash_of k items free home word before near bits clear at m below =
    ⊎_elim
    (λ (e : home_in k (hash_of m.entry) ≡ home).
    let place = near at m.entry m.there in
    let same : at ≡ home + (at - home) = omega (arith, e, place.0) in
    let one : homed hash_of k home (get_or items (home + (at - home)) None) ≡ 1 =
    ap (λ (n : ℕ). homed hash_of k home (get_or items n None)) (sym same) ∙ ap (homed hash_of k home) m.there ∙ ap (λ (b : Bool). cond b 1 0) (eq-eqb _ _ e) in
    let bit = bits (at - home) (omega (arith, e, place.1)) in
    absurd (omega (arith, one, bit, clear (at - home) (omega (arith, e, place.0, m.before)))))
    (λ (n : home_in k (hash_of m.entry) ≡ home → ⊥). before at m (omega (arith, below, n)))
    (cases_eq (home_in k (hash_of m.entry)) home)

-- after so many moves: the content and the size are as they were, and the empty bucket has come so much nearer, and not past the home
pub record Brought {X : Type 0} (hash_of : X → ℕ) (key_of : X → List ℕ) (first table : HopState X) (home start free turn : ℕ) : Type 0 where
  pub same : content hash_of key_of table.items ≡ content hash_of key_of first.items
  pub same_k : table.k ≡ first.k
  pub same_length : length table.items ≡ length first.items
  pub empty : get_or table.items free None ≡ None
  pub inside : free < length table.items
  pub low : home ≤ free
  pub nearer : free + turn ≤ start
  pub filled : NoneFree first.items home start → NoneFree table.items home free
  pub unmoved : IsStuck hash_of first.k first.items home start → (table ≡ first) × (free ≡ start)
  pub near : start ≤ home + 31 → (table ≡ first) × (free ≡ start)

-- the buckets before the one whose entry was moved are filled as they were
pub none_free : {X : Type 0} (old new : List (Option X)) (home free at : ℕ) → at < free → ((k : ℕ) → k < at → get_or new k None ≡ get_or old k None) → NoneFree old home free → NoneFree new home at
none_free old new home free at before same filled k low high none = filled k low (omega (arith, before, high)) (sym (same k high) ∙ none)
