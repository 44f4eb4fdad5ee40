-- Finite maps under keys: what an edit leaves under its key and under the others.
use Rattle.mc_shelf.proofs.Common.{◌∙◌, ◌≡◌, ◌≢◌, ap, Bool, cond, Equal, false, FinMap, get, get-insert, get-remove, Greater, insert, is_eq, Less, List, nat_list_cmp_total, None, Ordering}
use Rattle.mc_shelf.proofs.Common.{refl, remove, retain_keys, Some, sym, tied_itself, ℕ}
use Rattle.std.proofs.Common.{nat_cmp}
use Rattle.std.specs.Cmp.Lexicographic.{slice_cmp}
use Rattle.std.specs.FinMap.{IsAntisymmetric, nat_cmp-IsAntisymmetric, slice_cmp-IsAntisymmetric, same_map, get-retain_keys}

-- the order of keys
abbrev pub order : List ℕ → List ℕ → Ordering
order = slice_cmp nat_cmp

pub same_key : IsAntisymmetric order
same_key = slice_cmp-IsAntisymmetric nat_cmp-IsAntisymmetric

-- maps that have the same at each key are the same
pub same_maps : {X : Type 0} (a b : FinMap order X) → ((key : List ℕ) → get a key ≡ get b key) → a ≡ b
same_maps = same_map nat_list_cmp_total same_key

-- what is kept under a key
pub get_kept : {X : Type 0} (items : FinMap order X) (keep : List ℕ → Bool) (key : List ℕ) → get (retain_keys items keep) key ≡ cond (keep key) (get items key) None
get_kept items keep key = get-retain_keys items keep key (λ x same. ap keep (sym (same_key key x same)))

pub get_put : {X : Type 0} (items : FinMap order X) (key : List ℕ) (item : X) → get (insert items key item) key ≡ Some item
get_put items key item = get-insert nat_list_cmp_total items key item key ∙ ap (λ r. cond (is_eq r) (Some item) (get items key)) (tied_itself nat_list_cmp_total key)

pub get_gone : {X : Type 0} (items : FinMap order X) (key : List ℕ) → get (remove items key) key ≡ None
get_gone items key = get-remove nat_list_cmp_total items key key ∙ ap (λ r. cond (is_eq r) None (get items key)) (tied_itself nat_list_cmp_total key)

other_key : (key other : List ℕ) → other ≢ key → is_eq (order other key) ≡ false
other_key key other apart = elim (order other key) as (λ r. order other key ≡ r → is_eq r ≡ false) [ Less ↦ λ e. refl | Equal ↦ λ e. absurd (apart (same_key other key e)) | Greater ↦ λ e. refl ] refl

-- other keys stay
pub get_put_other : {X : Type 0} (items : FinMap order X) (key other : List ℕ) (item : X) → other ≢ key → get (insert items key item) other ≡ get items other
get_put_other items key other item apart = get-insert nat_list_cmp_total items key item other ∙ ap (λ b. cond b (Some item) (get items other)) (other_key key other apart)

pub get_gone_other : {X : Type 0} (items : FinMap order X) (key other : List ℕ) → other ≢ key → get (remove items key) other ≡ get items other
get_gone_other items key other apart = get-remove nat_list_cmp_total items key other ∙ ap (λ b. cond b None (get items other)) (other_key key other apart)

-- what stands under a key, put there once more
pub put_same : {X : Type 0} (items : FinMap order X) (key : List ℕ) (item : X) → get items key ≡ Some item → insert items key item ≡ items
put_same items key item there = same_maps _ _ (λ other. get-insert nat_list_cmp_total items key item other ∙ by other)
  where
    by : (other : List ℕ) → cond (is_eq (order other key)) (Some item) (get items other) ≡ get items other
    by other = elim (order other key) as (λ r. order other key ≡ r → cond (is_eq r) (Some item) (get items other) ≡ get items other)
        [ Less ↦ λ e. refl | Equal ↦ λ e. sym there ∙ ap (get items) (sym (same_key other key e)) | Greater ↦ λ e. refl ] refl
