-- Lists of bytes as keys: their order, when two are the same, and an insertion after a removal.
use Rattle.std.proofs.Common.{◌≡◌, ℕ, Bool, true, false, cond, List, Option, Some, None, refl, sym, ap, ◌∙◌}
use Rattle.std.specs.Ordering.{nat_cmp, is_eq, eq_by_cmp}
use Rattle.std.specs.Cmp.{eq_by_cmp_equiv, IsEquivalence}
use Rattle.std.specs.Cmp.Lexicographic.{slice_cmp, nat_list_cmp_total}
use Rattle.std.specs.declared.cmp.Ordering.{Ordering}
use Rattle.std.specs.declared.cmp.Ordering.TheVariants.{Less, Equal, Greater}
use Rattle.std.specs.FinMap.{get, insert, remove, get-insert, get-remove, same_map, slice_cmp-IsAntisymmetric, nat_cmp-IsAntisymmetric, IsAntisymmetric}
use Rattle.mc_protocol.specs.Plain.{Entry, Items}

abbrev pub bytes_cmp : List ℕ → List ℕ → Ordering
bytes_cmp = slice_cmp nat_cmp

abbrev pub same_bytes : List ℕ → List ℕ → Bool
same_bytes = eq_by_cmp bytes_cmp

pub laws : IsEquivalence same_bytes
laws = eq_by_cmp_equiv nat_list_cmp_total

pub exact : IsAntisymmetric bytes_cmp
exact = slice_cmp-IsAntisymmetric nat_cmp-IsAntisymmetric

pub is_equal : (o : Ordering) → is_eq o ≡ true → o ≡ Equal
is_equal Less h = cc
is_equal Equal h = refl
is_equal Greater h = cc

-- an insertion after a removal of the same key
chosen_twice : (b : Bool) (x y z : Option Entry) → cond b x (cond b y z) ≡ cond b x z
chosen_twice true x y z = refl
chosen_twice false x y z = refl

pub insert-remove : (items : Items) (k : List ℕ) (i : Entry) → insert (remove items k) k i ≡ insert items k i
insert-remove items k i =
    same_map nat_list_cmp_total exact _ _ (λ q.
    get-insert nat_list_cmp_total (remove items k) k i q
    ∙ ap (cond (same_bytes q k) (Some i)) (get-remove nat_list_cmp_total items k q)
    ∙ chosen_twice (same_bytes q k) (Some i) None (get items q)
    ∙ sym (get-insert nat_list_cmp_total items k i q))
