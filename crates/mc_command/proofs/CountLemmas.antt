-- How many chunks of a class a map's entries have.
use Rattle.std.proofs.Common.{◌≡◌, ℕ, ◌+◌, List, [], ◌∷◌, Some, sym, ap, subst, ◌∙◌}
use lib.Dec.{T}
use Rattle.std.specs.Ordering.{is_lt}
use Rattle.std.specs.Cmp.Lexicographic.{nat_list_cmp_total}
use Rattle.std.specs.declared.cmp.Ordering.{Ordering}
use Rattle.std.specs.declared.cmp.Ordering.TheVariants.{Less}
use Rattle.std.specs.FinMap.{entries, entries-from_sorted, get-from_sorted, get-from_entries, from_sorted, same_map, is_sorted}
use Rattle.std.specs.FinMap.Entries.{below_all}
use Rattle.std.specs.List.{sum_by, AllByRecursion}
use Rattle.std.specs.List.Sorted.{IsStrictlySortedBy}
use Rattle.std.specs.Map.{keys_of}
use Rattle.std.specs.declared.vec.Vec.{Vec}
use Rattle.std.specs.declared.alloc.Global.{Global}
use Rattle.mc_protocol.specs.Plain.{Entry, Items, chunks_in, item_need, count_of}
use Rattle.mc_protocol.specs.Laws.{of_class}
use Rattle.mc_protocol.proofs.ItemLemmas.{bytes_cmp, exact}
use Rattle.mc_protocol.proofs.CountLemmas.{Pair, both, count-cons}
use Rattle.mc_command.specs.Items.{items_of}
use Rattle.mc_command.proofs.ItemLemmas.{Entries, key_cmp, pairs}

-- the entries of the items that a map's entries make
below_entries : (k : Vec ℕ Global) (es : Entries) → AllByRecursion (λ y. key_cmp k y ≡ Less) (keys_of es) → T (below_all bytes_cmp k.items (pairs es))
below_entries k [] h = tt
below_entries k (e ∷ es) h = both _ _ (subst (λ (o : Ordering). T (is_lt o)) (sym h.0) tt) (below_entries k es h.1)

sorted_entries : (es : Entries) → IsStrictlySortedBy key_cmp (keys_of es) → T (is_sorted bytes_cmp (pairs es))
unfolding IsStrictlySortedBy
sorted_entries [] h = tt
sorted_entries (e ∷ es) h = both _ _ (below_entries e.0 es h.0) (sorted_entries es h.1)

pub entries-items_of : (es : Entries) → IsStrictlySortedBy key_cmp (keys_of es) → entries (items_of es) ≡ pairs es
entries-items_of es h =
    let sorted = sorted_entries es h in
    let same : items_of es ≡ from_sorted (pairs es) =
    same_map nat_list_cmp_total exact _ _ (λ q. get-from_entries nat_list_cmp_total (pairs es) q ∙ sym (get-from_sorted bytes_cmp (pairs es) q sorted)) in
    ap (λ (m : Items). entries m) same ∙ entries-from_sorted bytes_cmp (pairs es) sorted

-- how many chunks of a class a map's entries have
abbrev pub entries_in_class : ℕ → Entries → ℕ
entries_in_class class es = sum_by (λ e. chunks_in (item_need e.0 e.1) class) (pairs es)

pub count-entries : (es : Entries) (class : ℕ) → IsStrictlySortedBy key_cmp (keys_of es) → count_of (items_of es) class ≡ entries_in_class class es
count-entries es class h = ap (λ (ps : List Pair). sum_by (λ e. chunks_in (item_need e.0 e.1) class) ps) (entries-items_of es h)

pub entries_in_class-cons : (class : ℕ) (e : Vec ℕ Global × Entry) (es : Entries) → entries_in_class class (e ∷ es) ≡ of_class e.0.items (Some e.1) class + entries_in_class class es
entries_in_class-cons class e es = count-cons class (e.0.items, e.1) (pairs es)
