-- The words that proofs of an index cite.
pub use Rattle.std.proofs.Common.{◌≡◌, ℕ, ◌+◌, ◌-◌, ◌<◌, ◌≤◌, ◌⊎◌, List, ◌∷◌, ◌++◌, Option, Some, None, map, drop, length, get_or, set, refl, sym, ap, subst, ◌∙◌, arith, ◌≢◌, zero, suc, []}
pub use Rattle.std.proofs.Common.{cond, replicate, is_some, not, ◌&&◌, Bool, true, false, true≢false, inl, inr, if◌then◌else◌, take, add-one, ◌^◌, ◌/◌, length-append, length-set, ⊎_elim}
pub use Rattle.std.proofs.Common.{◌*◌, ◌%◌, rules, le_refl}
pub use Rattle.std.proofs.Math.Nat.{pow-succ', pow-le-pow_right}
pub use Rattle.std.proofs.Math.Seq.{drop-append-add, drop-cons, take-suc, drop-nil}
pub use Rattle.std.proofs.lemmas.Bool.{cases_lt, cases_eq, lt-ltb}
pub use Rattle.std.proofs.lemmas.List.{get_or_append_left, get_or-append_right, get_or-set_other, drop-map, length-drop, ext_get_or, get_or-map, length-map, length_push, set-get_or}
pub use Rattle.std.proofs.lemmas.List.{append-nil, take_all, get_or_past, get_or-append-add, set-append_left, set-append_right, get_or_push, get_or_read, map-append, map-set, append_assoc}
pub use Rattle.std.proofs.lemmas.Option.{none-some}
pub use Rattle.std.specs.Cmp.Lexicographic.{nat_list_cmp_total, slice_cmp}
pub use Rattle.std.specs.FinMap.{remove, get, len, len-insert, insert, get-empty}
pub use Rattle.std.specs.List.{swap_remove, SwappedAt}
pub use Rattle.std.specs.Option.{option_or}
pub use Rattle.std.specs.Prelude.{slice_get, nat_lt}
pub use Rattle.mc_hop.proofs.ContentLemmas.{Map, content-over, content-remove, remove-insert, at_its_key, head_of, tail_of, at_a_key, content-back, gone_after, order}
pub use Rattle.mc_hop.proofs.LawLemmas.{apart_parts, joined_parts, many_entries, no_entries, same_entries, entry_absent, entry_found, get_joined, apart_joined, joined_first, joined_second}
pub use Rattle.mc_hop.proofs.LawLemmas.{absent_of}
pub use Rattle.mc_hop.proofs.ListLemmas.{filled_inside, get-others, get-swapped, reads, same_Some, in_first, swapped}
pub use Rattle.mc_hop.proofs.TableLemmas.{apart-changed, apart-taken}
pub use Rattle.mc_hop.specs.Cells.{filled}
pub use Rattle.mc_hop.specs.Contents.{content, AreDisjoint}
pub use Rattle.mc_hop.specs.Links.{IsSwapped}
pub use Rattle.mc_hop.specs.Tables.{AreApart, HopState, KeepsKey, with_bucket, HasEntry, IsAt, IsAbsent, home_in}
pub use Rattle.mc_grow.specs.Adding.{AreMoved, AreTaken, AreTried, Side, cells_of, side_of, AreAdded, IsAdded, IsCrowded, beside}
pub use Rattle.mc_grow.specs.Indexes.{IndexState, IsRemoved, IsUpdated, cells, entry_at, left, IsPlaceOf, count, holds, IsFirstFrom, count_from, binary_digits, digits_in, most_reads}
pub use Rattle.mc_grow.specs.Moving.{HoldsAll, IsIn, IsTried, IsTaken}
pub use Rattle.mc_grow.specs.Parts.{IsChanged, drained_items, IsFirstFilled, NoneFilledFrom, NoneFilled}
pub use Rattle.mc_grow.specs.Strays.{IsBefore, IsGap, IsListed, IsOrder, forgotten, key_by, keys_in, StraysState}
pub use Rattle.mc_grow.specs.declared.index.Place.{Place}
