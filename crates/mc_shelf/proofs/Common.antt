-- The names that the proofs of this crate share: those of the crates below it, and of its own definitions.
pub use Rattle.mc_grow.specs.Indexes.{cells, count, count_from, entry_at, IndexState, is_due, IsFirstFrom, IsFoundIn, IsNew, IsNext, IsPlaceOf, IsUpdated, KeepsLower, lags, left, StandsAs}
pub use Rattle.mc_grow.specs.declared.index.Place.{Place}
pub use Rattle.mc_hop.specs.Cells.{filled}
pub use Rattle.mc_hop.specs.Contents.{content, rows}
pub use Rattle.mc_item.specs.Items.{charge_of, pieces}
pub use Rattle.mc_protocol.proofs.CountLemmas.{count-empty, count-insert, count-parted, count-remove}
pub use Rattle.mc_protocol.proofs.LawLemmas.{on_key, other_keys}
pub use Rattle.mc_protocol.specs.Commands.{key_of}
pub use Rattle.mc_protocol.specs.Laws.{IsOnKey, of_class}
pub use Rattle.mc_protocol.specs.Plain.{alive, Answered, block_need, block_of, changed, charge, chunks_in, CopiesBlock, count_of, Entry, expiring, flushed, has_room, hit_of, item_need}
pub use Rattle.mc_protocol.specs.Plain.{Items, keeps_chunk, living, MayFail, number_of, Outcome, plain, Plain, refusal_reply, row_of, Spent, starting, with_chunk, without_dead, write_reply}
pub use Rattle.mc_protocol.specs.Plain.{written, written_block, wrote}
pub use Rattle.mc_protocol.specs.declared.reply.Reply.{Reply}
pub use Rattle.mc_protocol.specs.declared.reply.Reply.TheVariants.{Deleted, Flushed, NoChunk, TooLarge, Touched}
pub use Rattle.mc_protocol.specs.declared.row.Body.{Body}
pub use Rattle.mc_protocol.specs.declared.row.Body.TheVariants.{Appended, Counted, Given, Prepended}
pub use Rattle.mc_protocol.specs.declared.row.Row.{Row}
pub use Rattle.mc_protocol.specs.declared.row.Row.TheVariants.{Deletes, Reads, Refuses, Touches, Writes}
pub use Rattle.mc_protocol.specs.declared.step.KeyStep.{KeyStep}
pub use Rattle.mc_protocol.specs.declared.step.StepFault.{StepFault}
pub use Rattle.mc_protocol.specs.declared.step.StepFault.TheVariants.{NumbersSpent}
pub use Rattle.mc_shelf.specs.Asides.{all_out, AreCollected, AreOff, count_in, LieAside, seen, Suffices}
pub use Rattle.mc_shelf.specs.Counts.{CaughtUp, counts_in, counts_of, DropsAlone, KeepsTable, MovesFew}
pub use Rattle.mc_shelf.specs.Deaths.{DieNoSooner, DiesNoSooner, NoneIsDead}
pub use Rattle.mc_shelf.specs.KeyMaps.{entries_in, EntriesAreKeyed, EntryMap, hash_in, hashes_in, IsHashOf, items_in, key_in, StandsIn}
pub use Rattle.mc_shelf.specs.Numbers.{HasPlaces, KeysAreCounted}
pub use Rattle.mc_shelf.specs.Parts.{ArePartsOf, GoesByStep, GoesTo, IsDeskOf, IsShelfOf, shelf_of}
pub use Rattle.mc_shelf.specs.Places.{entries_of, hashes_of, IsKeyAt, IsKeyFound, ItemIsChanged, items_of, KeyComes, KeyGoes}
pub use Rattle.mc_shelf.specs.Plans.{answered, back_at, block_beside, block_in, CanWrite, counts, dead_chunks, gives_way, GivesBack, GoesOver, has_need, is_gone, IsDropped, IsKnown}
pub use Rattle.mc_shelf.specs.Plans.{IsOut, IsPut, IsSpent, item_in, item_of, left_of, made_block, NeedsPages, next_by, next_of, PlanIsSettled, row_at, StepTaken, stood, wants_desk, WantsDesk}
pub use Rattle.mc_shelf.specs.Plans.{with_item, written_next}
pub use Rattle.mc_shelf.specs.States.{CanStandAt, DeskState, EntryState, Hashes, IsHash, nothing_held, parts_of, ShelfContent, ShelfState, StandsAt}
pub use Rattle.mc_shelf.specs.Stores.{FewMoveAt, NoneRises}
pub use Rattle.mc_shelf.specs.Sweeps.{count_among, GivesFor, IsPurged}
pub use Rattle.mc_shelf.specs.Unions.{lefts, plain_of}
pub use Rattle.mc_shelf.specs.declared.counts.ShelfCounts.{ShelfCounts}
pub use Rattle.mc_shelf.specs.declared.plan.Action.{Action}
pub use Rattle.mc_shelf.specs.declared.plan.Action.TheVariants.{Answer, Discard, Expire, Left, Write}
pub use Rattle.mc_sizes.specs.declared.settings.Settings.{Settings}
pub use Rattle.mc_shelf.specs.declared.soonest.Soonest.{Soonest}
pub use Rattle.mc_slab.proofs.ClassLemmas.{chunks_a_page-least, length-chunk_sizes, size_of-last}
pub use Rattle.mc_slab.specs.Chunks.{AreChunks, AreChunksOf, ChunksState, need_in}
pub use Rattle.mc_slab.specs.Classes.{chunks_a_page, class_holding, IsClass, size_of}
pub use Rattle.mc_slab.specs.Needs.{IsNeed, need_for, NeedState, same_need, size_in}
pub use Rattle.mc_slab.specs.Slabs.{full_fault, given, has_room_with, IsFull, IsSlab, made_ready, out_of, pages_of, pages_wanted, Readies, SlabState, taken, Takes, TellsFull, untouched}
pub use Rattle.mc_slab.specs.Slabs.{unused, WantsPages}
pub use Rattle.mc_slab.specs.declared.slab.TakeFault.{TakeFault}
pub use Rattle.mc_time.specs.Death.{is_dead, moment_named}
pub use Rattle.mc_time.specs.declared.expiry.Expiry.{Expiry}
pub use Rattle.std.proofs.Common.{[], ⊎_elim, ◌%◌, ◌&&◌, ◌*◌, ◌++◌, ◌+◌, ◌-◌, ◌/◌, ◌<◌, ◌==◌, ◌^◌, ◌||◌, ◌↔◌, ◌∙◌, ◌∷◌, ◌≡◌, ◌≢◌, ◌≤◌, ◌⊎◌, ap, arith, Bool, cond, drop, eqb, eqb-true, Equal}
pub use Rattle.std.proofs.Common.{Err, false, get_or, Greater, IfOk, if◌then◌else◌, inl, inr, is_eq, is_none, is_some, le-ltb, leb, length, length-append, Less, List, lt-ltb, ltb, map, None}
pub use Rattle.std.proofs.Common.{not, Ok, Option, Ordering, refl, replicate, Result, rules, set, slice_index, slice_set, Some, subst, suc, sym, take, true, vec_capacity, vec_len, zero, ℕ}
pub use Rattle.std.proofs.Math.Seq.{drop-nil, take-append_seam}
pub use Rattle.std.proofs.lemmas.Bool.{and_parts, and_right, cases_Bool, cases_eq, cases_lt, cases_order, cond-false, cond-true, cond_both, eq-eqb, eqb-false, false_from_ne_true, le-leb}
pub use Rattle.std.proofs.lemmas.Bool.{leb-false, leb-true, ltb-false, ltb-true, ne_eqb, or_from, or_left, or_right, true≢false}
pub use Rattle.std.proofs.lemmas.List.{drop_more, get_or-replicate, get_or-set_other, get_or-set_same, length-map, length-replicate, length-set, length-take-le, map-set, set-get_or}
pub use Rattle.std.proofs.lemmas.Option.{get_or_from_slice_get, IfSome_then, none-some, same_Some, slice_get-map, slice_get_read, slice_get_within}
pub use Rattle.std.specs.Cmp.{tied_itself}
pub use Rattle.std.specs.Cmp.Lexicographic.{nat_list_cmp_total}
pub use Rattle.std.specs.FinMap.{empty, empty_of_len, entries, entries_sorted, find, FinMap, from_entries, get, get-empty, get-entries, get-from_entries, get-insert, get-remove, insert}
pub use Rattle.std.specs.FinMap.{is_sorted, len, len-empty, len-entries, len-insert, len-remove, remove, retain_keys}
pub use Rattle.std.specs.List.{concat, list_all, position_or_len, range_with_len}
pub use Rattle.std.specs.Option.{option_copied, option_map, option_or}
pub use Rattle.std.specs.Ordering.{eq_by_cmp}
