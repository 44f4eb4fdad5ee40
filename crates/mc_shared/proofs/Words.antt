-- The words that most proofs here speak in, passed on under one name.
pub use Rattle.mc_shared.specs.History.{start_of, Beginning, Stepped, HistoryEntry, after, Operation, next, IsLegal, left_by, IsRight, Purged, Name, shelf_in}
pub use Rattle.mc_protocol.specs.Plain.{Plain, Entry, plain, Answered, flushed, alive, Outcome, changed, without_dead, Items, Spent, stepped, row_of, standing, hit_of, count_of, item_need}
pub use Rattle.mc_protocol.specs.Plain.{written, with_chunk, block_need, keeps_chunk, given, expiring, write_reply, written_block, block_of, MayFail, living}
pub use Rattle.mc_shared.specs.Past.{Past, KeptBy, Whole, call, spent, held, start, made, both, same, Lives, callers, name_of, makes, Ordered, numbered, called_by, child, count_made}
pub use Rattle.mc_shared.specs.Past.{count_calls, Sound}
pub use Rattle.mc_shelf.specs.States.{ShelfState, DeskState, ShelfContent, parts_of, StandsAt, CanStandAt, nothing_held, stored}
pub use Rattle.mc_shared.specs.Sums.{total}
pub use Rattle.std.specs.FinMap.{get, get-empty, empty, len, retain_keys, empty_of_len, entries, entries-from_sorted, entries_sorted, from_sorted, get-entries, get-from_sorted, get-remove}
pub use Rattle.std.specs.FinMap.{is_sorted, len-empty, len-entries, len-remove, remove}
pub use mathlib.Core.Logic.{dite}
pub use native.Mathlib.Decide.{ℕ_discrete}
pub use Rattle.mc_shared.specs.View.{SeatView, starting}
pub use Rattle.mc_shared.specs.Steps.{Mine, entry_of, Agrees, holding, decided_by, Decides, loaded, Counts, MayCount, AreKeys, Fitted, HoldsThis, next_name, Slot, without, BelongsAt}
pub use Rattle.mc_shared.specs.Steps.{HoldsLast, MayAdd, HasTaken, HasDecided, newcomer, met, Shows, took, gave, decided, added, counted, sought, called, gone, lowered, maker}
pub use Rattle.mc_protocol.specs.Commands.{key_of}
pub use Rattle.mc_shared.specs.Bays.{OfShelf, content_of, place, Content, OfDesk}
pub use Rattle.mc_shelf.specs.Parts.{ArePartsOf, IsShelfOf, GoesTo, shelf_of, IsDeskOf, GoesByStep, GoesWithoutDesk}
pub use Rattle.mc_shared.specs.Presence.{word_of, words_with}
pub use Rattle.mc_shared.specs.Rule.{Kept, AllFit, holds_bay, FitsBay, times, named, Story, KeepsLimits, Named, Stocked, AreFirst, Present, IsHeldWord}
pub use mathlib.Core.Option.{none, some, some-ne-none, some-injective}
pub use Rattle.mc_shared.specs.Stacks.{holds_all, stacked, hollow, stacked_on}
pub use Rattle.atomic_table.specs.Table.{step, Allows, rest, opening, Act, Joins, Splits, State, Valid, carried_after, gives, keeps, takes}
pub use Rattle.mc_protocol.specs.declared.step.KeyStep.{KeyStep}
pub use Rattle.mc_protocol.specs.declared.reply.Reply.{Reply}
pub use Rattle.mc_shelf.proofs.KeyLemmas.{order, get_kept, get_put, get_gone, same_maps, same_key}
pub use Rattle.mc_shelf.specs.Numbers.{number_of, keys_with, AreHashes, HasPlaces, KeysAreCounted}
pub use Rattle.mc_shared.specs.Shown.{SharedState, CallerState}
pub use lib.ListN.{get_elem?}
pub use Rattle.mc_protocol.specs.declared.step.KeyStep.TheVariants.{Read, Flush, ReadTouch, Cas, Delete}
pub use Rattle.mc_shared.specs.Store.{holds_one, with_call, IsShown, Refuses, CanCome, MayFailAfter, holds_two, shelf_slot, spaced, HasCalled, IsSpentAfter, desk_slot, slot_alone}
pub use Rattle.mc_shared.specs.Seats.{MayDecide, Sitter, IsTableOf, IsAnswered, Rests, IsAlive, IsSeatOf, SameSeat}
pub use Rattle.mc_shelf.specs.Stores.{StoreState, IsSetUp}
pub use Rattle.mc_shared.specs.Holds.{HoldsShelf, IsAsked, HoldsBoth, caller_at}
pub use Rattle.mc_shared.specs.declared.bay.Bay.{Bay}
pub use Rattle.mc_shared.specs.declared.bay.Bay.TheVariants.{Desk, Shelf}
pub use Rattle.mc_shared.specs.Spread.{spread, keys_in}
pub use Rattle.mc_shelf.specs.Bare.{IsBare}
pub use Rattle.mc_protocol.specs.declared.reply.Reply.TheVariants.{Stored, Hit, Flushed, Number, Miss}
pub use Rattle.mc_time.specs.declared.expiry.Expiry.{Expiry}
pub use Rattle.mc_shared.specs.Counted.{AreAllOf, AreCountsBy, AreCountsOfAll, AreCountsOf, AreKeyCounts, AreNone}
pub use Rattle.std.specs.List.{All, concat}
pub use Rattle.mc_time.specs.Death.{expiry_of, is_dead, moment_named}
pub use Rattle.mc_protocol.specs.declared.row.Row.TheVariants.{Reads, Touches, Deletes, Writes}
pub use Rattle.std.proofs.lemmas.Option.{none-some, slice_get-get_or, get_or_from_slice_get, slice_get_within}
pub use Rattle.mc_shelf.specs.Plans.{is_gone, PlanIsSettled, IsPlan, IsSpent, MayWantMemory, NeedsPages, StepTaken, finished, stood, told_next}
pub use Rattle.mc_protocol.specs.declared.step.StepFault.{StepFault}
pub use Rattle.mc_protocol.specs.declared.step.StepFault.TheVariants.{NoMemory, NumbersSpent}
pub use Rattle.std.proofs.lemmas.List.{append-nil, get_or-replicate, length-replicate, take_all, take_more}
pub use prog.Atomic.{either}
pub use Rattle.atomic_table.proofs.Lists.{at_set, set_here, at_snoc, exchanged, set_again, set_else}
pub use Rattle.mc_protocol.specs.declared.row.Row.{Row}
pub use Rattle.mc_protocol.proofs.LawLemmas.{found-next}
pub use Rattle.mc_protocol.specs.declared.row.Body.TheVariants.{Counted}
pub use Rattle.std.proofs.lemmas.Nat.{same_from_place, mul-add-lt, div_below, mod_below}
pub use Rattle.atomic_table.specs.Seated.{TableId}
pub use Rattle.std.specs.Prelude.{not, IfSome, option_to_list}
pub use Rattle.mc_shared.specs.Close.{IsAfter, Gathered}
pub use Rattle.mc_shelf.proofs.PartLemmas.{goes_without_desk, goes_by_step, put_cases}
pub use Rattle.mc_sizes.specs.declared.settings.Settings.{Settings}
pub use Rattle.std.proofs.Common.{Bool, Equal, Err, Greater, IfErr, IfOk, Less, List, None, Ok, OnErr, Option, Result, Some, [], ap, append_assoc, arith, cond, div-add-mod', drop}
pub use Rattle.std.proofs.Common.{eq-eqb, eqb, false, get_or, get_or-set_other, get_or-set_same, if◌then◌else◌, inl, inr, is_none, is_some, length, length-set, map, mod-lt, ne_eqb, refl}
pub use Rattle.std.proofs.Common.{replicate, rules, set, slice_get, slice_index, slice_set, subst, suc, sym, take, true, true≢false, vec_capacity, vec_len, zero, ℕ, ⊎_elim, ◌%◌, ◌*◌, ◌++◌}
pub use Rattle.std.proofs.Common.{◌+◌, ◌-◌, ◌/◌, ◌<◌, ◌==◌, ◌^◌, ◌||◌, ◌∙◌, ◌∷◌, ◌≡◌, ◌≢◌, ◌≤◌, ◌⊎◌}
pub use Rattle.mc_protocol.specs.Laws.{IsOnKey}
pub use Rattle.mc_shared.specs.Decisions.{operation_of, still_of, surplus_of}
pub use Rattle.mc_shared.specs.Emptied.{AreEmptied, IsEmptied, IsFresh}
pub use Rattle.mc_shared.specs.Survey.{AreCountsAfter, IsAccountAfter}
pub use Rattle.mc_shared.specs.Telling.{AreLentParts, CameOfRead, IsDelivered, IsLentPart, IsTold}
pub use Rattle.mc_shared.specs.declared.ask.Ask.{Ask}
pub use Rattle.mc_shelf.proofs.FlushLemmas.{AreFlushedTo, flushed_all, flushed_more, flushed_none, out_before}
pub use Rattle.mc_shelf.specs.Counts.{counts_of}
pub use Rattle.mc_shelf.specs.Hits.{found_of, is_read}
pub use Rattle.mc_slab.specs.Classes.{IsClass, size_of}
pub use Rattle.mc_slab.specs.Slabs.{out_of, pages_of}
pub use Rattle.std.proofs.lemmas.List.Elements.{All-pop, All-push}
