-- The words that the proofs of this crate have in common.
pub use Rattle.std.proofs.Common.{All, Bool, List, None, Option, Some, [], ap, ap₂, arith, cond, drop, false, inl, inr, length, lit<, map, nat_eq, option_map}
pub use Rattle.std.proofs.Common.{refl, slice_get, slice_index, slice_index_or, subst, suc, sym, true, unwrap_or, zero, ℕ, ⊎_elim, ◌%◌, ◌&&◌, ◌*◌, ◌+◌, ◌-◌}
pub use Rattle.std.proofs.Common.{◌/◌, ◌<◌, ◌==◌, ◌^◌, ◌∙◌, ◌∷◌, ◌≡◌, ◌≢◌, ◌≤◌, ◌⊎◌}
pub use Rattle.std.proofs.lemmas.Bool.{and_left, and_parts, and_right, cases_Bool, cases_lt, cases_order, eq-eqb, eqb-true, ne_eqb}
pub use Rattle.std.proofs.lemmas.List.{ext_get_or, get_or-map, get_or_default, get_or_past, length-map}
pub use Rattle.std.proofs.lemmas.List.Elements.{All-cons, All-nil, Contains-get_or}
pub use Rattle.std.proofs.lemmas.List.Sorted.{All-permutation, Contains-permutation, IsPermutation-sym, length_permutation, sum_by-IsPermutation}
pub use Rattle.std.proofs.lemmas.List.Sums.{get_or-le-sum_by, sum_by-cons}
pub use Rattle.std.proofs.lemmas.Option.{slice_get-get_or, slice_get_past, slice_get_within}
pub use Rattle.std.specs.List.{Contains, sum_by}
pub use Rattle.std.specs.List.Sorted.{IsNonDecreasingBy, IsPermutation}
unfoldable pub use Rattle.air_kit.specs.MemoryValues.{access_values, entry_1, entry_5, goes_on_here, memory_values, order_step, step_of, word_values}
unfoldable pub use Rattle.air_kit.specs.Places.{at_number, family}
pub use Rattle.air_kit.specs.Requests.{FitsMemory, IsEarlier, IsWordBefore, access_given, last, never}
pub use Rattle.air_kit.specs.Traces.{spot_of}
pub use Rattle.air_kit.specs.declared.requests.Access.{Access}
pub use Rattle.buses.proofs.Counting.{total-front, tuple-same}
pub use Rattle.facts_memory.specs.AccessRows.{new_address, new_context, rows_of_accesses, step_behind}
unfoldable pub use Rattle.facts_memory.specs.AccessRows.{row_behind, rows_behind}
pub use Rattle.facts_memory.specs.Accesses.{Keeps, access_key, access_of, is_at, word_behind}
pub use Rattle.facts_memory.specs.MemoryTables.{AccessesFit, AreOrdered, AreSmall, HasLimbs, HaveLimbs, IsSmallAccess, MemoryIsZero, ShowLatest}
pub use Rattle.facts_memory.specs.MemoryTables.{ShowsAccesses, access_at, access_before}
pub use Rattle.facts_memory.specs.Serving.{AreAsked, AreAsks, ArePaired, AreServed, GivesAsks, HasRow, asked_of, memory_behind}
unfoldable pub use Rattle.facts_memory.specs.Serving.{memory_before}
pub use Rattle.vm_field.proofs.Elements.{elements-index, word-again, word-of}
pub use Rattle.vm_field.specs.Field.{felt_add, felt_mul, felt_sub, prime}
pub use Rattle.vm_field.specs.Machine.{IsWord, WordMap, place_cmp, word_at, zero_word}
pub use Rattle.vm_table.specs.Layout.{IsTable, row_at}
