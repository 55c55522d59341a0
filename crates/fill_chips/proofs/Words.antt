-- The words that the proofs of this crate have in common.
pub use Rattle.std.proofs.Common.{All, Bool, Err, IfOk, List, None, Ok, OnOk, Option, Result, Some, [], add-one, add-zero, ap, append_assoc, ap₂, arith, cond}
pub use Rattle.std.proofs.Common.{drop, drop-cons, eqb, false, get_or, get_or-set_other, get_or-set_same, inl, inr, leb, length, length-append, length-drop}
pub use Rattle.std.proofs.Common.{length-set, length-take, ltb, map, min, nat_eq, refl, rules, set, slice_get, slice_index, slice_index_or, subst, suc, sym}
pub use Rattle.std.proofs.Common.{take, true, unwrap_or, vec_len, zero, ℕ, ◌%◌, ◌&&◌, ◌*◌, ◌++◌, ◌+◌, ◌-◌, ◌/◌, ◌<◌, ◌^◌, ◌||◌, ◌∙◌, ◌∷◌, ◌≡◌, ◌≢◌, ◌≤◌}
pub use Rattle.std.proofs.Math.Seq.{take-add, take_all}
pub use Rattle.std.proofs.lemmas.Bool.{cases_eq, cases_lt}
pub use Rattle.std.proofs.lemmas.Bool.Decides.{nat_tests}
pub use Rattle.std.proofs.lemmas.List.{append-nil, drop-drop, drop_all, ext_get_or, get_or-map, get_or_append_left, get_or_past, get_or_read, length-map}
pub use Rattle.std.proofs.lemmas.List.{length_push, map-append, take_more}
pub use Rattle.std.proofs.lemmas.List.Elements.{All-append, All-cons, All-head, All-nil, All-tail}
pub use Rattle.std.proofs.lemmas.List.Sums.{count_by-le-length, sum_by-append, sum_by-cons, sum_by_more}
pub use Rattle.std.specs.Cmp.Lexicographic.{same_text}
pub use Rattle.std.specs.HashMap.{HashMap, get}
pub use lib.Pointwise.{pointwise}
pub use Rattle.air_kit.specs.ChipTuples.{chip_given}
unfoldable pub use Rattle.air_kit.specs.ChipTuples.{kernel_given, memory_ranges, range_given}
pub use Rattle.air_kit.specs.Places.{Claim}
unfoldable pub use Rattle.air_kit.specs.Places.{at_number, family}
pub use Rattle.air_kit.specs.Requests.{Fits, answers_on}
pub use Rattle.air_kit.specs.Traces.{HasCounts, rows_of, spot_of, value_at}
pub use Rattle.air_kit.specs.declared.requests.Perm.{Perm}
pub use Rattle.air_kit.specs.declared.requests.Requests.{Requests}
pub use Rattle.buses.proofs.Counting.{counted-append, counted-none, total-front}
pub use Rattle.buses.specs.Counts.{once, over_rows}
unfoldable pub use Rattle.buses.specs.Counts.{counted}
unfoldable pub use Rattle.facts_bitwise.specs.BitRows.{row_without, rows_of_bits}
pub use Rattle.facts_bitwise.specs.BitTables.{HasWords, HaveWords, ShowsOps}
unfoldable pub use Rattle.facts_hasher.specs.PermRows.{perm_row, rows_of_perms}
pub use Rattle.facts_memory.specs.MemoryTables.{AccessesFit, HasLimbs, HaveLimbs, IsSmallAccess, ShowsAccesses}
pub use Rattle.fill_chips.specs.KernelRows.{times_called, without}
unfoldable pub use Rattle.fill_chips.specs.KernelRows.{kernel_rows}
pub use Rattle.fill_chips.specs.MemoryLimbs.{AreRowsOf, HasNoFirstStep, limbs_of_access}
unfoldable pub use Rattle.fill_chips.specs.MemoryLimbs.{limbs_in}
pub use Rattle.fill_chips.specs.RangeRows.{AreTimes, allowed_steps, times_asked}
unfoldable pub use Rattle.fill_chips.specs.RangeRows.{next_asked, range_row, range_rows, rows_from, step_within, value_behind}
pub use Rattle.fill_chips.specs.Rounds.{states_of}
pub use Rattle.perm_memo.specs.RoundStates.{round_states}
pub use Rattle.pieces.proofs.CutLemmas.{cut_ends, cut_grows, cut_starts}
pub use Rattle.pieces.specs.Cuts.{cut_at}
pub use Rattle.rpo_hash.specs.States.{IsState}
pub use Rattle.vm_field.specs.Machine.{IsWord}
pub use Rattle.vm_field.specs.Signs.{◌⊟◌, ◌⊠◌}
pub use Rattle.vm_ops.specs.Values.{bit_of}
