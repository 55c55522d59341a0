-- The words that the proofs of this crate have in common.
pub use Rattle.std.proofs.Common.{Bool, List, None, Ok, Option, Some, [], ap, append-nil, ap₂, arith, bit_and, bit_xor, cond, drop, eqb, false, inl, inr}
pub use Rattle.std.proofs.Common.{length, lit<, lit≤, map, nat_lt, not, refl, reverse, slice_index, subst, suc, sym, take, true, unwrap_or, zero, ℕ, ⊎_elim}
pub use Rattle.std.proofs.Common.{◌%◌, ◌&&◌, ◌*◌, ◌++◌, ◌+◌, ◌-◌, ◌/◌, ◌<◌, ◌^◌, ◌||◌, ◌∙◌, ◌∷◌, ◌≡◌, ◌≢◌, ◌≤◌, ◌⊎◌}
pub use Rattle.std.proofs.lemmas.Bool.Decides.{nat_tests}
pub use Rattle.std.proofs.lemmas.Grind.{same_number_lists}
pub use Rattle.std.proofs.lemmas.List.{get_or-take, get_or_append_left, length-append, length-drop, length-take-le, nil_from_length, reverse-reverse}
pub use Rattle.std.proofs.lemmas.List.{take-append-drop}
pub use Rattle.std.proofs.lemmas.Nat.{and_comm, xor_comm}
pub use Rattle.air_kit.specs.Flags.{is_left, is_op, is_right, is_shift}
pub use Rattle.air_kit.specs.MainTuples.{count_of_limbs, is_call_op, row_shifts_left, twelve}
pub use Rattle.air_kit.specs.RowStates.{Elsewhere, memory_behind, state_of, taken_by, written_by}
pub use Rattle.air_kit.specs.StackValues.{is_free}
unfoldable pub use Rattle.air_kit.specs.StackValues.{cells, function_digest, left_value, seen_of}
unfoldable pub use Rattle.air_kit.specs.U32Values.{limbs, two_left}
pub use Rattle.facts_main.proofs.BlockFacts.{Low}
pub use Rattle.facts_main.proofs.Says.{either_or, never, none_is, off}
pub use Rattle.facts_main.specs.Limbs.{IsLimbRow, MovesLimbs, has_high_word, has_second, has_third}
pub use Rattle.facts_main.specs.Stack.{IsStackRow, LeavesCells, MovesDepth, ShiftsCells, keeps_stack, mover, tests_top, tests_two}
pub use Rattle.facts_steps.specs.Filling.{FilledBy, FillsRows, ShowsState, elsewhere_of, halves, limbs_filled}
pub use Rattle.facts_steps.specs.Joined.{GoesOnBy, IsRowOf, ShiftsBelow, item_of}
pub use Rattle.facts_steps.specs.Lookups.{LooksUpBits, LooksUpLimbs, LooksUpWord, Lookups, is_bitwise, word_before}
pub use Rattle.facts_steps.specs.Showing.{IsPlace, ShowsStep}
pub use Rattle.vm_field.proofs.Inverses.{felt_mul-felt_inv}
pub use Rattle.vm_field.specs.Field.{AreElements, felt_add, felt_mul, felt_sub, prime}
unfoldable pub use Rattle.vm_field.specs.Field.{felt_inv}
pub use Rattle.vm_field.specs.Limits.{number_of_constants}
pub use Rattle.vm_field.specs.Machine.{IsWellFormed, IsWord, State, WordMap, word_at}
pub use Rattle.vm_ops.proofs.ShownLemmas.{computed-shown, trap_of-shown}
pub use Rattle.vm_ops.proofs.StepLemmas.{step-depth, step-goes, stepped}
pub use Rattle.vm_ops.specs.Codes.{accesses_memory, is_ordinary_op, is_start_op, reads_elsewhere}
pub use Rattle.vm_ops.specs.Items.{IsOrdinaryItem}
pub use Rattle.vm_ops.specs.Moves.{leaves_of, shift_of, sources_of, takes_of}
pub use Rattle.vm_ops.specs.Sizes.{IsSeenBy}
pub use Rattle.vm_ops.specs.Step.{memory_with, step}
unfoldable pub use Rattle.vm_ops.specs.Step.{left_cells, stack_after}
pub use Rattle.vm_ops.specs.Stepping.{ShowTheSame, Stepped, seen_at, state_after}
pub use Rattle.vm_ops.specs.Values.{Seen, advice_of, bit_of, cell, fmp_after, or_else, unless, written}
unfoldable pub use Rattle.vm_ops.specs.Values.{computed, trap_of}
pub use Rattle.vm_ops.specs.declared.cause.Cause.{Cause}
pub use Rattle.vm_ops.specs.declared.item.Item.{Item}
pub use Rattle.vm_ops.specs.declared.op.Op.{Op}
pub use Rattle.vm_ops.specs.declared.op.Op.TheVariants as ops
pub use Rattle.vm_ops.specs.declared.op.Shift.{Shift}
pub use Rattle.vm_ops.specs.declared.op.Shift.TheVariants.{Left, Right, Stay}
pub use Rattle.vm_table.specs.MainColumns.{addr, clk, ctx, depth, f, fmp, h, inv, lv, s, sys, t, w}
