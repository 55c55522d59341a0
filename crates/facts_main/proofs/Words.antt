-- The words that the proofs of this crate have in common.
pub use Rattle.std.proofs.Common.{Bool, List, None, Option, Some, [], ap, ap₂, arith, cond, drop, eqb, false, inl, inr, length, lit<, lit≤, nat_le, nat_lt}
pub use Rattle.std.proofs.Common.{not, refl, slice_index, subst, suc, sym, take, true, zero, ℕ, ⊎_elim, ◌%◌, ◌&&◌, ◌*◌, ◌++◌, ◌+◌, ◌-◌, ◌<◌, ◌^◌, ◌||◌, ◌↔◌}
pub use Rattle.std.proofs.Common.{◌∙◌, ◌∷◌, ◌≡◌, ◌≢◌, ◌≤◌, ◌⊎◌}
pub use Rattle.std.proofs.lemmas.Bool.{cases_Bool, eqb-true}
pub use Rattle.std.proofs.lemmas.Bool.Decides.{nat_tests}
pub use Rattle.air_kit.proofs.FlagLemmas.{at_op, flags_of-hot, has_op, has_op-op_of, sum_of-hot, sum_over-hot}
unfoldable pub use Rattle.air_kit.specs.DynValues.{dyn_values, entry_148}
pub use Rattle.air_kit.specs.Flags.{Flags, HasOp, flag, flags_of, is_left, is_op, is_right, one_hot, op_of, sum_of, sum_over}
unfoldable pub use Rattle.air_kit.specs.Flags.{spelled}
pub use Rattle.air_kit.specs.MainTuples.{is_batch_op, is_call_op, row_shifts_left}
unfoldable pub use Rattle.air_kit.specs.MainTuples.{positions}
unfoldable pub use Rattle.air_kit.specs.MainValues.{decoder_values, main_values}
unfoldable pub use Rattle.air_kit.specs.OpcodeValues.{entry_1, entry_10, entry_8, entry_9, opcode_values}
pub use Rattle.air_kit.specs.Places.{Claim, PairEntry, RowEntry, Spot, at_end, at_first, at_last, between, on_pair, on_row}
unfoldable pub use Rattle.air_kit.specs.Places.{at_number, family}
unfoldable pub use Rattle.air_kit.specs.StackValues.{stack_values}
unfoldable pub use Rattle.air_kit.specs.U32Values.{u32_values}
pub use Rattle.facts_main.specs.Batches.{IsBatchRow, NeedsPositions, OpensBatch, ShowsBatch, UsesHalf}
pub use Rattle.facts_main.specs.Blocks.{IsBlockRow, IsEndRow, KeepsBatch, KeepsBlock, ends_call, keeps_digest}
pub use Rattle.facts_main.specs.Bounds.{IsFirstRow, IsLastRow, IsLowClaim, StartsRun}
pub use Rattle.facts_main.specs.Dynamic.{IsDynRow}
pub use Rattle.facts_main.specs.Follows.{may_follow}
pub use Rattle.facts_main.specs.Groups.{GoesOn, IsGroupRow, ends, opens, pushes, stays}
pub use Rattle.facts_main.specs.MainRows.{MainIsZero, ShowsPair, ShowsRow, ShowsRows, op_in}
pub use Rattle.facts_main.specs.RowFacts.{HasOps, IsAtSpot, IsPair, IsRow, ReadsAs}
pub use Rattle.facts_main.specs.Stack.{IsStackRow, LeavesCells, MovesDepth, ShiftsCells, ShowsStack, keeps_stack, mover, tests_top, tests_two}
pub use Rattle.facts_main.specs.Zero.{AllZero}
pub use Rattle.vm_field.specs.Field.{AreElements, felt_add, felt_inv, felt_mul, felt_sub, prime}
pub use Rattle.vm_field.specs.Limits.{most_inputs, most_outputs}
pub use Rattle.vm_ops.specs.Codes.{code_of, every_op, is_ordinary_op, is_start_op}
unfoldable pub use Rattle.vm_ops.specs.Step.{left_cells}
pub use Rattle.vm_ops.specs.declared.op.Op.{Op}
pub use Rattle.vm_table.specs.MainColumns.{addr, b, c, clk, ctx, depth, f, fmp, gc, h, ha, inv, key, lv, ox, s, sp, sys, t, w}
