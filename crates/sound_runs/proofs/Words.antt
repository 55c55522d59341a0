-- The words that the proofs of this crate have in common.
pub use Rattle.std.proofs.Common.{Bool, List, None, Some, [], ap, ap₂, arith, cond, drop, eqb, false, inl, inr, length, length-drop, lit<, lit≤, max, refl}
pub use Rattle.std.proofs.Common.{slice_index, subst, suc, sym, take, true, zero, ℕ, ◌&&◌, ◌++◌, ◌+◌, ◌-◌, ◌<◌, ◌^◌, ◌||◌, ◌∙◌, ◌∷◌, ◌≡◌, ◌≢◌, ◌≤◌}
pub use Rattle.air_kit.specs.DeepCells.{deep_at_start, depth_at_start}
pub use Rattle.air_kit.specs.Flags.{is_left, is_op, is_right}
pub use Rattle.air_kit.specs.Hashes.{computation_at}
pub use Rattle.air_kit.specs.MainTuples.{back, called_digest, domain_of, eight, front, is_batch_op, is_call_op, row_shifts_left, twelve}
pub use Rattle.air_kit.specs.Places.{Claim}
pub use Rattle.air_kit.specs.RowStates.{Overflow, elsewhere_at, memory_behind, row_returns, state_at, taken_by, written_by}
unfoldable pub use Rattle.air_kit.specs.RowStates.{memory_at, overflow_at, tape_of}
unfoldable pub use Rattle.air_kit.specs.StackValues.{cells, function_digest}
pub use Rattle.air_kit.specs.Traces.{claim_of}
pub use Rattle.block_tree.proofs.Parts.{seq-done, skip-done, taking-done, taking-ok}
pub use Rattle.block_tree.proofs.Refinement.{keep-execution, refines-digest}
pub use Rattle.block_tree.specs.Cycles.{Do, End, EndCall, EndLoop, EndSpan, EndSyscall, Mark, Repeat, Respan, StartCall, StartDyn, StartJoin, StartLoop}
pub use Rattle.block_tree.specs.Cycles.{StartSpan, StartSplit, StartSyscall, advice_taken, called_word, effect_of, frame_of, top}
pub use Rattle.block_tree.specs.Execution.{Done, Part, at_bit, batches_from, cycle, event_of, execution, operations, read_operations, seq, skip, turns}
pub use Rattle.facts_main.proofs.RunFacts.{clock_is, shifts_left_is}
pub use Rattle.facts_main.proofs.Says.{never, off}
pub use Rattle.facts_main.specs.Blocks.{KeepsBlock, ends_call}
pub use Rattle.facts_main.specs.MainRows.{ShowsRows, op_in}
pub use Rattle.facts_main.specs.Stack.{ShiftsCells, mover}
pub use Rattle.facts_memory.specs.MainAccesses.{ServesMain, ServesRow, access_by}
pub use Rattle.facts_steps.proofs.Places.{place_shows, tape_goes}
pub use Rattle.facts_steps.proofs.Seeing.{cells_index, drop_cells, length_cells, take_cells, top_index}
pub use Rattle.facts_steps.specs.Lookups.{LooksUpBits, LooksUpWord, Lookups}
pub use Rattle.sound_blocks.proofs.FrameLaw.{frames_granted}
pub use Rattle.sound_blocks.specs.Frames.{FrameFacts, open_at}
pub use Rattle.sound_blocks.specs.Items.{AreItems, item_at}
pub use Rattle.sound_blocks.specs.Lists.{OverflowLists, below_at}
pub use Rattle.sound_blocks.specs.Spans.{AreBatches, HasBatchRows}
pub use Rattle.sound_buses.specs.Batches.{Begins, GroupFacts}
pub use Rattle.sound_buses.specs.Blocks.{Closes, IsAt, Starts, own}
pub use Rattle.sound_runs.specs.Built.{Built, Turns}
pub use Rattle.sound_runs.specs.Ends.{EndFacts, GrantedEnds}
pub use Rattle.sound_runs.specs.Running.{Goes, ShowRun, ShowsMark}
pub use Rattle.sound_runs.specs.TreeFacts.{GrantedTrees, TreeDigest, TreeFacts, TreeGood}
pub use Rattle.vm_field.proofs.Elements.{length-filled_up, word-of}
pub use Rattle.vm_field.specs.Field.{prime}
pub use Rattle.vm_field.specs.Limits.{number_of_constants}
pub use Rattle.vm_field.specs.Machine.{State, filled_up}
pub use Rattle.vm_ops.proofs.FrameLemmas.{index-filled_up}
pub use Rattle.vm_ops.specs.Codes.{code_of, is_ordinary_op, is_start_op}
pub use Rattle.vm_ops.specs.Moves.{leaves_of, takes_of}
pub use Rattle.vm_ops.specs.declared.item.Item.{Item}
pub use Rattle.vm_ops.specs.declared.op.Op.{Op}
pub use Rattle.vm_ops.specs.declared.op.Op.TheVariants as ops
pub use Rattle.vm_table.specs.Layout.{row_at}
pub use Rattle.vm_table.specs.MainColumns.{clk, ctx, depth, f, fmp, h, lv, s, sys, t}
