-- The words that the proofs of this crate, and those of the crates of requests, buses and traces above it, have in common.
pub use Rattle.std.proofs.Common.{All, Bool, List, None, Option, Some, [], ap, ap₂, arith, cond, drop, eqb, false, if◌then◌else◌, inl, inr, length}
pub use Rattle.std.proofs.Common.{length-append, length-drop, length-take, lit<, map, max, nat_eq, not, refl, reverse, slice_index, slice_index_or, subst, suc}
pub use Rattle.std.proofs.Common.{sym, take, true, unwrap_or, zero, ℕ, ◌%◌, ◌&&◌, ◌*◌, ◌++◌, ◌+◌, ◌-◌, ◌/◌, ◌<◌, ◌==◌, ◌^◌, ◌||◌, ◌∙◌, ◌∷◌, ◌≡◌, ◌≢◌, ◌≤◌, ◌⊎◌}
pub use Rattle.std.proofs.lemmas.Bool.{cases_eq, cases_lt, eqb-true, ltb-true, ne_eqb}
pub use Rattle.std.proofs.lemmas.List.{append-nil, append_assoc, drop-drop, ext_get_or, get_or-drop, get_or-take, get_or_append_left, get_or_past, length-map}
pub use Rattle.std.proofs.lemmas.List.{length-take-le}
pub use Rattle.std.proofs.lemmas.List.Elements.{All-append, All-cons, All-drop, All-from_recursion, All-head, All-nil, All-tail}
pub use Rattle.std.specs.List.{slice_get}
unfoldable pub use Rattle.air_kit.specs.Acceptance.{asked_on, given_on}
pub use Rattle.air_kit.specs.DeepCells.{key_of, keys_at_start}
unfoldable pub use Rattle.air_kit.specs.DeepCells.{cell_tuples, input_key, input_keys}
pub use Rattle.air_kit.specs.Flags as flags
pub use Rattle.air_kit.specs.Flags.{is_left, is_op, is_right, is_shift}
pub use Rattle.air_kit.specs.MainTuples as tuples
pub use Rattle.air_kit.specs.MainTuples.{back, child, eight, front, is_batch_op, is_call_op, no_frame, opens_group, twelve}
unfoldable pub use Rattle.air_kit.specs.MainTuples.{bitwise_asked, blocks_asked, blocks_given, children_asked, children_given, children_of, groups_asked}
unfoldable pub use Rattle.air_kit.specs.MainTuples.{groups_given, hasher_asked, loops_asked, loops_given, memory_asked, overflow_asked, overflow_given}
unfoldable pub use Rattle.air_kit.specs.MainTuples.{positions, range_asked}
pub use Rattle.air_kit.specs.Places.{Claim}
pub use Rattle.air_kit.specs.Requests.{access_given, bit_given}
unfoldable pub use Rattle.air_kit.specs.Requests.{perms_given}
unfoldable pub use Rattle.air_kit.specs.SpanValues.{rest_flag}
pub use Rattle.air_kit.specs.declared.requests.Access.{Access}
pub use Rattle.air_kit.specs.declared.requests.Perm.{Perm}
pub use Rattle.air_kit.specs.declared.requests.Requests.{Requests}
pub use Rattle.air_kit.specs.declared.trace.TableName.TheVariants as table
pub use Rattle.air_kit.specs.declared.trace.Trace.{Trace}
pub use Rattle.block_tree.proofs.AlongLemmas.{cycle-clock, steps-shallow}
pub use Rattle.block_tree.proofs.BehindLemmas.{behind-cycle}
pub use Rattle.block_tree.proofs.KeptLemmas.{cycle-kept, cycle-step}
pub use Rattle.block_tree.proofs.RowLemmas.{hash-batch}
pub use Rattle.block_tree.proofs.RunSteps.{run-steps}
pub use Rattle.block_tree.specs.Behind.{IsAllowed, core_behind}
pub use Rattle.block_tree.specs.Cycles.{Do, Mark, StartDyn, StartOpaque, StartSyscall, advice_taken, effect_of, top}
pub use Rattle.block_tree.specs.Execution as run
pub use Rattle.block_tree.specs.Execution.{event_of}
pub use Rattle.block_tree.specs.Marks.{IsWholeMark}
pub use Rattle.block_tree.specs.Rows.{accessed, behind, hash_of, op_of_mark}
pub use Rattle.block_tree.specs.Steps.{Block, Closing, IsCycle, Leaving, Next, Returning, Steps, Task, Turned, Within, call, closes, dyn, ended, goes, join}
pub use Rattle.block_tree.specs.Steps.{leaves, loop_0, loop_1, loop_ends, operation, repeats, respan, returns, span, span_ends, split_0, split_1, syscall}
pub use Rattle.block_tree.specs.Trees.{Loop, Tree, tree_digest}
pub use Rattle.buses.proofs.Counting.{counted-append, counted-none, total-front}
pub use Rattle.buses.specs.Counts.{Counted, hits, once, over_rows, with_next}
unfoldable pub use Rattle.buses.specs.Counts.{counted, over_first, total}
pub use Rattle.buses.specs.declared.bus.Bus.{Bus}
pub use Rattle.buses.specs.declared.bus.Bus.TheVariants as bus
pub use Rattle.complete_rows.specs.Agreement.{Agrees, AreOutside, IsLowUnread, IsOutsideSpan, ReadsOn}
pub use Rattle.complete_rows.specs.BlockRows.{ClaimsRun, IsWholeRun, decoder_behind, events_of, filled, keys_of}
pub use Rattle.complete_rows.specs.Bounds.{IsBounded, IsLowBlock, IsSmallCore}
pub use Rattle.complete_rows.specs.Chains as chains
pub use Rattle.complete_rows.specs.Chains.{AreLinked}
pub use Rattle.complete_rows.specs.Decoder.{Decoder, Open, address_of, advance, advance_by, at_start, ends_call, ends_loop, hidden_of, keys_after, keys_behind}
pub use Rattle.complete_rows.specs.Decoder.{next_after}
unfoldable pub use Rattle.complete_rows.specs.Decoder.{decoder_after}
pub use Rattle.complete_rows.specs.Filling.{halted, hash_by, line_of, row_of, seen_behind, witnesses_by}
pub use Rattle.complete_rows.specs.Groups.{Unread, batch_begun, group_after, nothing_unread, taken_from}
pub use Rattle.complete_rows.specs.Limbs.{cell, limbs_by, word_rest}
unfoldable pub use Rattle.complete_rows.specs.Limbs.{limbs_of}
pub use Rattle.complete_rows.specs.Lines.{Line, code_bit}
unfoldable pub use Rattle.complete_rows.specs.Lines.{laid_out}
pub use Rattle.complete_rows.specs.Moments.{AreMoments, Comes, IsLastMoment, IsMoment, IsRowAt, event_at}
pub use Rattle.complete_rows.specs.RunRequests.{access, accesses_by, bits_by, hash_perms, perms_by, perms_by_op, ranges_by}
unfoldable pub use Rattle.complete_rows.specs.RunRequests.{accesses_of, bits_of, calls_of, chain, perms_of, ranges_of}
pub use Rattle.complete_rows.specs.Shows.{Shows}
pub use Rattle.complete_rows.specs.Turns.{repeats_by, respans_by}
unfoldable pub use Rattle.complete_rows.specs.Turns.{respans}
unfoldable pub use Rattle.complete_rows.specs.Witnesses.{operation_witnesses}
pub use Rattle.facts_main.proofs.Says.{never, off}
pub use Rattle.facts_main.specs.Dynamic.{IsDynRow}
pub use Rattle.facts_main.specs.Limbs.{IsLimbRow, MovesLimbs, has_high_word}
pub use Rattle.facts_main.specs.MainRows.{op_in}
pub use Rattle.facts_main.specs.RowFacts.{IsPair, IsRow, ReadsAs}
pub use Rattle.facts_main.specs.Stack.{IsStackRow, MovesStack, mover}
pub use Rattle.machine_cycles.specs.Events.{shown, shown_between, visible_of}
pub use Rattle.machine_cycles.specs.declared.event.Event.{Event}
pub use Rattle.machine_cycles.specs.declared.event.Visible.{Visible}
pub use Rattle.op_pack.specs.Reading.{IsBatch, positions_in_use}
unfoldable pub use Rattle.op_pack.specs.Reading.{read_on, reading}
pub use Rattle.vm_field.proofs.Elements.{elements-cons, elements-drop, elements-index, elements-none, elements-take, length-filled_up}
pub use Rattle.vm_field.proofs.Inverses.{felt_mul-felt_inv}
pub use Rattle.vm_field.proofs.PermutationLemmas.{length-permuted}
pub use Rattle.vm_field.proofs.WellFormed.{start-IsWellFormed}
pub use Rattle.vm_field.specs.Field.{AreElements, prime}
unfoldable pub use Rattle.vm_field.specs.Field.{felt_inv}
pub use Rattle.vm_field.specs.Limits.{most_cycles, most_inputs, number_of_constants}
pub use Rattle.vm_field.specs.Machine.{Core, IsWellFormed, IsWellFormedCore, State, WordMap, filled_up, word_at, zero_word}
unfoldable pub use Rattle.vm_field.specs.Machine.{start}
unfoldable pub use Rattle.vm_field.specs.Permutation.{permuted}
pub use Rattle.vm_field.specs.Signs.{◌⊞◌, ◌⊟◌, ◌⊠◌}
pub use Rattle.vm_field.specs.Sponge.{absorbed, begun}
unfoldable pub use Rattle.vm_field.specs.Sponge.{hashed}
pub use Rattle.vm_ops.proofs.CodeLemmas.{code_of-below, code_of-different, ordinary-below}
pub use Rattle.vm_ops.proofs.FrameLemmas.{drop-filled_up, index-filled_up}
pub use Rattle.vm_ops.proofs.StepLemmas.{stepped}
pub use Rattle.vm_ops.specs.Codes.{accesses_memory, code_of, is_ordinary_op, is_start_op, kind_of}
unfoldable pub use Rattle.vm_ops.specs.Codes.{op_at}
pub use Rattle.vm_ops.specs.Items.{push_item}
pub use Rattle.vm_ops.specs.Moves.{leaves_of, shift_of, takes_of}
pub use Rattle.vm_ops.specs.Step.{memory_with, performed, seen}
unfoldable pub use Rattle.vm_ops.specs.Step.{left_cells}
pub use Rattle.vm_ops.specs.Stepping.{ShiftedBelow, seen_at}
pub use Rattle.vm_ops.specs.Values.{Seen, bit_of, written}
unfoldable pub use Rattle.vm_ops.specs.Values.{computed}
pub use Rattle.vm_ops.specs.declared.item.Item.{Item}
pub use Rattle.vm_ops.specs.declared.kind.Kind.{Kind}
pub use Rattle.vm_ops.specs.declared.kind.Kind.TheVariants as kinds
pub use Rattle.vm_ops.specs.declared.op.Op.{Op}
pub use Rattle.vm_ops.specs.declared.op.Op.TheVariants as ops
pub use Rattle.vm_ops.specs.declared.op.Shift.{Shift}
pub use Rattle.vm_ops.specs.declared.op.Shift.TheVariants.{Left, Right, Stay}
pub use Rattle.vm_table.specs.Layout.{row_at}
pub use Rattle.vm_table.specs.MainColumns.{addr, b, c, clk, ctx, depth, f, gc, h, ha, inv, key, lv, ox, s, sp, sys, t, w}
