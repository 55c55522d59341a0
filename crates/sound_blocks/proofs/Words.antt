-- The words that the proofs of this crate have in common.
pub use Rattle.std.proofs.Common.{Bool, List, None, Some, [], ap, ap₂, arith, cond, drop, eqb, false, get_or, if◌then◌else◌, inl, inr, length, length-drop}
pub use Rattle.std.proofs.Common.{lit<, lit≤, map, not, refl, slice_get, slice_index, slice_index_or, subst, suc, sym, take, true, zero, ℕ, ◌%◌, ◌&&◌, ◌*◌}
pub use Rattle.std.proofs.Common.{◌++◌, ◌+◌, ◌-◌, ◌/◌, ◌<◌, ◌^◌, ◌||◌, ◌∙◌, ◌∷◌, ◌≡◌, ◌≢◌, ◌≤◌, ◌⊎◌}
pub use Rattle.std.proofs.Math.Seq.{drop-cons}
pub use Rattle.std.proofs.lemmas.Bool.{and_from, and_parts, and_right, cases_Bool, cases_eq, cases_lt, cond-false, cond-true, eq-eqb, eqb-false, eqb-true}
pub use Rattle.std.proofs.lemmas.Bool.{ltb-true, ne_eqb, not_from_false, or_cases, or_from, or_left}
pub use Rattle.std.proofs.lemmas.List.{drop-take, drop_all, ext_get_or, get_or-drop, get_or-take, get_or_past, length-take-le, nil_from_length}
pub use Rattle.air_kit.specs.DeepCells.{deep_at_start, depth_at_start, key_of}
unfoldable pub use Rattle.air_kit.specs.DeepCells.{input_key, input_keys}
pub use Rattle.air_kit.specs.Flags.{is_left, is_op, is_right, is_shift, op_of}
pub use Rattle.air_kit.specs.MainTuples.{back, domain_of, eight, front, hash_end, is_batch_op, is_call_op, opens_group, row_shifts_left}
unfoldable pub use Rattle.air_kit.specs.MainTuples.{positions}
pub use Rattle.air_kit.specs.Places.{Claim}
pub use Rattle.air_kit.specs.RowStates.{Overflow, brought_back, overflow_behind, row_returns}
unfoldable pub use Rattle.air_kit.specs.RowStates.{overflow_at}
unfoldable pub use Rattle.air_kit.specs.StackValues.{cells}
pub use Rattle.air_kit.specs.Traces.{claim_of}
pub use Rattle.air_kit.specs.declared.trace.Public.{Public}
pub use Rattle.air_kit.specs.declared.trace.Trace.{Trace}
unfoldable pub use Rattle.facts_hasher.specs.HashMeaning.{GivesOn}
pub use Rattle.facts_main.proofs.RunFacts.{clock_is, halts_last, nothing_left, shifts_left_is}
pub use Rattle.facts_main.proofs.Says.{never, off}
pub use Rattle.facts_main.specs.Blocks.{IsEndRow, KeepsBlock, ends_call, keeps_block, level_after}
pub use Rattle.facts_main.specs.Follows.{may_follow}
pub use Rattle.facts_main.specs.MainRows.{ShowsRow, ShowsRows, op_in}
pub use Rattle.facts_main.specs.RowFacts.{IsPair}
pub use Rattle.sound_blocks.specs.Chains.{Chain, GrantedChains, none, some}
unfoldable pub use Rattle.sound_blocks.specs.Chains.{rank_of}
pub use Rattle.sound_blocks.specs.Frames.{FrameFacts, GrantedFrames, IsBlock, newest_address}
unfoldable pub use Rattle.sound_blocks.specs.Frames.{open_at}
pub use Rattle.sound_blocks.specs.Items.{AreItems, item_at, next, over}
pub use Rattle.sound_blocks.specs.Lists.{GrantedOverflow, below_at}
pub use Rattle.sound_blocks.specs.Nesting.{GrantedNesting, IsOnlyChild, StartsInside, StartsSecond, TurnsAgain}
pub use Rattle.sound_blocks.specs.Spans.{AreBatches, GrantedSpans, HasBatchRows, IsHashedAt, last}
pub use Rattle.sound_buses.proofs.Splits.{op_from}
pub use Rattle.sound_buses.specs.Batches.{Begins, GroupFacts, IsTaken, batch_at}
pub use Rattle.sound_buses.specs.Blocks.{BlockFacts, Closes, IsAt, ShowsKind, Starts, own}
pub use Rattle.sound_buses.specs.BusFacts.{Granted}
pub use Rattle.sound_buses.specs.Children.{ChildFacts, FirstChild, IsNamed}
pub use Rattle.sound_buses.specs.Lookups.{HashFacts, RangeFacts, hasher_gives}
pub use Rattle.sound_buses.specs.Overflow.{IsEntry, IsInput, IsPushed, OverflowFacts, input, pushed}
pub use Rattle.vm_field.specs.Field.{AreElements, felt_add, felt_mul, felt_sub, prime}
pub use Rattle.vm_field.specs.Signs.{◌⊞◌, ◌⊟◌, ◌⊠◌}
pub use Rattle.vm_ops.proofs.CodeLemmas.{ordinary-below}
pub use Rattle.vm_ops.specs.Codes.{code_of, is_ordinary_op, is_start_op}
pub use Rattle.vm_ops.specs.Items.{plain_item, push_item}
pub use Rattle.vm_ops.specs.declared.item.Item.{Item}
pub use Rattle.vm_ops.specs.declared.op.Op.{Op}
pub use Rattle.vm_ops.specs.declared.op.Op.TheVariants as ops
pub use Rattle.vm_table.specs.Layout.{row_at}
pub use Rattle.vm_table.specs.MainColumns.{addr, c, clk, ctx, depth, gc, h, ha, key, lv, ox, s, sp, sys}
