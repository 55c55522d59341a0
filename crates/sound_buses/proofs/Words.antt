-- The words that the proofs of this crate have in common.
pub use Rattle.std.proofs.Common.{All, Bool, List, [], ap, ap₂, arith, cond, drop, false, inl, inr, length, lit<, nat_eq, refl, slice_index, slice_index_or}
pub use Rattle.std.proofs.Common.{subst, suc, sym, true, zero, ℕ, ◌*◌, ◌++◌, ◌+◌, ◌-◌, ◌<◌, ◌==◌, ◌^◌, ◌||◌, ◌∙◌, ◌∷◌, ◌≡◌, ◌≢◌, ◌≤◌, ◌⊎◌}
pub use Rattle.std.proofs.lemmas.Bool.{eqb-true}
pub use Rattle.std.proofs.lemmas.Option.{slice_get-get_or, slice_get_past}
pub use Rattle.std.specs.List.{slice_get}
pub use Rattle.air_kit.specs.ChipTuples.{chip_given, next_key}
unfoldable pub use Rattle.air_kit.specs.ChipTuples.{kernel_given, left_asked, memory_ranges, range_given}
pub use Rattle.air_kit.specs.Flags.{is_op, op_of}
pub use Rattle.air_kit.specs.MainTuples.{back, called_digest, child, count_of_limbs, domain_of, eight, frame_cells, front, hash_end, is_batch_op, is_call_op}
pub use Rattle.air_kit.specs.MainTuples.{kind_of_end, kind_of_start, memory_asked, no_frame, positions, twelve}
unfoldable pub use Rattle.air_kit.specs.MainTuples.{bitwise_asked, blocks_asked, blocks_given, children_asked, children_given, children_of, groups_asked}
unfoldable pub use Rattle.air_kit.specs.MainTuples.{groups_from, groups_given, hasher_asked, kernel_asked, limbs_from, loops_asked, loops_given, overflow_asked}
unfoldable pub use Rattle.air_kit.specs.MainTuples.{overflow_given, range_asked}
pub use Rattle.air_kit.specs.Places.{Claim, at_number}
pub use Rattle.air_kit.specs.Traces.{claim_of, spot_of}
pub use Rattle.air_kit.specs.declared.trace.Public.{Public}
pub use Rattle.air_kit.specs.declared.trace.Trace.{Trace}
pub use Rattle.buses.proofs.Counting.{counted-none}
pub use Rattle.buses.specs.Counts.{Counted, OfRow, at_row, hits, once, over_rows, with_next}
unfoldable pub use Rattle.buses.specs.Counts.{counted, over_first, total}
pub use Rattle.chip_columns.specs.RangeColumns.{v}
pub use Rattle.facts_hasher.specs.HashMeaning.{TableGives}
pub use Rattle.facts_main.proofs.Says.{off}
pub use Rattle.facts_main.proofs.Zeros.{numbers_zero, zero_family}
pub use Rattle.facts_main.specs.MainRows.{ShowsRows, op_in}
pub use Rattle.sound_buses.specs.Blocks.{BlockFacts, Closes, IsAt, ShowsKind, Starts, own}
pub use Rattle.sound_buses.specs.Lookups.{BitFacts, HashFacts, KernelFacts, RangeFacts, hasher_gives}
pub use Rattle.vm_field.proofs.Algebra.{same_from_sub, zero_factor}
pub use Rattle.vm_field.specs.Field.{felt_add, felt_mul, felt_sub, prime}
pub use Rattle.vm_ops.specs.Codes.{code_of, is_start_op}
pub use Rattle.vm_ops.specs.declared.op.Op.{Op}
pub use Rattle.vm_ops.specs.declared.op.Op.TheVariants as ops
pub use Rattle.vm_table.specs.Layout.{IsTable, row_at}
pub use Rattle.vm_table.specs.MainColumns.{addr, clk, depth, gc, h, ha, key, lv, s, t, w}
