-- The words that the proofs of this crate have in common.
pub use Rattle.std.proofs.Common.{Bool, List, None, Option, Some, [], add-one, ap, append_assoc, arith, cond, drop, eqb, false, inl, inr, length, lit<, not}
pub use Rattle.std.proofs.Common.{refl, subst, suc, sym, true, unwrap_or, ℕ, ◌*◌, ◌++◌, ◌+◌, ◌-◌, ◌<◌, ◌^◌, ◌||◌, ◌∙◌, ◌∷◌, ◌≡◌, ◌≢◌, ◌≤◌, ◌⊎◌}
pub use Rattle.std.proofs.Math.Path.{subst₂}
pub use Rattle.std.proofs.lemmas.List.{append-nil, length-drop}
pub use Rattle.air_kit.specs.Flags.{HasBits, is_op}
pub use Rattle.air_kit.specs.Hashes.{computation_at}
pub use Rattle.air_kit.specs.MainTuples.{back, called_digest, eight, front}
pub use Rattle.air_kit.specs.RowStates.{state_at, taken_by}
unfoldable pub use Rattle.air_kit.specs.RowStates.{tape_of}
pub use Rattle.air_kit.specs.Traces.{HasCounts, claim_of}
pub use Rattle.air_kit.specs.declared.trace.Public.{Public}
pub use Rattle.air_kit.specs.declared.trace.Trace.{Trace}
pub use Rattle.block_tree.specs.Trees.{Refines, input_of_batches}
pub use Rattle.facts_main.proofs.Says.{never, off}
pub use Rattle.facts_main.specs.MainRows.{op_in}
pub use Rattle.rpo_hash.specs.Constants.{constants_of}
pub use Rattle.sound_blocks.proofs.Operations.{op_named, true_or_false}
pub use Rattle.sound_buses.specs.Blocks.{Closes, IsAt, Starts, own}
pub use Rattle.sound_evidence.specs.Known.{IsKnown}
pub use Rattle.sound_evidence.specs.Walking.{CountsAreReadable, IsFound, IsWalkable, IsWholeTree, Takes, marked_of}
pub use Rattle.sound_evidence.specs.declared.found.Found.{Found}
pub use Rattle.sound_runs.proofs.TreeLemmas.{built_digest, built_good}
pub use Rattle.sound_runs.proofs.TreeRuns.{built_closes, trees_run}
pub use Rattle.sound_runs.specs.Built.{Built, Turns}
pub use Rattle.sound_runs.specs.TreeFacts.{HasTree, TreeFacts}
pub use Rattle.tree_merge.specs.AddrView.{placed_of}
pub use Rattle.tree_merge.specs.Merging.{Good, Mergeable, Merged}
pub use Rattle.tree_merge.specs.Placed.{PlacedTargets, PlacedTree, placed_digest, plain}
pub use Rattle.tree_merge.specs.declared.addr_tree.AddrTree.{AddrTree}
pub use Rattle.vm_ops.specs.declared.op.Op.{Op}
pub use Rattle.vm_table.specs.Layout.{IsTable, row_at}
pub use Rattle.vm_table.specs.MainColumns.{addr, b, s}
