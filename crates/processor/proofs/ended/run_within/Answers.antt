use Rattle.std.proofs.Common.{refl, ap, ◌∙◌}
use Rattle.block_tree.specs.TreeView.{tree_of}
use Rattle.block_tree.specs.Trees.{tree_digest}
use Rattle.vm_state.specs.Views.{state_of}
use Rattle.tree_hash.specs.Nodes.{node_tree}
use Rattle.processor.proofs.ExecutionLemmas.{progress_of}
use Rattle.processor.proofs.ended.run_within.Goals as goal

pub returns : goal.returns
returns c = record {
  progress =
      progress_of c.args.params.now c.args.program.now c.args.inputs.now c.args.limit
      (node_tree c.in_ok-node.node) (state_of c.in_ok-start.field-0) c.in_ok-is_done.ensures.came
      c.new.ensures.empty refl c.as_slice.ensures.items refl c.in_ok-node.ensures.tree c.in_ok-start.ensures;
  digest =
      c.digest.ensures.is ∙ c.in_ok-node.ensures.digest
      ∙ ap (λ constants. tree_digest constants (tree_of c.args.program.now.tree)) c.new-permutations.ensures;
  permutations = c.in_ok-is_done.ensures.same ∙ c.in_ok-node.ensures.permutations ∙ c.new-permutations.ensures;
}
