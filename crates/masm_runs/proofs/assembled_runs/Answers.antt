use Rattle.block_tree.specs.TreeView.{tree_of}
use Rattle.masm_link.proofs.WholeTrees.{assembled-trees}
use Rattle.masm_runs.proofs.Packs.{assembled-ready}
use Rattle.masm_runs.proofs.Sound.{ready-runs}
use Rattle.masm_runs.proofs.assembled_runs.Goals as goal

pub returns : goal.returns
returns c = record {
  trees = ready-runs;
  ready = assembled-ready;
  runs = λ constants library text kernel program plain is parameters digests limit s none.
      ready-runs parameters digests limit (tree_of program.tree) s (assembled-ready constants library text kernel program plain is)
      (assembled-trees constants library text kernel program is).1.height none;
}
