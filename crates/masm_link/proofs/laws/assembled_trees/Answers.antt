use Rattle.masm_link.proofs.WholeTrees.{assembled-trees}
use Rattle.masm_link.proofs.laws.assembled_trees.Goals as goal

pub returns : goal.returns
returns c = assembled-trees
