use Rattle.block_tree.proofs.ViewLemmas.{tree-Dyn}
use Rattle.block_tree.proofs.tree.dynamic.Goals as goal

pub returns : goal.returns
returns c = record { is = tree-Dyn c.args.targets }
