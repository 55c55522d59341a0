use Rattle.tree_merge.proofs.ViewLemmas.{placed-Dyn}
use Rattle.tree_merge.proofs.addr_tree.dynamic.Goals as goal

pub returns : goal.returns
returns c = record { is = placed-Dyn c.args.at c.args.targets }
