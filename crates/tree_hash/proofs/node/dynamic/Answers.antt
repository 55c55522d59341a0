use Rattle.tree_hash.proofs.NodeLemmas.{hashed-dynamic, node-Dyn}
use Rattle.tree_hash.proofs.node.dynamic.Goals as goal

pub returns-clause-tree : goal.returns-clause-tree
returns-clause-tree c = node-Dyn c.args.digest c.args.places c.args.targets

pub returns-clause-hashed : goal.returns-clause-hashed
returns-clause-hashed c = λ constants digest first targets.
    hashed-dynamic constants c.args.digest c.args.places c.args.targets digest first targets
