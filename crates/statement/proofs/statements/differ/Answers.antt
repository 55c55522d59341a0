use Rattle.std.proofs.Common.{◌↔◌, IsTrue, subst}
use Rattle.block_tree.specs.Kernels.{AreDistinct}
use Rattle.statement.proofs.Distinct.{tested}
use Rattle.statement.proofs.statements.differ.Goals as goal

pub returns-clause-test : goal.returns-clause-test
returns-clause-test c =
    tested c.args.words.now c.are_distinct.result
    (subst (λ ws. IsTrue c.are_distinct.result ↔ AreDistinct ws) c.as_slice.ensures.items c.are_distinct.ensures)
