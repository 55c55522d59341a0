use Rattle.std.proofs.Common.{arith}
use Rattle.checker.proofs.CountLemmas.{rows_few}
use Rattle.checker.proofs.numbering.rows_in.Goals as goal

pub returns-clause-few : goal.returns-clause-few
returns-clause-few c = let h = rows_few c.requires.counts c.args.name in let e = c.rows.ensures in omega (arith, h, e)
