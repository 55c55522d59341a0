use Rattle.table_file.proofs.Words.{arith}
use Rattle.table_file.proofs.HeadLaws.{few-fit}
use Rattle.table_file.proofs.writing.add_count.Goals as goal

pub overflow_cast-rows : goal.overflow_cast-rows
overflow_cast-rows c = let fits = few-fit c.args.table _ (c.requires.counts c.args.table).most in omega (arith, fits, c.rows.ensures)
