use Rattle.table_file.proofs.TraceReading.{read-counts, read-shaped}
use Rattle.table_file.proofs.reader.TableReader.finish.Goals as goal

pub returns-clause-counts : goal.returns-clause-counts
returns-clause-counts c = λ bytes taken. read-counts bytes c.answer.result (c.answer.ensures bytes taken)

pub returns-clause-tables : goal.returns-clause-tables
returns-clause-tables c = λ bytes taken. read-shaped bytes c.answer.result (c.answer.ensures bytes taken)
