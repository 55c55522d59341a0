use Rattle.table_file.proofs.reader.decode.Goals as goal

pub returns-clause-counts : goal.returns-clause-counts
returns-clause-counts c = c.finish.ensures.counts _ (c.take_piece.ensures.taken _ c.new-reader.ensures)
