use Rattle.block_tree.proofs.RowLemmas.{accessed-word, advice-four, four-word, hash-batch, shown-behind}
use Rattle.block_tree.proofs.laws.row_laws.Goals as goal

pub returns : goal.returns
returns c = record { hash = hash-batch; four = advice-four; tape = four-word; word = accessed-word; behind = shown-behind }
