use Rattle.facts_main.proofs.TableFacts.{rows_shown, rows_zero}
use Rattle.facts_main.proofs.laws.table_laws.Goals as goal

pub returns : goal.returns
returns c = record { shows = rows_shown; zeros = rows_zero }
