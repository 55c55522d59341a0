use Rattle.complete_rows.proofs.TableLemmas.{has_moments, is_linked, rows_counted, shows_blocks}
use Rattle.complete_rows.proofs.laws.filled_laws.Goals as goal

pub returns : goal.returns
returns c = record { moments = has_moments; linked = is_linked; count = rows_counted; blocks = shows_blocks }
