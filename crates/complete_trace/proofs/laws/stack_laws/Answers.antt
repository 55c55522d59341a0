use Rattle.complete_trace.proofs.TableStacks.{has_zeros, shows_rows}
use Rattle.complete_trace.proofs.laws.stack_laws.Goals as goal

pub returns : goal.returns
returns c = record { shows = shows_rows; zeros = has_zeros }
