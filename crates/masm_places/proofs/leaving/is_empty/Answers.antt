use Rattle.std.proofs.Common.{ap, sym}
use Rattle.masm_places.specs.Steps.{is_empty}
use Rattle.masm_places.proofs.Statements.{none_left, full_left}
use Rattle.masm_places.proofs.leaving.is_empty.Goals as goal

pub returns-in-empty : goal.returns-in-empty
returns-in-empty c = sym (ap is_empty (none_left c.args.left.now c.in-empty.len_below))

pub returns-in-len1-up : goal.returns-in-len1-up
returns-in-len1-up c = full_left c.args.left.now c.in-len1-up.len_at_least
