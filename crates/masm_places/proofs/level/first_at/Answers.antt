use Rattle.std.proofs.Common.{ap, sym, ◌∙◌}
use Rattle.masm_places.specs.Pending.{first_at}
use Rattle.masm_places.proofs.Statements.{none_left, one_left}
use Rattle.masm_places.proofs.level.first_at.Goals as goal

pub returns-in-empty : goal.returns-in-empty
returns-in-empty c = sym (ap (first_at c.args.at) (none_left c.args.left.now c.in-empty.len_below))

pub returns-in-len1-up : goal.returns-in-len1-up
returns-in-len1-up c =
    c.position_of.ensures c.args.at _
    ∙ sym (ap (first_at c.args.at) (one_left c.args.left.now c.stmt-item.result c.in-len1-up.len_at_least c.stmt-item.is))
