use Rattle.std.proofs.Common.{◌+◌}
use Rattle.std.proofs.lemmas.Result.{on_ok_weaker}
use Rattle.show_constraints.specs.Parts.{part_in, parts_of}
use Rattle.show_constraints.specs.Terms.{term_of}
use Rattle.show_text.specs.ExplainText.{constraint_line, here_line, value_line}
use Rattle.show_text.specs.RowText.{rows_text}
use Rattle.show_text.specs.Sides.{operation_at, side_of}
use Rattle.show_text.proofs.Lines.{then_more}
use Rattle.show_text.proofs.explain.append_fault.Goals as goal

pub returns : goal.returns
returns c =
    let fault = c.args.fault.now in
    let trace = c.args.trace.now in
    on_ok_weaker c.append_rows.result (λ is.
    then_more c.args.text.now _ _ _ (rows_text trace fault.table fault.row (fault.row + 1))
    (then_more c.args.text.now _ _ _ (here_line fault (side_of trace fault) (term_of fault.number (operation_at trace fault)) (part_in fault.number (parts_of fault.table)))
    (then_more c.args.text.now _ _ (value_line fault.value) (constraint_line fault.table fault.number) c.in_ok-append_value.ensures
    c.in_ok-append_constraint.ensures) c.in_ok-append_here.ensures) is) c.append_rows.ensures
