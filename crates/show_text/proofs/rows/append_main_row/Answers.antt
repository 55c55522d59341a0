use Rattle.std.proofs.Common.{◌++◌, codes, decimal, ap, ◌∙◌}
use Rattle.std.proofs.lemmas.Result.{on_ok_weaker}
use Rattle.vm_table.specs.MainColumns.{b}
use Rattle.air_kit.specs.Flags.{spelled}
use Rattle.air_kit.specs.declared.trace.TableName.TheVariants as table
use Rattle.show_constraints.specs.Columns.{columns_of}
use Rattle.show_text.specs.RowText.{cells_text}
use Rattle.show_text.specs.RunText.{name_or_number, op_spelled}
use Rattle.show_text.proofs.Lines.{then_more}
use Rattle.show_text.proofs.rows.append_main_row.Goals as goal

pub returns : goal.returns
returns g c =
    let cells = g.V.View.cells c.args.row.now in
    on_ok_weaker c.append-3.result (λ is.
    then_more c.args.text.now _ _ _ (codes "\n")
    (then_more c.args.text.now _ _ _ (cells_text (columns_of table.Main) cells)
    (then_more c.args.text.now _ _ _ (name_or_number (op_spelled cells) (spelled 7 (b cells)))
    (then_more c.args.text.now _ _ _ (codes " ")
    (then_more c.args.text.now _ _ (codes "row ") (decimal c.args.number) c.in_ok-append.ensures.ok c.in_ok-append_number.ensures)
    c.in_ok-append-2.ensures.ok) c.in_ok-append_operation.ensures)
    (c.in_ok-append_cells.ensures ∙ ap (λ names. c.append_operation.new.text ++ cells_text names cells) c.column_names.ensures.names)) is)
    c.append-3.ensures.ok
