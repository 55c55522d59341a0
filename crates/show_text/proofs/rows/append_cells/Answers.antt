use Rattle.std.proofs.Common.{[], map, ap, ◌∙◌, arith}
use Rattle.std.specs.Prelude.{slice_index, slice_index_or}
use Rattle.show_text.specs.RowText.{cell_text}
use Rattle.show_text.proofs.Lines.{name_at, piece_more}
use Rattle.show_text.proofs.rows.append_cells.Goals as goal

pub loop-column-preserved : goal.loop-column-preserved
loop-column-preserved g c =
    let names = map (λ name. name.now) c.args.names.now in
    let cells = g.V.View.cells c.args.row.now in
    piece_more (λ i. cell_text (slice_index_or names i []) (slice_index cells i)) c.args.text.now c.loop-column.text _ _ 0
    c.loop-column.column c.loop-column.column _ c.loop-column.invariant c.in_ok-append_cell.ensures
    (ap (λ name. cell_text name c.cell.result) (name_at c.args.names.now c.loop-column.column _ (omega arith))
    ∙ ap (cell_text (slice_index_or names c.loop-column.column [])) c.cell.ensures.is)
    (omega arith) (omega arith)
