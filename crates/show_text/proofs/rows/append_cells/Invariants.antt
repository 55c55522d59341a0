use Rattle.std.proofs.Common.{◌≡◌, [], ◌++◌, map}
use Rattle.std.specs.Prelude.{slice_index, slice_index_or}
use Rattle.std.specs.List.{flat_map, range_with_len}
use Rattle.show_text.specs.RowText.{cell_text}
use Rattle.show_text.proofs.rows.append_cells.Given as goal

-- the cells so far stand behind the text
abbrev pub invariant-loop-column : goal.invariant-loop-column
invariant-loop-column g l =
    l.text ≡ l.initial.text
    ++ flat_map (λ i. cell_text (slice_index_or (map (λ name. name.now) l.names) i []) (slice_index (g.V.View.cells l.row) i)) (range_with_len 0 l.column)
