use Rattle.std.proofs.Common.{◌≡◌, ◌-◌, min, [], ◌++◌}
use Rattle.std.specs.Prelude.{slice_index_or}
use Rattle.std.specs.List.{flat_map, range_with_len}
use Rattle.air_kit.specs.Traces.{rows_of}
use Rattle.show_text.specs.RowText.{line_of}
use Rattle.show_text.proofs.rows.append_rows.Given as goal

-- the rows so far stand behind the text
abbrev pub invariant-loop-i : goal.invariant-loop-i
invariant-loop-i l =
    l.text ≡ l.initial.text
    ++ flat_map (λ i. line_of l.table i (slice_index_or (rows_of l.trace l.table) i [])) (range_with_len l.first (min l.i l.i-end - l.first))
