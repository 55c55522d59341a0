use Rattle.std.proofs.Common.{◌-◌, min, ◌++◌, [], refl, ap, ◌∙◌, arith}
use Rattle.std.specs.Prelude.{slice_index_or}
use Rattle.std.specs.List.{flat_map, range_with_len}
use Rattle.air_kit.specs.Traces.{rows_of}
use Rattle.show_text.specs.RowText.{line_of}
use Rattle.show_text.proofs.Lines.{piece_more}
use Rattle.show_text.proofs.rows.append_rows.Goals as goal

pub loop-i-preserved : goal.loop-i-preserved
loop-i-preserved c =
    piece_more (λ i. line_of c.args.table i (slice_index_or (rows_of c.args.trace.now c.args.table) i [])) c.args.text.now c.loop-i.text _ _
    c.args.first (min c.loop-i.i c.min-i-end.result - c.args.first) c.loop-i.i _ c.loop-i.invariant c.in_ok-append_line.ensures refl
    (omega arith) (omega arith)

pub returns : goal.returns
returns c =
    c.loop-i.invariant
    ∙ ap (λ n. c.args.text.now
    ++ flat_map (λ i. line_of c.args.table i (slice_index_or (rows_of c.args.trace.now c.args.table) i [])) (range_with_len c.args.first n))
    (omega arith)
