-- One row after another, and the line behind the last.
use Rattle.std.proofs.Common.{◌∙◌, arith, rules}
use Rattle.std.proofs.lemmas.Result.{on_ok_weaker}
use Rattle.show_app.proofs.CountedLemmas.{none_more, one_row_more}
use Rattle.show_app.proofs.counting.append_told_rows.Goals as goal

pub loop-row-preserved : goal.loop-row-preserved
loop-row-preserved c =
    let asks = c.one_of-asking.ensures.is in
    let gives = c.one_of-giving.ensures.is in
    record {
      goes = rw (asks, gives)
          (one_row_more c.args.trace.now c.loop-row.text _ c.loop-row.asking c.loop-row.giving c.loop-row.row-index c.args.rows.now _ (omega arith) (search rules)
          c.in_ok-append_told.ensures ∙ c.loop-row.invariant.goes);
      asking = omega (arith, c.one_of-asking.ensures.small);
      giving = omega (arith, c.one_of-giving.ensures.small);
    }

pub returns : goal.returns
returns c =
    on_ok_weaker c.append_rows_line.result (λ is.
    none_more c.args.trace.now c.loop-row.text _ c.loop-row.asking c.loop-row.giving c.loop-row.row-index c.args.rows.now (omega arith) is
    ∙ c.loop-row.invariant.goes) c.append_rows_line.ensures
