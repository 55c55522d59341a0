use Rattle.masm_uses.proofs.Words.{◌∙◌, Missing, rows_of, Among-more, Among-end, row_read, row_itself, rows_within, rows_ended}
use Rattle.masm_uses.proofs.missing.first_missing_of.Goals as goal

pub loop-row-preserved : goal.loop-row-preserved
loop-row-preserved c =
    let rows = rows_of c.args.rows.now in
    let i = c.loop-row.row-index in
    let within = rows_within c.args.rows.now i c.loop-row-test.true in
    let is = c.deref.ensures.value ∙ row_read c.args.rows.now i c.row-item.result c.loop-row-test.true c.row-item.is in
    rw c.earlier-first.ensures (Among-more (λ place row. Missing row) rows i c.deref.result.now c.loop-row.first _ within
    (row_itself rows i c.deref.result.now within is) c.loop-row.invariant c.first_missing.ensures)

pub returns : goal.returns
returns c =
    let ended = rows_ended c.args.rows.now c.loop-row.row-index c.loop-row-test.false in
    Among-end (λ place row. Missing row) (rows_of c.args.rows.now) c.loop-row.row-index c.loop-row.first ended c.loop-row.invariant
