use Rattle.table_file.proofs.Words.{◌≡◌, ◌+◌, ◌-◌, ◌*◌, ◌≤◌, ℕ, drop, take, subst, arith, err_from_is_err_and, StandsAt}
use Rattle.table_file.proofs.RowReading.{reads_more, reads_stop}
use Rattle.table_file.proofs.rows.take_rows.Goals as goal

pub returns-in_err-read_row-clause-err : goal.returns-in_err-read_row-clause-err
returns-in_err-read_row-clause-err g c =
    let p = err_from_is_err_and c.from_residual.result c.from_residual.ensures.1 in
    let used = c.loop-left.used in
    let within = c.loop-left.invariant.within in
    let size : 8 * g.row.W ≡ used + 8 * g.row.W - used = omega arith in
    let fits : used + 8 * g.row.W ≤ _ = omega (arith, within, c.if-size-bytes.true) in
    rw (p.1, p.2)
    (reads_stop g.row.W c.args.at c.args.bytes.now c.args.left.now c.args.table.now c.loop-left.left c.loop-left.table used
    c.loop-left.invariant c.loop-left-test.true _ fits
    (λ all stands. c.in_err-read_row.ensures.err all
    (subst (λ (n : ℕ). StandsAt all (c.args.at + used) (take n (drop used c.args.bytes.now))) size stands)))

pub loop-left-preserved : goal.loop-left-preserved
loop-left-preserved g c =
    let used = c.loop-left.used in
    let within = c.loop-left.invariant.within in
    let size : 8 * g.row.W ≡ used + 8 * g.row.W - used = omega arith in
    let fits : used + 8 * g.row.W ≤ _ = omega (arith, within, c.if-size-bytes.true) in
    rw c.in_ok-push_row.ensures.ok
    (reads_more g.row.W c.args.at c.args.bytes.now c.args.left.now c.args.table.now c.loop-left.left c.loop-left.table used
    c.loop-left.invariant c.loop-left-test.true c.read_row.new.row fits
    (λ all stands. c.in_ok-read_row.ensures.ok all
    (subst (λ (n : ℕ). StandsAt all (c.args.at + used) (take n (drop used c.args.bytes.now))) size stands)))
