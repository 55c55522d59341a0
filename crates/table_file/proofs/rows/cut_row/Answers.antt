use Rattle.table_file.proofs.Words.{◌≡◌, ℕ, ◌+◌, ◌*◌, ◌/◌, ◌∷◌, ◌++◌, [], length, Err, sym, ap, ◌∙◌, arith, append-nil, length-drop, Bad, element_at}
use Rattle.table_file.specs.declared.cause.FileCause.TheVariants as cause
use Rattle.table_file.proofs.Going.{goes_on, stops}
use Rattle.table_file.proofs.RowReading.{ends_within}
use Rattle.table_file.proofs.rows.cut_row.Goals as goal

pub returns-in-Err : goal.returns-in-Err
returns-in-Err c = λ all width is short.
    let so_far = c.loop-j.invariant all width is short in
    stops (element_at all) 8 c.args.at width c.loop-j.j so_far.0 c.in-Err.error (omega (arith, c.loop-j-test.true, short))
    (c.in-Err.ensures all ([], is ∙ sym (append-nil c.args.part.now))) so_far.1

pub loop-j-preserved : goal.loop-j-preserved
loop-j-preserved c = λ all width is short.
    let so_far = c.loop-j.invariant all width is short in (
      so_far.0 ++ c.in-Ok.field-0 ∷ [],
      goes_on (element_at all) 8 c.args.at width c.loop-j.j so_far.0 c.in-Ok.field-0 (omega (arith, c.loop-j-test.true, short))
          (c.in-Ok.ensures all ([], is ∙ sym (append-nil c.args.part.now))) so_far.1,
    )

pub returns : goal.returns
returns c = λ all width is short.
    let so_far = c.loop-j.invariant all width is short in
    let j = c.loop-j.j in
    let same : j ≡ length c.args.part.now / 8 = omega (arith, c.loop-j-test.false, c.loop-j.auto.j-end) in
    let long = ap length is in
    stops (element_at all) 8 c.args.at width j so_far.0 c.bad.result (omega (arith, c.loop-j-test.false, short))
    (ap Err (c.bad.ensures ∙ ap (λ (n : ℕ). Bad (c.args.at + 8 * n) cause.Ended) (sym same))
    ∙ sym (ends_within all c.args.at j (omega (arith, long, length-drop c.args.at all, c.loop-j-test.false)))) so_far.1
