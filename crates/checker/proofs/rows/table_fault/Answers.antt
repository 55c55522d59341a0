-- One row after another.
use Rattle.std.proofs.Common.{refl, arith, rules}
use Rattle.checker.specs.Pieces.{ends_at, starts_at}
use Rattle.checker.specs.Settings.{claim_in}
use Rattle.checker.proofs.RowLemmas.{table_fault_at, table_zero}
use Rattle.checker.proofs.rows.table_fault.Goals as goal

pub returns-in-Some : goal.returns-in-Some
returns-in-Some c = (
  refl,
  table_fault_at (claim_in c.args.setting.now) c.args.trace.now c.args.name (starts_at c.args.trace.now c.args.part) (ends_at c.args.trace.now c.args.part)
      c.rows_of_part-start.result.start c.rows_of_part-start.result.end c.loop-row.row c.in-Some.number _
      c.rows_of_part-start.ensures.start c.rows_of_part-start.ensures.end (omega arith) c.loop-row-test.true c.loop-row.invariant (search rules),
)

pub returns : goal.returns
returns c =
    table_zero (claim_in c.args.setting.now) c.args.trace.now c.args.name (starts_at c.args.trace.now c.args.part) (ends_at c.args.trace.now c.args.part)
    c.rows_of_part-start.result.start c.rows_of_part-start.result.end c.rows_of_part-start.ensures.start c.rows_of_part-start.ensures.end
    (λ i above below. c.loop-row.invariant i above (let past = c.loop-row-test.false in omega (arith, past, below)))
