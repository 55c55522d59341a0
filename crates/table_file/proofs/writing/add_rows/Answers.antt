use Rattle.table_file.proofs.Words.{◌∙◌, arith}
use Rattle.table_file.proofs.LeftLemmas.{none_left, table_goes, table_past}
use Rattle.table_file.proofs.writing.add_rows.Goals as goal

pub returns-then-row-rows-clause-given : goal.returns-then-row-rows-clause-given
returns-then-row-rows-clause-given c =
    c.loop-table.invariant.same
    ∙ table_goes c.args.trace.now c.loop-table.table c.loop-table.row c.loop-table-test.true _ _ c.add_table_rows.ensures.given

pub loop-table-preserved : goal.loop-table-preserved
loop-table-preserved c = record {
  empty = c.loop-table.invariant.empty;
  same =
      c.loop-table.invariant.same
      ∙ table_past c.args.trace.now c.loop-table.table c.loop-table.row c.loop-table-test.true (omega (arith, c.rows.ensures, c.if-row-rows.false));
}

pub returns-clause-end : goal.returns-clause-end
returns-clause-end c = λ _. c.loop-table.invariant.same ∙ none_left c.args.trace.now c.loop-table.table c.loop-table.row c.loop-table-test.false
