use Rattle.table_file.proofs.Words.{arith}
use Rattle.table_file.proofs.LeftLemmas.{row_goes}
use Rattle.table_file.proofs.writing.add_table.Goals as goal

pub loop-next-preserved : goal.loop-next-preserved
loop-next-preserved g c = record {
  from = omega (arith, c.loop-next.invariant.from);
  to = omega (arith, c.loop-next-test.true, c.rows.ensures.is);
  given =
      row_goes c.args.table.now c.loop-next.next _ c.loop-next.room.items c.add_row.new.room.items
      (omega (arith, c.loop-next-test.true, c.rows.ensures.is)) c.loop-next.invariant.given c.add_row.ensures.is;
  some = λ wide further. omega (arith, wide, c.add_row.ensures.long);
}
