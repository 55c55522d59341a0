use Rattle.std.proofs.Common.{sym, ◌≤◌, arith}
use Rattle.vm_table.proofs.BlockLemmas.{row_by_cells, same_row}
use Rattle.vm_table.proofs.blocks.write_row.Goals as goal

pub returns-clause-row : goal.returns-clause-row
returns-clause-row g c =
    let all : g.row.W ≤ c.loop-column.column = omega arith in
    sym (row_by_cells g.row.W c.loop-column.block c.args.place c.args.row.now c.told-row (λ k h. sym (c.loop-column.invariant.0 k (omega (arith, h, all)))))

pub returns-clause-others : goal.returns-clause-others
returns-clause-others g c = λ p apart. same_row g.row.W c.loop-column.block c.args.block.now p p (λ k h. c.loop-column.invariant.1 k p apart)
