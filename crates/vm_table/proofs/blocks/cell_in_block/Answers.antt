use Rattle.std.proofs.Common.{sym, ◌∙◌, ◌<◌, length, get_or, [], arith}
use Rattle.std.proofs.lemmas.List.{get_or_default}
use Rattle.vm_table.proofs.BlockLemmas.{row_cell, row_length}
use Rattle.vm_table.proofs.blocks.cell_in_block.Goals as goal

pub returns-clause-is : goal.returns-clause-is
returns-clause-is g c =
    let long = c.known_column.ensures in
    let inside : c.args.place < length (get_or c.args.block.now c.args.column []) = omega (arith, long, c.requires.place) in
    get_or_default (get_or c.args.block.now c.args.column []) c.args.place _ 0 inside
    ∙ sym (row_cell g.row.W c.args.block.now c.args.place c.args.column c.requires.column)

pub returns-clause-wide : goal.returns-clause-wide
returns-clause-wide g c = row_length g.row.W c.args.block.now c.args.place
