use Rattle.vm_table.proofs.BlockLemmas.{rows_of_push}
use Rattle.vm_table.proofs.table.Table.rows.Goals as goal

pub returns-clause-is : goal.returns-clause-is
returns-clause-is g c = rows_of_push g.row.W c.self.inside.rows c.self.inside.blocks.items c.args.self.now c.self.view_is
