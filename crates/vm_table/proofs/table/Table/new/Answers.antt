use Rattle.std.proofs.Common.{ap, length}
use Rattle.vm_table.proofs.BlockLemmas.{rows_none, held_none}
use Rattle.vm_table.proofs.table.Table.new.Goals as goal

pub invariant_of-result : goal.invariant_of-result
invariant_of-result g c = (held_none g.row.W c.new.result.items, ap length c.new.ensures.items)

pub returns : goal.returns
returns g c = record { empty = rows_none g.row.W c.new.result.items }
