use Rattle.std.proofs.Common.{ap, ◌≡◌, length, arith}
use Rattle.vm_table.specs.Blocks.{blocks_for}
use Rattle.vm_table.proofs.BlockLemmas.{rows_of_push}
use Rattle.vm_table.proofs.table.Table.blocks.Goals as goal

pub returns : goal.returns
returns g c =
    let long : c.self.inside.rows ≡ length c.args.self.now = rows_of_push g.row.W c.self.inside.rows c.self.inside.blocks.items c.args.self.now c.self.view_is in
    let full = c.self.invariant.1 in
    record { is = omega (arith, c.len.ensures, full, ap blocks_for long) }
