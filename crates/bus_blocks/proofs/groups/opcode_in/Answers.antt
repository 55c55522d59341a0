-- The bits spell it.
use Rattle.bus_blocks.proofs.OpcodeLemmas.{opcode_spelled}
use Rattle.bus_blocks.proofs.groups.opcode_in.Goals as goal

pub returns : goal.returns
returns g c = let spells = opcode_spelled (g.V.View.cells c.args.x.now) c.requires in cc
