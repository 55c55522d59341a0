use Rattle.std.proofs.Common.{◌≡◌, map, take}
use Rattle.std_u64.specs.Table.{instruction_of}
use Rattle.std_u64.proofs.table.instructions.Given as goal

abbrev pub invariant-loop-step : goal.invariant-loop-step
invariant-loop-step l = l.list.items ≡ map instruction_of (take l.step-index l.table)
