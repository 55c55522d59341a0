-- The instructions of the procedures, as the code has them in a table.
use Rattle.std.specs.Option.{option_to_list}
use Rattle.masm_instr.specs.Instructions.{Instruction}
use Rattle.std_u64.specs.declared.table.Step.{Step}

abbrev pub instruction_of : Step → Instruction
instruction_of step = record { name = step.name; numbers = option_to_list step.number }
