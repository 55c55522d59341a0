-- The sets of operations whose flags entries sum up.
use Rattle.std.specs.Prelude.{Bool, true}
use Rattle.vm_ops.specs.Codes.{is_ordinary_op, is_start_op}
use Rattle.vm_ops.specs.declared.op.Op.{Op}
use Rattle.air_kit.specs.declared.sets.OpSet.{OpSet}
use Rattle.air_kit.specs.declared.sets.OpSet.TheVariants as sets
use Rattle.air_kit.specs.Flags.{is_left, is_right}

abbrev pub passes_of : OpSet → Op → Bool
passes_of sets.Every op = true
passes_of sets.Ordinary op = is_ordinary_op op
passes_of sets.Start op = is_start_op op
passes_of sets.Left op = is_left op
passes_of sets.Right op = is_right op
