-- How the stack moves before the cells that are left are written.
use Rattle.std.specs.Prelude.{ℕ, List, drop}
use Rattle.vm_field.specs.Machine.{filled_up}
use Rattle.vm_ops.specs.declared.op.Shift.{Shift}
use Rattle.vm_ops.specs.declared.op.Shift.TheVariants.{Left, Stay, Right}

-- without the top cell at a shift to the left
abbrev pub shifted : Shift → List ℕ → List ℕ
shifted Left stack = filled_up (drop 1 stack)
shifted Stay stack = stack
shifted Right stack = stack
