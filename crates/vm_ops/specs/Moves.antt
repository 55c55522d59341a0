-- How many cells each operation takes from the top of the stack and which it leaves there (docs/MACHINE.md).
use Rattle.std.specs.Prelude.{ℕ, ◌+◌, nat_lt, if◌then◌else◌, List, length}
use Rattle.vm_ops.specs.declared.op.Op.{Op}
use Rattle.vm_ops.specs.declared.op.Shift.{Shift}
use Rattle.vm_ops.specs.declared.op.Shift.TheVariants.{Left, Stay, Right}
use Rattle.vm_ops.specs.Table.{row_of}

-- the cells taken
abbrev pub takes_of : Op → ℕ
takes_of op = (row_of op).takes

-- the cells of which copies are left, in their order from the top
abbrev pub sources_of : Op → List ℕ
sources_of op = (row_of op).sources

-- how many values are computed
abbrev pub computes_of : Op → ℕ
computes_of op = (row_of op).computes

-- the cells left in place of those taken: the values computed, then the cells moved
abbrev pub leaves_of : Op → ℕ
leaves_of op = computes_of op + length (sources_of op)

abbrev pub shift_between : ℕ → ℕ → Shift
shift_between taken left = if nat_lt left taken then Left else if nat_lt taken left then Right else Stay

-- Left where one cell fewer is left than taken, Right where one more is left
abbrev pub shift_of : Op → Shift
shift_of op = shift_between (takes_of op) (leaves_of op)
