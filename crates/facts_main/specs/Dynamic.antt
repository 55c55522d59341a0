-- What a row shows of what a dynamic block is hashed from.
use Rattle.std.specs.Prelude.{◌≡◌, ℕ, ◌<◌, true, List}
use Rattle.vm_ops.specs.declared.op.Op.{Op}
use Rattle.vm_ops.specs.declared.op.Op.TheVariants as ops
use Rattle.vm_table.specs.MainColumns.{h}
use Rattle.air_kit.specs.Flags.{is_op}

-- It is hashed from zeros: the first four are here, the last four are those behind an only child's digest.
abbrev pub IsDynRow : Op → List ℕ → Type 0
IsDynRow op x = is_op op ops.Dyn ≡ true → (j : ℕ) → j < 4 → h x j ≡ 0
