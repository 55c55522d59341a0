-- Entries 148 to 151 of the main table: what a dynamic block is hashed from, whatever child it runs.
use Rattle.std.specs.Prelude.{ℕ, List}
use Rattle.vm_field.specs.Signs.{◌⊠◌}
use Rattle.vm_ops.specs.declared.op.Op.TheVariants as ops
use Rattle.vm_table.specs.MainColumns.{h}
use Rattle.air_kit.specs.Places.{RowEntry, Spot, on_row, family}

-- the first four hash elements are zeros, as the last four are by 75 to 78
unfoldable pub entry_148 : ℕ → RowEntry
entry_148 j fl x = fl ops.Dyn ⊠ h x j

unfoldable pub dyn_values : Spot → List ℕ
dyn_values p = family 4 (λ j. on_row (entry_148 j) p)
