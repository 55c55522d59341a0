-- How the rows of ordinary operations take the digits of a group, and the groups and immediates of a batch.
use Rattle.std.specs.Prelude.{◌≡◌, ◌≢◌, ℕ, ◌≤◌, true, false, List}
use Rattle.vm_field.specs.Signs.{◌⊞◌, ◌⊟◌, ◌⊠◌}
use Rattle.vm_ops.specs.Codes.{code_of, is_ordinary_op}
use Rattle.vm_ops.specs.declared.op.Op.{Op}
use Rattle.vm_ops.specs.declared.op.Op.TheVariants as ops
use Rattle.vm_table.specs.MainColumns.{h, gc, ox, w}
use Rattle.air_kit.specs.Flags.{is_op}

-- a row of an ordinary operation: one of nine places, and an inverse where something is left of the group
pub record IsGroupRow (op : Op) (x : List ℕ) : Type 0 where
  pub place : ox x ≤ 8
  pub witness : h x 0 ≢ code_of op → (h x 0 ⊟ code_of op) ⊠ w x 3 ≡ 1

-- The row behind such a row. A group from which something is left goes on, with what is left; so does one whose last operation is
-- PUSH, which takes a position. Where nothing is left, the next group is opened, or none is left and the batch ends.
pub data GoesOn (op next : Op) (x y : List ℕ) : Type 0 where
  stays : is_op op ops.Push ≡ false → is_ordinary_op next ≡ true → h x 0 ≢ code_of op → h x 0 ≡ code_of op ⊞ 128 ⊠ h y 0
      → ox y ≡ ox x ⊞ 1 → gc y ≡ gc x → GoesOn op next x y
  pushes : is_op op ops.Push ≡ true → is_ordinary_op next ≡ true → h x 0 ≡ code_of op ⊞ 128 ⊠ h y 0 → ox y ≡ ox x ⊞ 1
      → gc x ≡ gc y ⊞ 1 → GoesOn op next x y
  opens : is_op op ops.Push ≡ false → is_ordinary_op next ≡ true → h x 0 ≡ code_of op → ox y ≡ 0 → gc x ≡ gc y ⊞ 1
      → GoesOn op next x y
  ends : is_op op ops.Push ≡ false → is_ordinary_op next ≡ false → h x 0 ≡ code_of op → gc x ≡ 0 → GoesOn op next x y
