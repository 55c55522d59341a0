-- The witnesses of a row: what its constraints or its lookups ask and nothing else in it shows. The inverse of 0 is 0 here.
use Rattle.std.specs.Prelude.{ℕ, ◌-◌, ◌/◌, ◌^◌, ◌==◌, if◌then◌else◌, List, [], ◌∷◌, take, drop}
use Rattle.vm_field.specs.Field.{felt_inv}
use Rattle.vm_field.specs.Signs.{◌⊟◌}
use Rattle.vm_ops.specs.Codes.{code_of}
use Rattle.vm_ops.specs.declared.op.Op.{Op}
use Rattle.vm_ops.specs.declared.op.Op.TheVariants as ops
use Rattle.op_pack.specs.Reading.{positions_in_use}
use Rattle.machine_cycles.specs.declared.event.Visible.{Visible}
use Rattle.complete_rows.specs.Limbs.{cell}

-- the inverse of the first number that is not 0, in its place
abbrev pub first_inverse : List ℕ → List ℕ
first_inverse [] = []
first_inverse (x ∷ xs) = if x == 0 then 0 ∷ first_inverse xs else felt_inv x ∷ []

-- the second half of the positions in use; none where one position is
abbrev pub upper_half : List ℕ → List ℕ
upper_half batch = take (positions_in_use batch / 2) (drop (positions_in_use batch / 2) batch)

-- of a row that begins a batch: one of the positions that a smaller count would leave out is not 0
abbrev pub batch_witnesses : List ℕ → List ℕ
batch_witnesses batch = first_inverse (upper_half batch)

-- Comparisons show that their operands differ, and operations that leave two words that the high one is not 2^32 - 1.
abbrev pub difference : Op → Visible → Visible → ℕ
difference ops.Eqz x y = cell x 0
difference ops.Eq x y = cell x 0 ⊟ cell x 1
difference ops.U32Split x y = (2 ^ 32 - 1) ⊟ cell y 0
difference ops.U32Mul x y = (2 ^ 32 - 1) ⊟ cell y 0
difference ops.U32MAdd x y = (2 ^ 32 - 1) ⊟ cell y 0
difference op x y = 0

-- HPERM has the hasher address of its permutation there
abbrev pub first_witness : Op → ℕ → Visible → Visible → ℕ
first_witness ops.HPerm address x y = address
first_witness op address x y = felt_inv (difference op x y)

-- of a row of an operation with which the group has a number left
unfoldable pub operation_witnesses : Op → ℕ → ℕ → Visible → Visible → List ℕ
operation_witnesses op address number x y = first_witness op address x y ∷ 0 ∷ 0 ∷ felt_inv (number ⊟ code_of op) ∷ []
