-- The flag of an operation: a product over the seven bits of a row, 1 where they spell its code and 0 where they spell
-- another one (docs/CONSTRAINTS.md, "Flags").
use Rattle.std.specs.Prelude.{◌≡◌, ℕ, zero, suc, ◌+◌, ◌*◌, ◌/◌, ◌%◌, ◌<◌, Bool, true, false, ◌==◌, if◌then◌else◌, List, [], ◌∷◌, unwrap_or}
use Rattle.vm_field.specs.Signs.{◌⊞◌, ◌⊟◌, ◌⊠◌}
use Rattle.vm_ops.specs.Codes.{code_of, every_op, op_at}
use Rattle.vm_ops.specs.Moves.{shift_of}
use Rattle.vm_ops.specs.declared.op.Op.{Op}
use Rattle.vm_ops.specs.declared.op.Op.TheVariants as ops
use Rattle.vm_ops.specs.declared.op.Shift.{Shift}
use Rattle.vm_ops.specs.declared.op.Shift.TheVariants.{Left, Stay, Right}
use Rattle.vm_table.specs.MainColumns.{b}

-- the seven bits of the operation are bits
abbrev pub HasBits : List ℕ → Type 0
HasBits row = (j : ℕ) → j < 7 → b row j < 2

-- the bit itself where the digit is 1, else 1 less the bit
abbrev pub factor : ℕ → ℕ → ℕ
factor digit bit = if digit == 1 then bit else 1 ⊟ bit

-- the product over so many bits by the binary digits of a code, lowest first
unfoldable pub flag_by : ℕ → ℕ → (ℕ → ℕ) → ℕ
flag_by zero code bit = 1
flag_by (suc n) code bit = factor (code % 2) (bit 0) ⊠ flag_by n (code / 2) (λ j. bit (suc j))

-- the flag of an operation in a row
unfoldable pub flag : List ℕ → Op → ℕ
flag row op = flag_by 7 (code_of op) (b row)

-- the flags of a row, or those of a row that has one operation
abbrev pub Flags : Type 0
Flags = Op → ℕ

-- the sum over operations
unfoldable pub sum_of : List Op → (Op → ℕ) → ℕ
sum_of [] value = 0
sum_of (op ∷ ops) value = value op ⊞ sum_of ops value

-- the sum over all operations of the flag times a value
unfoldable pub sum_over : Flags → (Op → ℕ) → ℕ
sum_over fl value = sum_of every_op (λ op. fl op ⊠ value op)

-- the sum of the flags of the operations that pass the test
unfoldable pub flags_of : (Op → Bool) → Flags → ℕ
flags_of test fl = sum_of every_op (λ op. if test op then fl op else 0)

-- whether two operations are the same
abbrev pub is_op : Op → Op → Bool
is_op op other = code_of op == code_of other

abbrev pub is_shift : Shift → Shift → Bool
is_shift Left Left = true
is_shift Stay Stay = true
is_shift Right Right = true
is_shift one other = false

-- the operations after which the stack has one cell fewer; END of a loop that was entered is not among them
abbrev pub is_left : Op → Bool
is_left op = is_shift Left (shift_of op)

-- those after which it has one more
abbrev pub is_right : Op → Bool
is_right op = is_shift Right (shift_of op)

-- the number that so many bits spell, lowest first
unfoldable pub spelled : ℕ → (ℕ → ℕ) → ℕ
spelled zero bit = 0
spelled (suc n) bit = bit 0 + 2 * spelled n (λ j. bit (suc j))

-- The operation that a row's bits spell. Where they spell none it is NOOP; such a row is refused by entry 8 at the latest.
unfoldable pub op_of : List ℕ → Op
op_of row = unwrap_or (op_at (spelled 7 (b row))) ops.Noop

-- the flags of a row that has this operation
abbrev pub one_hot : Op → Flags
one_hot op other = if is_op other op then 1 else 0

-- a row has the operation: its bits are bits, and spell its code
pub record HasOp (row : List ℕ) (op : Op) : Type 0 where
  pub bits : (j : ℕ) → j < 7 → b row j < 2
  pub spells : code_of op ≡ spelled 7 (b row)
  pub flags : (other : Op) → flag row other ≡ one_hot op other
