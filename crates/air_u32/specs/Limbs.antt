-- The operations whose flags the entries read; in a row of another one all entries are 0.
use Rattle.std.specs.Prelude.{◌≡◌, Bool, true, false}
use Rattle.vm_ops.specs.declared.op.Op.{Op}
use Rattle.vm_ops.specs.declared.op.Op.TheVariants as ops
use Rattle.air_kit.specs.Flags.{Flags}

-- the operations with limbs
abbrev pub has_limbs : Op → Bool
has_limbs ops.U32Split = true
has_limbs ops.U32Add = true
has_limbs ops.U32Sub = true
has_limbs ops.U32Mul = true
has_limbs ops.U32Div = true
has_limbs ops.U32Assert2 = true
has_limbs ops.U32Add3 = true
has_limbs ops.U32MAdd = true
has_limbs op = false

-- their flags are 0
abbrev pub HasNoLimbs : Flags → Type 0
HasNoLimbs fl = (op : Op) → has_limbs op ≡ true → fl op ≡ 0
