-- A row and the one after it, as a place, and the operations whose operands entries test.
use Rattle.std.specs.Prelude.{◌≡◌, ℕ, Bool, true, false, List, Option}
use Rattle.vm_ops.specs.declared.op.Op.{Op}
use Rattle.vm_ops.specs.declared.op.Op.TheVariants as ops
use Rattle.air_kit.specs.Flags.{Flags}
use Rattle.air_kit.specs.Places.{Spot}

-- the place of a row with the one after it; no entry of the stack reads the row's number
abbrev pub spot_between : List ℕ → Option (List ℕ) → Spot
spot_between x next = record { row = 0; cur = x; next = next }

-- the operations whose flags the entries of operands read
abbrev pub has_operands : Op → Bool
has_operands ops.Eqz = true
has_operands ops.Eq = true
has_operands ops.Not = true
has_operands ops.And = true
has_operands ops.Or = true
has_operands ops.CSwap = true
has_operands ops.CSwapW = true
has_operands ops.Assert = true
has_operands op = false

-- their flags are 0
abbrev pub HasNoOperands : Flags → Type 0
HasNoOperands fl = (op : Op) → has_operands op ≡ true → fl op ≡ 0
