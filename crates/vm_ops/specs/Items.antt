-- Items of an operation list.
use Rattle.std.specs.Prelude.{ℕ, ◌≡◌, ◌≢◌, ◌<◌, IsTrue, MatchOption, Some, None}
use Rattle.vm_field.specs.Field.{prime}
use Rattle.vm_ops.specs.Codes.{is_ordinary_op}
use Rattle.vm_ops.specs.declared.op.Op.{Op}
use Rattle.vm_ops.specs.declared.op.Op.TheVariants.{Push}
use Rattle.vm_ops.specs.declared.item.Item.{Item}

-- an operation with no immediate
abbrev pub plain_item : Op → Item
plain_item op = record { op = op; imm = None }

-- PUSH of an element
abbrev pub push_item : ℕ → Item
push_item value = record { op = Push; imm = Some value }

-- an ordinary operation, with an immediate exactly at PUSH, which is an element
pub record IsOrdinaryItem (item : Item) : Type 0 where
  pub ordinary : IsTrue (is_ordinary_op item.op)
  pub immediate : MatchOption item.imm (item.op ≢ Push) (λ value. (item.op ≡ Push) × (value < prime))

-- one that can be packed: its immediate is not 0, since a PUSH of 0 is written as PAD
pub record IsPackableItem (item : Item) : Type 0 where
  pub ordinary : IsOrdinaryItem item
  pub immediate : MatchOption item.imm (Unit {0}) (λ value. value ≢ 0)
