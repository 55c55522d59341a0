-- What a row of the main table and the row behind it show, by their operations. These facts are all that the entries on operations,
-- boundaries, blocks and spans ask.
use Rattle.std.specs.Prelude.{◌≡◌, ℕ, ◌<◌, true, if◌then◌else◌, List, Some, None, slice_index}
use Rattle.vm_field.specs.Field.{prime}
use Rattle.vm_field.specs.Signs.{◌⊞◌}
use Rattle.vm_ops.specs.Codes.{is_ordinary_op}
use Rattle.vm_ops.specs.declared.op.Op.{Op}
use Rattle.vm_table.specs.MainColumns.{clk, sp, s}
use Rattle.air_kit.specs.Flags.{HasOp, op_of}
use Rattle.air_kit.specs.MainTuples.{is_batch_op}
use Rattle.air_kit.specs.Places.{Claim, Spot}
use Rattle.facts_main.specs.Batches.{ShowsBatch, OpensBatch}
use Rattle.facts_main.specs.Blocks.{IsBlockRow, KeepsBlock, KeepsBatch}
use Rattle.facts_main.specs.Bounds.{IsFirstRow, IsLastRow}
use Rattle.facts_main.specs.Follows.{may_follow}
use Rattle.facts_main.specs.Groups.{IsGroupRow, GoesOn}

-- a row of elements that has the operation, and whose bit of spans is set in the rows of ordinary operations alone
pub record ReadsAs (op : Op) (x : List ℕ) : Type 0 where
  pub low : (k : ℕ) → slice_index x k < prime
  pub has : HasOp x op
  pub span : sp x ≡ (if is_ordinary_op op then 1 else 0)

-- a row in its place, and the row behind it, if there is one, read as operations
pub record HasOps (op : Op) (p : Spot) : Type 0 where
  pub here : ReadsAs op p.cur
  pub behind : (y : List ℕ) → p.next ≡ Some y → ReadsAs (op_of y) y

-- a row
pub record IsRow (op : Op) (x : List ℕ) : Type 0 where
  pub block : IsBlockRow op x
  pub batch : is_batch_op op ≡ true → ShowsBatch x
  pub group : is_ordinary_op op ≡ true → IsGroupRow op x

-- a row and the row behind it
pub record IsPair (op next : Op) (x y : List ℕ) : Type 0 where
  pub clock : clk y ≡ clk x ⊞ 1
  pub follows : may_follow op (s x 0) next ≡ true
  pub block : KeepsBlock op x y
  pub batch : KeepsBatch op x y
  pub opens : is_batch_op op ≡ true → OpensBatch x y
  pub group : is_ordinary_op op ≡ true → GoesOn op next x y

-- a row in its place
pub record IsAtSpot (k : Claim) (op : Op) (p : Spot) : Type 0 where
  pub row : IsRow op p.cur
  pub pair : (y : List ℕ) → p.next ≡ Some y → IsPair op (op_of y) p.cur y
  pub first : p.row ≡ 0 → IsFirstRow k op p.cur
  pub last : p.next ≡ None → IsLastRow k op p.cur
