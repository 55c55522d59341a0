-- The first row and the last one.
use Rattle.std.specs.Prelude.{◌≡◌, ℕ, ◌+◌, ◌^◌, ◌<◌, ◌≤◌, true, length, slice_index, List}
use Rattle.vm_field.specs.Field.{prime}
use Rattle.vm_field.specs.Limits.{most_inputs}
use Rattle.vm_ops.specs.Codes.{is_start_op}
use Rattle.vm_ops.specs.declared.op.Op.{Op}
use Rattle.vm_ops.specs.declared.op.Op.TheVariants as ops
use Rattle.vm_table.specs.MainColumns.{clk, addr, ctx, fmp, sys, f, lv, depth, key, s}
use Rattle.air_kit.specs.BoundaryValues.{rows_in}
use Rattle.air_kit.specs.DeepCells.{depth_at_start, key_at_start}
use Rattle.air_kit.specs.Flags.{is_op}
use Rattle.air_kit.specs.Places.{Claim}
use Rattle.air_kit.specs.declared.trace.TableName.TheVariants as table

-- what stands beside the rows is in the range of elements, and the outputs are sixteen or more
pub record IsLowClaim (k : Claim) : Type 0 where
  pub inputs : (j : ℕ) → slice_index k.inputs j < prime
  pub some_inputs : length k.inputs ≤ most_inputs
  pub outputs : (j : ℕ) → slice_index k.outputs j < prime
  pub lengths : (j : ℕ) → slice_index k.lengths j < prime
  pub kernel : length k.kernel < prime
  pub deep : 16 ≤ length k.outputs
  pub few : length k.outputs < prime
  pub key : k.left_key < prime

-- the run starts at clock 0 with a block and with nothing around it, on a stack as deep as its inputs are
pub record StartsRun (k : Claim) (op : Op) (x : List ℕ) : Type 0 where
  pub starts : is_start_op op ≡ true
  pub clock : clk x ≡ 0
  pub block : addr x ≡ 0
  pub context : ctx x ≡ 0
  pub frame : fmp x ≡ 2 ^ 30
  pub syscall : sys x ≡ 0
  pub digest : (j : ℕ) → j < 4 → f x j ≡ 0
  pub level : lv x ≡ 0
  pub depth_is : depth x ≡ depth_at_start k
  pub key_is : key x ≡ key_at_start k

pub record IsFirstRow (k : Claim) (op : Op) (x : List ℕ) : Type 0 where
  pub start : StartsRun k op x
  pub inputs : (j : ℕ) → j < 16 → s x j ≡ slice_index k.inputs j
  pub kernel : rows_in k table.Kernel ≡ length k.kernel
  pub left : rows_in k table.Left + 16 ≡ length k.outputs

-- the run ends with HALT and the outputs
pub record IsLastRow (k : Claim) (op : Op) (x : List ℕ) : Type 0 where
  pub halts : is_op op ops.Halt ≡ true
  pub depth_is : depth x ≡ length k.outputs
  pub key_is : key x ≡ k.left_key
  pub outputs : (j : ℕ) → j < 16 → s x j ≡ slice_index k.outputs j
