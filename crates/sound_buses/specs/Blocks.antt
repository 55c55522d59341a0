-- Where blocks start and end, and which END is whose.
use Rattle.std.specs.Prelude.{◌≡◌, ℕ, suc, ◌<◌, true, ◌==◌, ◌&&◌, if◌then◌else◌, List, length}
use Rattle.vm_ops.specs.Codes.{is_start_op}
use Rattle.vm_ops.specs.declared.op.Op.{Op}
use Rattle.vm_ops.specs.declared.op.Op.TheVariants as ops
use Rattle.vm_table.specs.MainColumns.{addr, h, s}
use Rattle.air_kit.specs.Flags.{is_op}
use Rattle.air_kit.specs.MainTuples.{frame_cells, is_call_op}
use Rattle.vm_table.specs.Layout.{row_at}
use Rattle.facts_main.specs.MainRows.{op_in}

-- row i has this operation, and a row stands behind it
pub record IsAt (rows : List (List ℕ)) (i : ℕ) (op : Op) : Type 0 where
  pub within : suc i < length rows
  pub is : op_in rows i ≡ op

-- a block starts in row j, and a row stands behind it
pub record Starts (rows : List (List ℕ)) (j : ℕ) : Type 0 where
  pub within : suc j < length rows
  pub is : is_start_op (op_in rows j) ≡ true

-- the hasher's address of the block that starts in row j: the row behind it stands inside of the block
abbrev pub own : List (List ℕ) → ℕ → ℕ
own rows j = addr (row_at rows (suc j))

-- the four flags of an END, by the operation that started the block and the cell on top there
pub record ShowsKind (op : Op) (top : ℕ) (x : List ℕ) : Type 0 where
  pub entered : h x 4 ≡ (if is_op op ops.Loop && (top == 1) then 1 else 0)
  pub span : h x 5 ≡ (if is_op op ops.Span then 1 else 0)
  pub call : h x 6 ≡ (if is_op op ops.Call then 1 else 0)
  pub syscall : h x 7 ≡ (if is_op op ops.Syscall then 1 else 0)

-- The block that starts in row j ends in row e: the END has its address, its flags are those of the block's kind, and the row behind
-- it stands where the start stood, with what a call set aside.
pub record Closes (rows : List (List ℕ)) (j e : ℕ) : Type 0 where
  pub starts : Starts rows j
  pub ends : IsAt rows e ops.End
  pub own_is : own rows j ≡ addr (row_at rows e)
  pub parent : addr (row_at rows (suc e)) ≡ addr (row_at rows j)
  pub flags : ShowsKind (op_in rows j) (s (row_at rows j) 0) (row_at rows e)
  pub frame : is_call_op (op_in rows j) ≡ true → frame_cells (row_at rows (suc e)) ≡ frame_cells (row_at rows j)

-- Blocks have addresses of their own, and each END is that of one block, which has no other END.
pub record BlockFacts (rows : List (List ℕ)) : Type 0 where
  pub positive : (j : ℕ) → Starts rows j → 0 < own rows j
  pub one : (i j : ℕ) → Starts rows i → Starts rows j → own rows i ≡ own rows j → i ≡ j
  pub block : (e : ℕ) → IsAt rows e ops.End → (j : ℕ) × Closes rows j e
  pub once : (d e : ℕ) → IsAt rows d ops.End → IsAt rows e ops.End → addr (row_at rows d) ≡ addr (row_at rows e) → d ≡ e
