-- The cells that an operation leaves on top of the stack, or the cause of its trap.
use Rattle.std.specs.Prelude.{ℕ, Bool, true, false, nat_lt, if◌then◌else◌, List, [], length, Option, Some, None, Result, Ok, Err}
use Rattle.vm_field.specs.Machine.{State}
use Rattle.vm_ops.specs.declared.cause.Cause.{Cause}
use Rattle.vm_ops.specs.declared.cause.Cause.TheVariants.{AdviceEmpty}
use Rattle.vm_ops.specs.declared.item.Item.{Item}
use Rattle.vm_ops.specs.declared.op.Op.{Op}
use Rattle.vm_ops.specs.declared.op.Op.TheVariants as ops
use Rattle.vm_ops.specs.Step.{left_cells}
use Rattle.vm_ops.specs.Stepping.{seen_at}
use Rattle.vm_ops.specs.Values.{Seen, advice_of, trap_of}

-- these cells, unless there is a cause
abbrev pub cells_unless : Option Cause → List ℕ → Result (List ℕ) Cause
cells_unless None cells = Ok cells
cells_unless (Some cause) cells = Err cause

-- the cells that are left of what the operation sees, or its own trap
unfoldable pub outcome : Op → Seen → Result (List ℕ) Cause
outcome op s = cells_unless (trap_of op s) (left_cells op s)

-- the same of a state: it is a trap too where the tape is too short
unfoldable pub outcome_at : List ℕ → Item → State → Result (List ℕ) Cause
outcome_at constants item s =
    if nat_lt (length s.tape) (advice_of item.op) then Err AdviceEmpty else outcome item.op (seen_at constants item s)

-- the operations that read more than cells of the stack
abbrev pub reads_more : Op → Bool
reads_more ops.FmpAdd = true
reads_more ops.MLoad = true
reads_more ops.Caller = true
reads_more ops.AdvPopW = true
reads_more ops.HPerm = true
reads_more ops.MLoadW = true
reads_more ops.MStore = true
reads_more ops.MStoreW = true
reads_more ops.AdvPop = true
reads_more ops.SDepth = true
reads_more ops.Clk = true
reads_more ops.Push = true
reads_more op = false

-- these cells alone
abbrev pub showing : List ℕ → Seen
showing cells = record {
  constants = [];
  immediate = 0;
  advice = [];
  word = [];
  clock = 0;
  fmp = 0;
  in_syscall = false;
  digest = [];
  depth = 0;
  cells = cells;
}

-- the operations that leave one cell, and never trap, of what the stack or the item holds
abbrev pub is_single : Op → Bool
is_single ops.Eqz = true
is_single ops.Neg = true
is_single ops.Incr = true
is_single ops.Eq = true
is_single ops.Add = true
is_single ops.Mul = true
is_single ops.Pad = true
is_single ops.Push = true
is_single ops.Dup0 = true
is_single ops.Dup1 = true
is_single ops.Dup2 = true
is_single ops.Dup3 = true
is_single ops.Dup4 = true
is_single ops.Dup5 = true
is_single ops.Dup6 = true
is_single ops.Dup7 = true
is_single ops.Dup9 = true
is_single ops.Dup11 = true
is_single ops.Dup13 = true
is_single ops.Dup15 = true
is_single op = false

-- the operations that only move cells of the stack, or take one off
abbrev pub is_move : Op → Bool
is_move ops.Noop = true
is_move ops.Swap = true
is_move ops.MovUp2 = true
is_move ops.MovDn2 = true
is_move ops.MovUp3 = true
is_move ops.MovDn3 = true
is_move ops.MovUp4 = true
is_move ops.MovDn4 = true
is_move ops.MovUp5 = true
is_move ops.MovDn5 = true
is_move ops.MovUp6 = true
is_move ops.MovDn6 = true
is_move ops.MovUp7 = true
is_move ops.MovDn7 = true
is_move ops.MovUp8 = true
is_move ops.MovDn8 = true
is_move ops.SwapW = true
is_move ops.SwapW2 = true
is_move ops.SwapW3 = true
is_move ops.SwapDW = true
is_move ops.Drop = true
is_move op = false
