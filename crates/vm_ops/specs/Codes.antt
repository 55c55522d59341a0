-- The operations' codes, names and classes.
use Rattle.std.specs.Prelude.{ℕ, Bool, true, false, nat_lt, List, [], ◌∷◌, slice_get, Option}
use Rattle.vm_ops.specs.declared.op.Op.{Op}
use Rattle.vm_ops.specs.declared.op.Op.TheVariants as ops
use Rattle.vm_ops.specs.declared.kind.Kind.{Kind}
use Rattle.vm_ops.specs.declared.kind.Kind.TheVariants as kinds
use Rattle.vm_ops.specs.Table.{row_of}

-- the code of an operation
abbrev pub code_of : Op → ℕ
code_of op = (row_of op).code

-- the name of an operation, as it is printed
abbrev pub text_of_op : Op → List ℕ
text_of_op op = (row_of op).text

-- all operations, in the order of their codes
unfoldable pub every_op : List Op
every_op =
    ops.Noop ∷ ops.Eqz ∷ ops.Neg ∷ ops.Inv ∷ ops.Incr ∷ ops.Not ∷ ops.FmpAdd ∷ ops.MLoad ∷ ops.Swap ∷ ops.Caller ∷
    ops.MovUp2 ∷ ops.MovDn2 ∷ ops.MovUp3 ∷ ops.MovDn3 ∷ ops.MovUp4 ∷ ops.MovDn4 ∷ ops.MovUp5 ∷ ops.MovDn5 ∷
    ops.MovUp6 ∷ ops.MovDn6 ∷ ops.MovUp7 ∷ ops.MovDn7 ∷ ops.MovUp8 ∷ ops.MovDn8 ∷ ops.SwapW ∷ ops.SwapW2 ∷
    ops.SwapW3 ∷ ops.SwapDW ∷ ops.AdvPopW ∷ ops.HPerm ∷ ops.U32Add ∷ ops.U32Sub ∷ ops.U32Mul ∷ ops.U32Div ∷
    ops.U32Assert2 ∷ ops.Assert ∷ ops.Eq ∷ ops.Add ∷ ops.Mul ∷ ops.And ∷ ops.Or ∷ ops.U32And ∷ ops.U32Xor ∷
    ops.Drop ∷ ops.CSwap ∷ ops.CSwapW ∷ ops.MLoadW ∷ ops.MStore ∷ ops.MStoreW ∷ ops.FmpUpdate ∷ ops.U32Add3 ∷
    ops.U32MAdd ∷ ops.Pad ∷ ops.Dup0 ∷ ops.Dup1 ∷ ops.Dup2 ∷ ops.Dup3 ∷ ops.Dup4 ∷ ops.Dup5 ∷ ops.Dup6 ∷ ops.Dup7
    ∷ ops.Dup9 ∷ ops.Dup11 ∷ ops.Dup13 ∷ ops.Dup15 ∷ ops.AdvPop ∷ ops.SDepth ∷ ops.Clk ∷ ops.U32Split ∷ ops.Push ∷
    ops.Join ∷ ops.Split ∷ ops.Loop ∷ ops.Span ∷ ops.Call ∷ ops.Syscall ∷ ops.End ∷ ops.Repeat ∷ ops.Respan ∷
    ops.Halt ∷ ops.Dyn ∷ []

-- the operation of a code; none outside the table
unfoldable pub op_at : ℕ → Option Op
op_at code = slice_get every_op code

-- what the cycles of an operation are
abbrev pub kind_of : Op → Kind
kind_of op = (row_of op).kind

abbrev pub is_ordinary_kind : Kind → Bool
is_ordinary_kind kinds.Ordinary = true
is_ordinary_kind kinds.Join = false
is_ordinary_kind kinds.Split = false
is_ordinary_kind kinds.Loop = false
is_ordinary_kind kinds.Span = false
is_ordinary_kind kinds.Call = false
is_ordinary_kind kinds.Syscall = false
is_ordinary_kind kinds.Dyn = false
is_ordinary_kind kinds.End = false
is_ordinary_kind kinds.Repeat = false
is_ordinary_kind kinds.Respan = false
is_ordinary_kind kinds.Halt = false

abbrev pub is_start_kind : Kind → Bool
is_start_kind kinds.Ordinary = false
is_start_kind kinds.Join = true
is_start_kind kinds.Split = true
is_start_kind kinds.Loop = true
is_start_kind kinds.Span = true
is_start_kind kinds.Call = true
is_start_kind kinds.Syscall = true
is_start_kind kinds.Dyn = true
is_start_kind kinds.End = false
is_start_kind kinds.Repeat = false
is_start_kind kinds.Respan = false
is_start_kind kinds.Halt = false

-- the ordinary operations, which a batch holds
abbrev pub is_ordinary_op : Op → Bool
is_ordinary_op op = is_ordinary_kind (kind_of op)

-- the operations that start a block
abbrev pub is_start_op : Op → Bool
is_start_op op = is_start_kind (kind_of op)

-- those that take elements from the tape
abbrev pub takes_advice : Op → Bool
takes_advice op = nat_lt 0 (row_of op).advice

-- those that read or write this context's word of memory at the address on top
abbrev pub accesses_memory : Op → Bool
accesses_memory ops.MLoad = true
accesses_memory ops.MLoadW = true
accesses_memory ops.MStore = true
accesses_memory ops.MStoreW = true
accesses_memory op = false

-- those that write it
abbrev pub writes_memory : Op → Bool
writes_memory ops.MStore = true
writes_memory ops.MStoreW = true
writes_memory op = false

-- those of which a value depends on what their row does not show: on memory, the tape, an immediate or the permutation
abbrev pub reads_elsewhere : Op → Bool
reads_elsewhere ops.MLoad = true
reads_elsewhere ops.MLoadW = true
reads_elsewhere ops.AdvPop = true
reads_elsewhere ops.AdvPopW = true
reads_elsewhere ops.Push = true
reads_elsewhere ops.HPerm = true
reads_elsewhere op = false
