-- What a cycle's row shows of it, from its mark and the states around it (docs/MACHINE.md, "Cycles").
use Rattle.std.specs.Prelude.{ℕ, ◌-◌, if◌then◌else◌, List, [], ◌∷◌, ◌++◌, length, replicate, Option, None, Result, Ok, Err}
use Rattle.vm_field.specs.Machine.{Core, word_at, zero_word}
use Rattle.vm_ops.specs.Codes.{accesses_memory}
use Rattle.vm_ops.specs.declared.cause.Cause.{Cause}
use Rattle.vm_ops.specs.declared.op.Op.{Op}
use Rattle.vm_ops.specs.declared.op.Op.TheVariants as ops
use Rattle.block_tree.specs.Cycles.{Mark, StartOpaque, StartSpan, StartJoin, StartSplit, StartLoop, StartCall, StartSyscall, StartDyn, Respan, Repeat, Do, End, EndSpan, EndLoop, EndCall, EndSyscall, top}

-- The operation of a cycle's row. An opaque block never starts, and so has no row; it has the name of a span here.
abbrev pub op_of_mark : Mark → Op
op_of_mark StartOpaque = ops.Span
op_of_mark (StartSpan batch) = ops.Span
op_of_mark (StartJoin first second) = ops.Join
op_of_mark (StartSplit on_one on_zero) = ops.Split
op_of_mark (StartLoop body) = ops.Loop
op_of_mark (StartCall callee) = ops.Call
op_of_mark (StartSyscall callee) = ops.Syscall
op_of_mark (StartDyn known) = ops.Dyn
op_of_mark (Respan batch) = ops.Respan
op_of_mark (Repeat body) = ops.Repeat
op_of_mark (Do item) = item.op
op_of_mark (End digest) = ops.End
op_of_mark (EndSpan digest) = ops.End
op_of_mark (EndLoop digest) = ops.End
op_of_mark (EndCall digest frame) = ops.End
op_of_mark (EndSyscall digest frame) = ops.End

-- what PUSH pushes
abbrev pub immediate_of : Mark → Option ℕ
immediate_of (Do item) = item.imm
immediate_of mark = None

-- The eight elements of hashing: a batch, the digests of the children, or the digest of the block that ends, behind which
-- stands whether it is a loop that was entered, a span, a call or a syscall.
abbrev pub hash_of : Mark → List ℕ
hash_of StartOpaque = zero_word ++ zero_word
hash_of (StartSpan batch) = batch
hash_of (StartJoin first second) = first ++ second
hash_of (StartSplit on_one on_zero) = on_one ++ on_zero
hash_of (StartLoop body) = body ++ zero_word
hash_of (StartCall callee) = callee ++ zero_word
hash_of (StartSyscall callee) = callee ++ zero_word
hash_of (StartDyn known) = zero_word ++ zero_word
hash_of (Respan batch) = batch
hash_of (Repeat body) = body ++ zero_word
hash_of (Do item) = zero_word ++ zero_word
hash_of (End digest) = digest ++ zero_word
hash_of (EndLoop digest) = digest ++ (1 ∷ 0 ∷ 0 ∷ 0 ∷ [])
hash_of (EndSpan digest) = digest ++ (0 ∷ 1 ∷ 0 ∷ 0 ∷ [])
hash_of (EndCall digest frame) = digest ++ (0 ∷ 0 ∷ 1 ∷ 0 ∷ [])
hash_of (EndSyscall digest frame) = digest ++ (0 ∷ 0 ∷ 0 ∷ 1 ∷ [])

-- the word that the cycle reads or writes, as it stands behind the cycle
abbrev pub accessed : Mark → Core → Core → List ℕ
accessed mark before after = if accesses_memory (op_of_mark mark) then word_at after.memory before.context (top before) else zero_word

-- the elements that the cycle takes of the tape, and zeros behind them
abbrev pub four_of : List ℕ → List ℕ
four_of elements = elements ++ replicate (4 - length elements) 0

-- the state behind a cycle that did not trap
abbrev pub behind : Result Core Cause → Core → Core
behind (Ok after) before = after
behind (Err cause) before = before
