-- What each kind of cycle does to the machine's state, and when it traps (docs/MACHINE.md, "Cycles" and "Calls").
use Rattle.std.specs.Prelude.{ℕ, ◌+◌, ◌-◌, ◌^◌, Bool, true, nat_lt, nat_eq, if◌then◌else◌, List, [], ◌∷◌, ◌++◌, length, take, drop, slice_index, Result, Ok, Err, is_some}
use Rattle.std.specs.List.{list_any}
use lib.Pointwise.{pointwise}
use Rattle.vm_field.specs.Limits.{most_nesting}
use Rattle.vm_field.specs.Machine.{Core, filled_up}
use Rattle.vm_ops.specs.declared.item.Item.{Item}
use Rattle.vm_ops.specs.declared.cause.Cause.{Cause}
use Rattle.vm_ops.specs.declared.cause.Cause.TheVariants.{NestedTooDeep, OpaqueBlock, UnknownTarget, BadBatch, NotBinary, CallInSyscall, NotInKernel, DepthAtReturn}
use Rattle.vm_ops.specs.Values.{is_bit, advice_of}
use Rattle.vm_ops.specs.Step.{act}
use Rattle.op_pack.specs.Reading.{reading}

-- What a cycle does to all but the clock and the tape: the state behind it, or the cause of its trap.
abbrev pub Cycle : Type 0
Cycle = Core → Result Core Cause

-- what a call sets aside until it ends
pub record Frame : Type 0 where
  pub context : ℕ
  pub fmp : ℕ
  pub in_syscall : Bool
  pub digest : List ℕ  -- of the function that runs
  pub hidden : List ℕ  -- the cells below the sixteenth

abbrev pub frame_of : Core → Frame
frame_of c = record { context = c.context; fmp = c.fmp; in_syscall = c.in_syscall; digest = c.digest; hidden = drop 16 c.stack }

-- The cycles of a run, each with what its row shows: the digests of a starting block's children, the batch that is begun, the
-- digest of a loop's body, the operation, the digest of the block that ends and a call's frame.
pub data Mark : Type 0 where
  StartOpaque : Mark
  StartSpan : (batch : List ℕ) → Mark
  StartJoin : (first second : List ℕ) → Mark
  StartSplit : (on_one on_zero : List ℕ) → Mark
  StartLoop : (body : List ℕ) → Mark
  StartCall : (callee : List ℕ) → Mark
  StartSyscall : (callee : List ℕ) → Mark
  StartDyn : (known : Bool) → Mark  -- whether there is a target of the digest on top of the stack
  Respan : (batch : List ℕ) → Mark
  Repeat : (body : List ℕ) → Mark
  Do : (item : Item) → Mark
  End : (digest : List ℕ) → Mark  -- of a join, a split, a dynamic block, or a loop that was not entered
  EndSpan : (digest : List ℕ) → Mark
  EndLoop : (digest : List ℕ) → Mark  -- of a loop that was entered
  EndCall : (digest : List ℕ) (frame : Frame) → Mark
  EndSyscall : (digest : List ℕ) (frame : Frame) → Mark

abbrev pub top : Core → ℕ
top c = slice_index c.stack 0

-- the digest on top of the stack, its last element on top
abbrev pub called_word : Core → List ℕ
called_word c = slice_index c.stack 3 ∷ slice_index c.stack 2 ∷ slice_index c.stack 1 ∷ slice_index c.stack 0 ∷ []

-- the top cell is popped, and must be 0 or 1
unfoldable pub pops_bit : Cycle
pops_bit c = if is_bit (top c) then Ok (record c { stack = filled_up (drop 1 c.stack) }) else Err NotBinary

-- a block starts where fewer than 1,024 have started and not ended
unfoldable pub opens : Cycle → Cycle
opens effect c = if nat_lt c.nesting most_nesting then effect (record c { nesting = c.nesting + 1 }) else Err NestedTooDeep

-- a block ends
unfoldable pub closes : Cycle
closes c = Ok (record c { nesting = c.nesting - 1 })

-- one cycle's effect, then what more the same cycle does
abbrev pub and_then : Result Core Cause → Cycle → Result Core Cause
and_then (Ok c) effect = effect c
and_then (Err cause) effect = Err cause

-- the batch must have a reading
unfoldable pub reads : List ℕ → Cycle
reads batch c = if is_some (reading batch) then Ok c else Err BadBatch

-- there must be a target
unfoldable pub finds : Bool → Cycle
finds known c = if known then Ok c else Err UnknownTarget

-- The callee has a context of its own, and the function's digest is the callee's. The cells below the sixteenth are hidden.
unfoldable pub enters_call : List ℕ → Cycle
enters_call callee c =
    if c.in_syscall then Err CallInSyscall
    else Ok (record c { context = c.clock + 1; fmp = 2 ^ 30; digest = callee; stack = take 16 c.stack })

abbrev pub is_in_kernel : List (List ℕ) → List ℕ → Bool
is_in_kernel kernel callee = list_any (pointwise nat_eq callee) kernel

-- The callee must be of the kernel's list. It runs in context 0, with the bit set, and the function's digest stays. The cells
-- below the sixteenth are hidden.
unfoldable pub enters_syscall : List (List ℕ) → List ℕ → Cycle
enters_syscall kernel callee c =
    if c.in_syscall then Err CallInSyscall
    else if is_in_kernel kernel callee
    then Ok (record c { context = 0; fmp = 2 ^ 31; in_syscall = true; stack = take 16 c.stack })
    else Err NotInKernel

-- The end of a call or a syscall: what was set aside comes back, and the sixteen visible cells stay.
unfoldable pub returns_to : Frame → Cycle
returns_to frame c =
    if nat_lt 16 (length c.stack) then Err DepthAtReturn
    else Ok (record c {
      context = frame.context;
      fmp = frame.fmp;
      in_syscall = frame.in_syscall;
      digest = frame.digest;
      nesting = c.nesting - 1;
      stack = c.stack ++ frame.hidden;
    })

-- What each cycle does, under the permutation's constants and the kernel's list, with the advice that it takes.
abbrev pub effect_of : List ℕ → List (List ℕ) → Mark → List ℕ → Cycle
effect_of constants kernel StartOpaque advice = opens (λ c. Err OpaqueBlock)
effect_of constants kernel (StartSpan batch) advice = opens (reads batch)
effect_of constants kernel (StartJoin first second) advice = opens (λ c. Ok c)
effect_of constants kernel (StartSplit on_one on_zero) advice = opens pops_bit
effect_of constants kernel (StartLoop body) advice = opens pops_bit
effect_of constants kernel (StartCall callee) advice = opens (enters_call callee)
effect_of constants kernel (StartSyscall callee) advice = opens (enters_syscall kernel callee)
effect_of constants kernel (StartDyn known) advice = opens (finds known)
effect_of constants kernel (Respan batch) advice = reads batch
effect_of constants kernel (Repeat body) advice = pops_bit
effect_of constants kernel (Do item) advice = act constants item advice
effect_of constants kernel (End digest) advice = closes
effect_of constants kernel (EndSpan digest) advice = closes
effect_of constants kernel (EndLoop digest) advice = λ c. and_then (pops_bit c) closes
effect_of constants kernel (EndCall digest frame) advice = returns_to frame
effect_of constants kernel (EndSyscall digest frame) advice = returns_to frame

-- how many elements of the tape the cycle takes
abbrev pub advice_taken : Mark → ℕ
advice_taken (Do item) = advice_of item.op
advice_taken mark = 0
