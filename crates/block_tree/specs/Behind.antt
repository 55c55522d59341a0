-- When a cycle does not trap, and the state behind it (docs/MACHINE.md, "Cycles" and "Calls").
use Rattle.std.specs.Prelude.{◌≡◌, ℕ, ◌+◌, ◌-◌, ◌^◌, ◌<◌, ◌≤◌, false, true, List, ◌++◌, length, take, drop, Some, None}
use Rattle.vm_field.specs.Limits.{most_nesting}
use Rattle.vm_field.specs.Machine.{Core, filled_up}
use Rattle.vm_ops.specs.declared.item.Item.{Item}
use Rattle.vm_ops.specs.Step.{performed, seen}
use Rattle.vm_ops.specs.Values.{trap_of}
use Rattle.op_pack.specs.Reading.{reading}
use Rattle.block_tree.specs.Cycles.{Frame, Mark, StartOpaque, StartSpan, StartJoin, StartSplit, StartLoop, StartCall, StartSyscall, StartDyn, Respan, Repeat, Do, End, EndSpan, EndLoop, EndCall, EndSyscall, is_in_kernel, top}

abbrev pub opened : Core → Core
opened c = record c { nesting = c.nesting + 1 }

abbrev pub closed : Core → Core
closed c = record c { nesting = c.nesting - 1 }

abbrev pub popped : Core → Core
popped c = record c { stack = filled_up (drop 1 c.stack) }

-- in a call's own context, at the clock of its start
abbrev pub called : List ℕ → Core → Core
called callee c = record c { context = c.clock + 1; fmp = 2 ^ 30; digest = callee; stack = take 16 c.stack }

-- in the kernel's context
abbrev pub syscalled : Core → Core
syscalled c = record c { context = 0; fmp = 2 ^ 31; in_syscall = true; stack = take 16 c.stack }

-- what was set aside is back
abbrev pub returned : Frame → Core → Core
returned frame c = record c {
  context = frame.context;
  fmp = frame.fmp;
  in_syscall = frame.in_syscall;
  digest = frame.digest;
  nesting = c.nesting - 1;
  stack = c.stack ++ frame.hidden;
}

-- the state behind a cycle, but for the clock and the tape
abbrev pub core_behind : List ℕ → Mark → List ℕ → Core → Core
core_behind constants StartOpaque advice c = opened c
core_behind constants (StartSpan batch) advice c = opened c
core_behind constants (StartJoin first second) advice c = opened c
core_behind constants (StartSplit on_one on_zero) advice c = popped (opened c)
core_behind constants (StartLoop body) advice c = popped (opened c)
core_behind constants (StartCall callee) advice c = called callee (opened c)
core_behind constants (StartSyscall callee) advice c = syscalled (opened c)
core_behind constants (StartDyn known) advice c = opened c
core_behind constants (Respan batch) advice c = c
core_behind constants (Repeat body) advice c = popped c
core_behind constants (Do item) advice c = performed item.op (seen constants item advice c) c
core_behind constants (End digest) advice c = closed c
core_behind constants (EndSpan digest) advice c = closed c
core_behind constants (EndLoop digest) advice c = closed (popped c)
core_behind constants (EndCall digest frame) advice c = returned frame c
core_behind constants (EndSyscall digest frame) advice c = returned frame c

abbrev pub HasReading : List ℕ → Type 0
HasReading batch = (items : List Item) × (reading batch ≡ Some items)

-- the cycle does not trap
abbrev pub IsAllowed : List ℕ → List (List ℕ) → Mark → List ℕ → Core → Type 0
IsAllowed constants kernel StartOpaque advice c = ⊥
IsAllowed constants kernel (StartSpan batch) advice c = (c.nesting < most_nesting) × HasReading batch
IsAllowed constants kernel (StartJoin first second) advice c = c.nesting < most_nesting
IsAllowed constants kernel (StartSplit on_one on_zero) advice c = (c.nesting < most_nesting) × (top c < 2)
IsAllowed constants kernel (StartLoop body) advice c = (c.nesting < most_nesting) × (top c < 2)
IsAllowed constants kernel (StartCall callee) advice c = (c.nesting < most_nesting) × (c.in_syscall ≡ false)
IsAllowed constants kernel (StartSyscall callee) advice c =
    (c.nesting < most_nesting) × (c.in_syscall ≡ false) × (is_in_kernel kernel callee ≡ true)
IsAllowed constants kernel (StartDyn known) advice c = (c.nesting < most_nesting) × (known ≡ true)
IsAllowed constants kernel (Respan batch) advice c = HasReading batch
IsAllowed constants kernel (Repeat body) advice c = top c < 2
IsAllowed constants kernel (Do item) advice c = trap_of item.op (seen constants item advice c) ≡ None
IsAllowed constants kernel (End digest) advice c = Unit {0}
IsAllowed constants kernel (EndSpan digest) advice c = Unit {0}
IsAllowed constants kernel (EndLoop digest) advice c = top c < 2
IsAllowed constants kernel (EndCall digest frame) advice c = length c.stack ≤ 16
IsAllowed constants kernel (EndSyscall digest frame) advice c = length c.stack ≤ 16
