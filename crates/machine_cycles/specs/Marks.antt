-- The cycles of the code as those of the definition.
use Rattle.std.specs.Prelude.{◌≡◌, ℕ, List, drop}
use Rattle.block_tree.specs.Cycles as cycles
use Rattle.machine_cycles.specs.declared.mark.Frame.{Frame}
use Rattle.machine_cycles.specs.declared.mark.Mark.{Mark}
use Rattle.machine_cycles.specs.declared.mark.Mark.TheVariants.{StartOpaque, StartSpan, StartJoin, StartSplit, StartLoop, StartCall, StartSyscall, StartDyn, Respan, Repeat, End, EndSpan, EndLoop, EndCall, EndSyscall}

abbrev pub frame_in : Frame → cycles.Frame
frame_in f = record { context = f.context; fmp = f.fmp; in_syscall = f.in_syscall; digest = f.digest; hidden = f.hidden }

abbrev pub mark_of : Mark → cycles.Mark
mark_of StartOpaque = cycles.StartOpaque
mark_of (StartSpan batch) = cycles.StartSpan batch.elements
mark_of (StartJoin first second) = cycles.StartJoin first second
mark_of (StartSplit on_one on_zero) = cycles.StartSplit on_one on_zero
mark_of (StartLoop body) = cycles.StartLoop body
mark_of (StartCall callee) = cycles.StartCall callee
mark_of (StartSyscall callee) = cycles.StartSyscall callee
mark_of (StartDyn known) = cycles.StartDyn known
mark_of (Respan batch) = cycles.Respan batch.elements
mark_of (Repeat body) = cycles.Repeat body
mark_of (End digest) = cycles.End digest
mark_of (EndSpan digest) = cycles.EndSpan digest
mark_of (EndLoop digest) = cycles.EndLoop digest
mark_of (EndCall digest frame) = cycles.EndCall digest (frame_in frame)
mark_of (EndSyscall digest frame) = cycles.EndSyscall digest (frame_in frame)

-- the start of a call or of a syscall
abbrev pub IsEntry : Mark → Type 0
IsEntry (StartCall callee) = Unit {0}
IsEntry (StartSyscall callee) = Unit {0}
IsEntry mark = ⊥

-- such a start sets aside what lies below the sixteenth cell of the stack
abbrev pub SetsAside : Mark → List ℕ → List ℕ → Type 0
SetsAside (StartCall callee) stack hidden = hidden ≡ drop 16 stack
SetsAside (StartSyscall callee) stack hidden = hidden ≡ drop 16 stack
SetsAside mark stack hidden = Unit {0}
