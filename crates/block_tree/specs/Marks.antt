-- Marks that are whole: their digests are words, their batches eight elements, their operations ordinary.
use Rattle.std.specs.Prelude.{◌<◌}
use Rattle.vm_field.specs.Field.{prime, AreElements}
use Rattle.vm_field.specs.Machine.{IsWord}
use Rattle.vm_ops.specs.Items.{IsOrdinaryItem}
use Rattle.op_pack.specs.Reading.{IsBatch}
use Rattle.block_tree.specs.Cycles.{Frame, Mark, StartOpaque, StartSpan, StartJoin, StartSplit, StartLoop, StartCall, StartSyscall, StartDyn, Respan, Repeat, Do, End, EndSpan, EndLoop, EndCall, EndSyscall}

-- what a call of a well-formed state sets aside
pub record IsWholeFrame (frame : Frame) : Type 0 where
  pub fmp : frame.fmp < prime
  pub digest : IsWord frame.digest
  pub hidden : AreElements frame.hidden

abbrev pub IsWholeMark : Mark → Type 0
IsWholeMark StartOpaque = Unit {0}
IsWholeMark (StartSpan batch) = IsBatch batch
IsWholeMark (StartJoin first second) = IsWord first × IsWord second
IsWholeMark (StartSplit on_one on_zero) = IsWord on_one × IsWord on_zero
IsWholeMark (StartLoop body) = IsWord body
IsWholeMark (StartCall callee) = IsWord callee
IsWholeMark (StartSyscall callee) = IsWord callee
IsWholeMark (StartDyn known) = Unit {0}
IsWholeMark (Respan batch) = IsBatch batch
IsWholeMark (Repeat body) = IsWord body
IsWholeMark (Do item) = IsOrdinaryItem item
IsWholeMark (End digest) = IsWord digest
IsWholeMark (EndSpan digest) = IsWord digest
IsWholeMark (EndLoop digest) = IsWord digest
IsWholeMark (EndCall digest frame) = IsWord digest × IsWholeFrame frame
IsWholeMark (EndSyscall digest frame) = IsWord digest × IsWholeFrame frame
