use Rattle.std.proofs.Common.{take}
use Rattle.tree_merge.specs.AddrView.{entries_of}
use Rattle.tree_merge.specs.Targets.{HasNone}
use Rattle.tree_merge.proofs.targets.place.Given as goal

abbrev pub invariant-loop-i : goal.invariant-loop-i
invariant-loop-i l = HasNone l.digest (take l.i (entries_of l.targets))
