use Rattle.std.proofs.Common.{◌≡◌, IsTrue, take}
use Rattle.machine_cycles.proofs.names.are_same.Given as goal

abbrev pub invariant-loop-i : goal.invariant-loop-i
invariant-loop-i l = IsTrue l.same → take l.i l.part ≡ take l.i l.lower
