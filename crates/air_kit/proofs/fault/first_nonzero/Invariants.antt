use Rattle.std.proofs.Common.{◌≡◌, ◌+◌, drop}
use Rattle.air_kit.specs.Places.{first_fault_of}
use Rattle.air_kit.proofs.fault.first_nonzero.Given as goal

abbrev pub invariant-loop-i : goal.invariant-loop-i
invariant-loop-i l = first_fault_of (l.number + l.i) (drop l.i l.values) ≡ first_fault_of l.number l.values
