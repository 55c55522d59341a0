use Rattle.std.proofs.Common.{◌≡◌, drop}
use Rattle.fill_decoder.proofs.positions.stacked.Given as goal

abbrev pub invariant-loop-i : goal.invariant-loop-i
invariant-loop-i l = l.stack ≡ drop l.i l.elements
