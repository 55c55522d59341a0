use Rattle.std.proofs.Common.{length}
use Rattle.bus_kit.specs.Widths.{tallied}
use Rattle.bus_main.proofs.InputLemmas.{AreGiven}
use Rattle.bus_main.proofs.inputs.give_inputs.Given as goal

abbrev pub invariant-loop-i : goal.invariant-loop-i
invariant-loop-i l = AreGiven (tallied l.fn.tally) (tallied l.tally) l.i (length l.inputs) l.inputs
