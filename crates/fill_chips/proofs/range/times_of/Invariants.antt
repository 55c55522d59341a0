use Rattle.fill_chips.proofs.Words.{◌++◌, take, limbs_in, AreTimes}
use Rattle.fill_chips.proofs.range.times_of.Given as goal

abbrev pub invariant-loop-i : goal.invariant-loop-i
invariant-loop-i l = AreTimes (l.asked ++ limbs_in (take l.i l.memory)) l.times.items
