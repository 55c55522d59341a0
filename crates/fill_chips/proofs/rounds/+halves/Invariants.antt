-- Halves are less than the whole.
use Rattle.fill_chips.proofs.Words.{◌+◌, ◌-◌, ◌*◌}
use Rattle.fill_chips.proofs.rounds.+halves.Given as goal

abbrev pub decreases-fill_halves : goal.decreases-fill_halves
decreases-fill_halves g l = 4 * (l.high - l.low) + 1

abbrev pub decreases-both_halves : goal.decreases-both_halves
decreases-both_halves g l = 4 * (l.high - l.low)

abbrev pub decreases-both_halves-front : goal.decreases-both_halves-front
decreases-both_halves-front g l = 4 * (l.middle - l.low) + 2

abbrev pub decreases-both_halves-back : goal.decreases-both_halves-back
decreases-both_halves-back g l = 4 * (l.high - l.middle) + 2
