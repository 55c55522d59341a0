-- Halves are less than the whole.
use Rattle.std.proofs.Common.{◌+◌, ◌-◌, ◌*◌}
use Rattle.checker.proofs.counting.+halves.Given as goal

abbrev pub decreases-count_part : goal.decreases-count_part
decreases-count_part g l = 2 * (l.part.high - l.part.low)

abbrev pub decreases-front : goal.decreases-front
decreases-front g l = 2 * (l.lower.high - l.lower.low) + 1

abbrev pub decreases-back : goal.decreases-back
decreases-back g l = 2 * (l.upper.high - l.upper.low) + 1
