use Rattle.std.proofs.Common.{◌≡◌, ◌++◌, drop}
use Rattle.fill_requests.proofs.ranges.push_limbs.Given as goal

abbrev pub invariant-loop-i : goal.invariant-loop-i
invariant-loop-i l = l.ranges ++ drop l.i l.limbs ≡ l.fn.ranges ++ l.limbs
