use Rattle.std.proofs.Common.{◌≡◌, ◌-◌, ◌++◌}
use Rattle.merkle_lib.specs.Programs.{levels}
use Rattle.merkle_lib.proofs.programs.walk.Given as goal

-- the levels that are left make them all
abbrev pub invariant-loop : goal.invariant-loop
invariant-loop l = l.items ++ levels (l.depth - l.counter) ≡ levels l.depth
