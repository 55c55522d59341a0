use Rattle.std.proofs.Common.{◌≡◌, ◌-◌, ◌*◌, ◌≤◌, ◌++◌, length}
use Rattle.merkle_lib.specs.Paths.{steps_on}
use Rattle.merkle_lib.proofs.paths.steps_on.Given as goal

-- what is left of the tape makes the steps that are left
abbrev pub invariant-loop : goal.invariant-loop
invariant-loop l = record {
  steps : l.path ++ steps_on (l.depth - l.counter) l.rest ≡ steps_on l.depth l.tape;
  enough : 5 * (l.depth - l.counter) ≤ length l.rest;
}
