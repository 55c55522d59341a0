use Rattle.std.proofs.Common.{◌≡◌}
use Rattle.workloads.specs.Workloads.{squares}
use Rattle.workloads.proofs.making.advice_of.Given as goal

-- the squares so far
abbrev pub invariant-loop-turn : goal.invariant-loop-turn
invariant-loop-turn l = l.advice ≡ squares l.turn
