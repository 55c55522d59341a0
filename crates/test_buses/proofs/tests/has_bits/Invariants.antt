use Rattle.std.proofs.Common.{ℕ, ◌<◌}
use Rattle.vm_table.specs.MainColumns.{b}
use Rattle.test_buses.proofs.tests.has_bits.Given as goal

abbrev pub invariant-loop-j : goal.invariant-loop-j
invariant-loop-j g l = (k : ℕ) → k < l.j → b (g.V.View.cells l.x) k < 2
