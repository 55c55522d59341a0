use Rattle.std.proofs.Common.{ℕ, ◌<◌, ◌≤◌, get_or}
use Rattle.graphs.specs.Graph.{rows_of, Edge}
use Rattle.masm_graph.proofs.settling.ascends.Given as goal

abbrev pub invariant-loop-place : goal.invariant-loop-place
invariant-loop-place l = (a b : ℕ) → a < l.place → Edge (rows_of l.graph) a b → get_or l.numbers a 0 ≤ get_or l.numbers b 0
