use Rattle.std.proofs.Common.{◌≡◌, length}
use Rattle.graphs.specs.Graph.{rows_of}
use Rattle.masm_graph.proofs.SettlingLemmas.{Ascend}
use Rattle.masm_graph.proofs.settling.ascending.Given as goal

abbrev pub invariant-loop-place : goal.invariant-loop-place
invariant-loop-place l = (length l.marks.items ≡ l.place) × Ascend (rows_of l.graph) l.numbers l.marks.items
