use Rattle.std.proofs.Common.{◌≡◌, map, take}
use Rattle.graphs.specs.Graph.{rows_of}
use Rattle.masm_graph.specs.Links.{places_with}
use Rattle.masm_graph.proofs.own.graph_with.Given as goal

abbrev pub invariant-loop-row : goal.invariant-loop-row
invariant-loop-row l = rows_of l.graph.items ≡ map (places_with l.wanted) (take l.row-index (rows_of l.rows))
