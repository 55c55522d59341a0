use Rattle.std.proofs.Common.{◌≡◌, map, take}
use Rattle.graphs.specs.Graph.{rows_of}
use Rattle.masm_graph.specs.Links.{own_places}
use Rattle.masm_graph.proofs.own.own_graph.Given as goal

abbrev pub invariant-loop-row : goal.invariant-loop-row
invariant-loop-row l = rows_of l.graph.items ≡ map own_places (take l.row-index (rows_of l.rows))
