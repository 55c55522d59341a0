use Rattle.std.proofs.Common.{◌≡◌, drop}
use Rattle.std.specs.List.{list_any}
use Rattle.graphs.specs.Graph.{rows_of}
use Rattle.masm_graph.specs.Dynexecs.{has_one}
use Rattle.masm_graph.proofs.dynexecs.some_has_one.Given as goal

abbrev pub invariant-loop-row : goal.invariant-loop-row
invariant-loop-row l = list_any has_one (rows_of (drop l.row-index l.rows)) ≡ list_any has_one (rows_of l.rows)
