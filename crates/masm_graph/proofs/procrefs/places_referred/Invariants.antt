use Rattle.std.proofs.Common.{◌≡◌, take, true}
use Rattle.std.specs.List.{flat_map}
use Rattle.graphs.specs.Graph.{rows_of}
use Rattle.masm_graph.specs.Links.{places_with}
use Rattle.masm_graph.proofs.procrefs.places_referred.Given as goal

abbrev pub invariant-loop-row : goal.invariant-loop-row
invariant-loop-row l = l.places.items ≡ flat_map (places_with true) (take l.row-index (rows_of l.rows))
