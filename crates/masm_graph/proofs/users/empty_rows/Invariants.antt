use Rattle.std.proofs.Common.{◌≡◌, [], replicate}
use Rattle.graphs.specs.Graph.{rows_of}
use Rattle.masm_graph.proofs.users.empty_rows.Given as goal

abbrev pub invariant-loop : goal.invariant-loop
invariant-loop l = rows_of l.rows.items ≡ replicate l.counter []
