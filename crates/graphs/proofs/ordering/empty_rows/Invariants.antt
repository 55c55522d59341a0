use Rattle.std.proofs.Common.{◌≡◌, length, []}
use Rattle.std.specs.List.{All}
use Rattle.graphs.specs.Graph.{rows_of}
use Rattle.graphs.proofs.ordering.empty_rows.Given as goal

abbrev pub invariant-loop : goal.invariant-loop
invariant-loop l = (length l.rows.items ≡ l.counter) × All (λ row. row ≡ []) (rows_of l.rows.items)
