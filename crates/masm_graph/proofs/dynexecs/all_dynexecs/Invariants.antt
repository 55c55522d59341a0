use Rattle.std.proofs.Common.{◌≡◌, map, take}
use Rattle.graphs.specs.Graph.{rows_of}
use Rattle.masm_graph.specs.Dynexecs.{dynexecs_in}
use Rattle.masm_graph.proofs.dynexecs.all_dynexecs.Given as goal

abbrev pub invariant-loop-procedure : goal.invariant-loop-procedure
invariant-loop-procedure l = rows_of l.rows.items ≡ map dynexecs_in (take l.procedure-index l.procs)
