use Rattle.std.proofs.Common.{◌≡◌, map, take}
use Rattle.graphs.specs.Graph.{rows_of}
use Rattle.masm_graph.specs.Links.{links_in}
use Rattle.masm_names.specs.Names.{place_at}
use Rattle.masm_graph.proofs.links.all_links.Given as goal

abbrev pub invariant-loop-procedure : goal.invariant-loop-procedure
invariant-loop-procedure l =
    rows_of l.rows.items ≡ map (links_in (place_at l.names) (place_at l.kernel)) (take l.procedure-index l.procs)
