use Rattle.std.proofs.Common.{◌≡◌, ◌++◌, map, take}
use Rattle.masm_tree.specs.Views.{body_of}
use Rattle.masm_graph.specs.Links.{link_of}
use Rattle.masm_names.specs.Names.{place_at}
use Rattle.masm_names.specs.Uses.{uses_of}
use Rattle.masm_graph.proofs.links.+linking.Given as goal

abbrev pub invariant-add_body-loop-stmt : goal.invariant-add_body-loop-stmt
invariant-add_body-loop-stmt l =
    l.out.items ≡ l.initial.out.items ++ map (link_of (place_at l.names) (place_at l.kernel)) (uses_of (body_of (take l.stmt-index l.body)))
