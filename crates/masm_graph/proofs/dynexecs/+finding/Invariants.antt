use Rattle.std.proofs.Common.{◌≡◌, ◌++◌, take}
use Rattle.masm_tree.specs.Views.{body_of}
use Rattle.masm_names.specs.Uses.{dynexecs_of}
use Rattle.masm_graph.proofs.dynexecs.+finding.Given as goal

abbrev pub invariant-add_body-loop-stmt : goal.invariant-add_body-loop-stmt
invariant-add_body-loop-stmt l = l.out.items ≡ l.initial.out.items ++ dynexecs_of (body_of (take l.stmt-index l.body))
