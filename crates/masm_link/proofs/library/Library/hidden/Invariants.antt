use Rattle.std.proofs.Common.{◌≡◌, map, take}
use Rattle.masm_tree.specs.Views.{procedure_of}
use Rattle.masm_link.specs.Libraries.{defines}
use Rattle.masm_link.proofs.library.Library.hidden.Given as goal

abbrev pub invariant-loop-procedure : goal.invariant-loop-procedure
invariant-loop-procedure l =
    l.hidden.items ≡ map (λ p. defines (map procedure_of (take l.procedure-index l.procs)) p.name) l.self
