use Rattle.std.proofs.Common.{map, ap, ◌∙◌}
use Rattle.std.proofs.lemmas.List.{take_all}
use Rattle.std_u64.specs.Libraries.{every_procedure, library_procedure, u64_library}
use Rattle.std_u64.proofs.table.library.Goals as goal

pub returns : goal.returns
unfolding u64_library
returns c = c.loop-procedure.invariant ∙ ap (map library_procedure) (take_all c.loop-procedure.procedure-index every_procedure c.loop-procedure-test.false)
