use Rattle.std.proofs.Common.{◌≡◌, map, take}
use Rattle.std_u64.specs.Libraries.{every_procedure, library_procedure}
use Rattle.std_u64.proofs.table.library.Given as goal

abbrev pub invariant-loop-procedure : goal.invariant-loop-procedure
invariant-loop-procedure l = l.library ≡ map library_procedure (take l.procedure-index every_procedure)
