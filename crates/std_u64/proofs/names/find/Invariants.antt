use Rattle.std.proofs.Common.{◌≡◌, drop}
use Rattle.std_u64.specs.Lists.{procedure_of}
use Rattle.std_u64.proofs.names.find.Given as goal

abbrev pub invariant-loop-procedure : goal.invariant-loop-procedure
invariant-loop-procedure l =
    procedure_of (drop l.procedure-index l.procedures) l.name ≡ procedure_of l.procedures l.name
