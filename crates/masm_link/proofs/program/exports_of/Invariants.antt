use Rattle.std.proofs.Common.{◌≡◌, map, take}
use Rattle.masm_link.specs.Programs.{export_in}
use Rattle.masm_link.proofs.program.exports_of.Given as goal

abbrev pub invariant-loop-procedure : goal.invariant-loop-procedure
invariant-loop-procedure l =
    (l.exports ≡ map (export_in l.fn.digests.permutations) (take l.procedure-index l.kernel)) × (l.digests.permutations ≡ l.fn.digests.permutations)
