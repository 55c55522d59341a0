use Rattle.std.proofs.Common.{◌≡◌, if◌then◌else◌, drop}
use Rattle.vm_ops.specs.Codes.{every_op}
use Rattle.air_kit.specs.Flags.{flag, sum_of}
use Rattle.air_kit.specs.Sets.{passes_of}
use Rattle.air_kit.proofs.seen.sum_in.Given as goal

abbrev pub invariant-loop-code : goal.invariant-loop-code
invariant-loop-code g l =
    l.total ≡ sum_of (drop l.code every_op) (λ op. if passes_of l.set op then flag (g.V.View.cells l.row) op else 0)
