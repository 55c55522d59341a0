use Rattle.std.proofs.Common.{◌≡◌, drop}
use Rattle.vm_field.specs.Field.{felt_mul}
use Rattle.vm_ops.specs.Codes.{every_op}
use Rattle.air_kit.specs.Flags.{flag, sum_of}
use Rattle.air_kit.specs.StackValues.{term}
use Rattle.air_stack.proofs.cells.sum_of_terms.Given as goal

abbrev pub invariant-loop-code : goal.invariant-loop-code
invariant-loop-code g l =
    l.total ≡ sum_of (drop l.code every_op)
    (λ op. felt_mul (flag (g.V.View.cells l.x.row.now) op) (term l.j (g.V.View.cells l.x.row.now) (g.V.View.cells l.y) op))
