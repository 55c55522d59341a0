use Rattle.std.proofs.Common.{◌≡◌, ◌*◌, ◌%◌, ◌<◌}
use Rattle.vm_field.specs.Field.{prime, felt_pow}
use Rattle.vm_field.proofs.element.Felt.pow.Given as goal

-- the product so far, times the power that is left
abbrev pub invariant-loop-rest : goal.invariant-loop-rest
invariant-loop-rest l =
    (l.product < prime) × ((l.product * felt_pow l.base l.rest) % prime ≡ felt_pow l.fn.self l.fn.e)

abbrev pub decreases-loop-rest : goal.decreases-loop-rest
decreases-loop-rest l = l.rest
