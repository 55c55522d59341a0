use Rattle.std.proofs.Common.{◌≡◌, ℕ, ◌%◌, ◌^◌, ◌<◌, slice_index}
use Rattle.vm_field.specs.Field.{prime, felt_pow}
use Rattle.vm_field.proofs.powers.squared_times.Given as goal

abbrev pub invariant-loop-i : goal.invariant-loop-i
invariant-loop-i g l =
    (k : ℕ) → k < g.row.N → slice_index l.powers k % prime ≡ felt_pow (slice_index l.x k) (2 ^ l.i)
