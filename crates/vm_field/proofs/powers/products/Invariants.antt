use Rattle.std.proofs.Common.{◌≡◌, ℕ, ◌<◌, length, slice_index}
use Rattle.vm_field.specs.Field.{felt_mul}
use Rattle.vm_field.proofs.powers.products.Given as goal

abbrev pub invariant-loop-i : goal.invariant-loop-i
invariant-loop-i g l =
    (length l.products ≡ length l.x) × ((k : ℕ) → k < l.i → slice_index l.products k ≡ felt_mul (slice_index l.x k) (slice_index l.y k))
