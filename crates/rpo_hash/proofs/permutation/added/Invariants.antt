use Rattle.std.proofs.Common.{◌≡◌, ℕ, ◌<◌, length, slice_index}
use Rattle.vm_field.specs.Field.{felt_add}
use Rattle.rpo_hash.proofs.permutation.added.Given as goal

abbrev pub invariant-loop-i : goal.invariant-loop-i
invariant-loop-i l =
    (length l.sums ≡ 12) × ((k : ℕ) → k < l.i → slice_index l.sums k ≡ felt_add (slice_index l.state k) (slice_index l.constants k))
