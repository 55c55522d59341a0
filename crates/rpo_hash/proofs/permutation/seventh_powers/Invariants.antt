use Rattle.std.proofs.Common.{◌≡◌, ℕ, ◌<◌, length, slice_index}
use Rattle.vm_field.specs.Field.{felt_pow}
use Rattle.rpo_hash.proofs.permutation.seventh_powers.Given as goal

abbrev pub invariant-loop-i : goal.invariant-loop-i
invariant-loop-i l = (length l.powers ≡ 12) × ((k : ℕ) → k < l.i → slice_index l.powers k ≡ felt_pow (slice_index l.state k) 7)
