-- The laws of cuts.
use Rattle.std.proofs.Common.{ℕ, ◌*◌, ◌/◌, ◌<◌, ◌≤◌, arith}
use Rattle.std.proofs.lemmas.Nat.{le-div}
use Rattle.std.proofs.Math.Nat.{div-mul-le_self, mul-div_cancel_left, zero-div, mul-le-mul_right, zero-mul}
use Rattle.pieces.specs.Cuts.{cut_at, CutStarts, CutEnds, CutGrows}

pub cut_starts : CutStarts
unfolding cut_at
cut_starts n k some = rw zero-mul (zero-div k)

pub cut_ends : CutEnds
unfolding cut_at
cut_ends n k some = mul-div_cancel_left n some

pub cut_grows : CutGrows
unfolding cut_at
cut_grows i j n k h some =
    let low = div-mul-le_self (i * n) k in
    let more = mul-le-mul_right n h in
    le-div (i * n / k) (j * n) k some (omega (arith, low, more))

pub cut_below : (j n k : ℕ) → j ≤ k → 0 < k → cut_at j n k ≤ n
cut_below j n k h some = let grows = cut_grows j k n k h some in let ends = cut_ends n k some in omega (arith, grows, ends)
