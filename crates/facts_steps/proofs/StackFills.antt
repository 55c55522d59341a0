-- How a step fills the facts of the stack: inverses show what differs.
use Rattle.facts_steps.proofs.Words
use Words.{◌≡◌, ◌≢◌, ℕ, ◌+◌, ◌^◌, ◌<◌, true, false, List, length, ap, sym, ◌∙◌, arith, felt_mul-felt_inv, prime, felt_sub, felt_mul, felt_inv, reads_elsewhere}
use Words.{leaves_of, Op, s, depth, inv, w, is_op, left_value, off, IsStackRow, LeavesCells}
use Words.ops
use Rattle.facts_steps.proofs.Ordinary.{IsOrdinary, no_return}
use Rattle.facts_steps.proofs.Tops.{fixed_is_shown}
use Rattle.facts_steps.proofs.Traps.{Runs}

-- the inverse of an element that is not 0
inverse_shows : (a v : ℕ) → a < prime → a ≢ 0 → v ≡ felt_inv a → felt_mul a v ≡ 1
inverse_shows a v low some e = ap (felt_mul a) e ∙ felt_mul-felt_inv a (omega (arith, some)) low

difference_low : (a b : ℕ) → felt_sub a b < prime
difference_low a b = omega arith

difference_some : (a b : ℕ) → a < prime → b < prime → a ≢ b → felt_sub a b ≢ 0
difference_some a b la lb apart z = apart (omega (arith, la, lb, z))

deeper_some : (d n : ℕ) → d ≡ 16 + n → d < 2 ^ 20 → d ≢ 16 → felt_sub d 16 ≢ 0
deeper_some d n e few apart z = apart (omega (arith, e, few, z))

pub stack_row_filled : (op : Op) (x : List ℕ) (before : List ℕ) → IsOrdinary op → depth x ≡ 16 + length before → depth x < 2 ^ 20
    → inv x ≡ felt_inv (felt_sub (depth x) 16) → Runs op x → IsStackRow op x
stack_row_filled op x before o deep shallow inverse r = record {
  witness = λ more.
      inverse_shows (felt_sub (depth x) 16) (inv x) (difference_low (depth x) 16) (deeper_some (depth x) (length before) deep shallow more) inverse;
  returns = λ is. off (sym (no_return x o) ∙ is);
  top = r.bit;
  second = r.second_bit;
  asserted = r.asserted;
}

pub leaves_filled : (op : Op) (x y : List ℕ) → s x 0 < prime → s x 1 < prime
    → (reads_elsewhere op ≡ false → (j : ℕ) → j < leaves_of op → s y j ≡ left_value op j x)
    → (is_op op ops.Eqz ≡ true → w x 0 ≡ felt_inv (s x 0)) → (is_op op ops.Eq ≡ true → w x 0 ≡ felt_inv (felt_sub (s x 0) (s x 1))) → Runs op x
    → LeavesCells op x y
leaves_filled op x y low low_second tops not_zero not_same r = record {
  cells = λ fixed. tops (fixed_is_shown op fixed);
  not_zero = λ is some. inverse_shows (s x 0) (w x 0) low some (not_zero is);
  not_same = λ is apart.
      inverse_shows (felt_sub (s x 0) (s x 1)) (w x 0) (difference_low (s x 0) (s x 1))
      (difference_some (s x 0) (s x 1) low low_second apart) (not_same is);
  inverted = r.invertible;
}
