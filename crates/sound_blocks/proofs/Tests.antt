-- What tests of operations tell.
use Rattle.sound_blocks.proofs.Words.{◌≡◌, ◌≢◌, ℕ, ◌<◌, true, false, ◌||◌, inl, inr, sym, ap, ◌∙◌, arith, cond-true, ltb-true, eqb-false, or_cases, code_of}
use Rattle.sound_blocks.proofs.Words.{is_ordinary_op, Op, ordinary-below, is_op, is_batch_op, may_follow, off, op_from}
use Rattle.sound_blocks.proofs.Words.ops

pub op_apart : (a b : Op) → is_op a b ≡ false → a ≢ b
op_apart a b other e = eqb-false (code_of a) (code_of b) other (ap code_of e)

-- an ordinary operation that is no PUSH has a code below that of PUSH
pub plain_code : (op : Op) → is_ordinary_op op ≡ true → is_op op ops.Push ≡ false → code_of op < 69
plain_code op ordinary other =
    let apart : code_of op ≢ 69 = eqb-false (code_of op) 69 other in
    omega (arith, apart, ltb-true (code_of op) 70 (sym (ordinary-below op) ∙ ordinary))

-- what follows an ordinary operation, where that is no ordinary operation
pub behind_last : (op next : Op) (top : ℕ) → is_ordinary_op op ≡ true → is_ordinary_op next ≡ false → may_follow op top next ≡ true
    → is_op next ops.End || is_op next ops.Respan ≡ true
behind_last op next top ordinary other follows =
    ap (λ b. b || is_op next ops.End || is_op next ops.Respan) (sym other) ∙ sym (cond-true (is_ordinary_op op) _ _ ordinary) ∙ follows

-- what follows the start of a batch
pub behind_start : (op next : Op) (top : ℕ) → is_batch_op op ≡ true → may_follow op top next ≡ true → is_ordinary_op next ≡ true
behind_start op next top is follows = elim (or_cases (is_op op ops.Span) (is_op op ops.Respan) is) [
  | inl s ↦ rw (op_from {other = ops.Span} s) at follows
  | inr r ↦ rw (op_from {other = ops.Respan} r) at follows
]

-- none of them is HALT
pub ordinary_goes : (op : Op) → is_ordinary_op op ≡ true → is_op op ops.Halt ≡ true → ⊥
ordinary_goes op ordinary halts = off (rw (op_from {other = ops.Halt} halts) at ordinary)

pub stop_goes : (op : Op) → is_op op ops.End || is_op op ops.Respan ≡ true → is_op op ops.Halt ≡ true → ⊥
stop_goes op stops halts = off (rw (op_from {other = ops.Halt} halts) at stops)
