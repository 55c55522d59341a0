-- Rows of a table one behind the other: induction over them, and where the last one is.
use Rattle.sound_blocks.proofs.Words.{◌≡◌, ℕ, zero, suc, ◌<◌, ◌≤◌, true, List, length, sym, ◌∙◌, arith, is_start_op, is_op, Claim, ShowsRows, op_in, halts_last}
use Rattle.sound_blocks.proofs.Words.{off, Starts}
use Rattle.sound_blocks.proofs.Words.ops
use Rattle.sound_blocks.proofs.Operations.{start_apart}

-- what holds at row 0, and behind each row if it holds up to there, holds at each row
module _ (n : ℕ) (P : ℕ → Type 0) (base : 0 < n → P 0) (step : (i : ℕ) → suc i < n → ((k : ℕ) → k ≤ i → P k) → P (suc i)) where
  upto : (top i : ℕ) → i ≤ top → i < n → P i
  upto top zero h within = base within
  upto zero (suc i) h within = absurd (omega (arith, h))
  upto (suc top) (suc i) h within = step i within (λ k below. upto top k (omega (arith, h, below)) (omega (arith, within, below)))

  pub each_row : (i : ℕ) → i < n → P i
  each_row i within = upto i i (omega arith) within

module _ {k : Claim} {rows : List (List ℕ)} (shows : ShowsRows k rows) where
  -- a row that does not halt has a row behind it
  pub has_next : (i : ℕ) → i < length rows → (is_op (op_in rows i) ops.Halt ≡ true → ⊥) → suc i < length rows
  has_next i within goes = more (suc i) (length rows) within (λ e. goes ((halts_last k rows shows i within).1 e))
    where
      more : (n l : ℕ) → n ≤ l → (n ≡ l → ⊥) → n < l
      more n l few apart = omega arith

  pub starts_at : (i : ℕ) → i < length rows → is_start_op (op_in rows i) ≡ true → Starts rows i
  starts_at i within is =
      record { within = has_next i within (λ halt. off (sym (start_apart (op_in rows i) is).2 ∙ halt)); is = is }
