-- How many blocks are open behind a row.
use Rattle.sound_runs.proofs.Words.{◌≡◌, ℕ, suc, ◌+◌, ◌-◌, ◌<◌, false, List, length, ap, ◌∙◌, arith, is_start_op, lv, is_op, row_at, op_in, IsAt, Starts}
use Rattle.sound_runs.proofs.Words.{FrameFacts, open_at, length-drop}
use Rattle.sound_runs.proofs.Words.ops
use Rattle.sound_blocks.proofs.OpenBlocks.{open_at-end, open_at-keep, open_at-start}

module _ {rows : List (List ℕ)} (frames : FrameFacts rows) {i : ℕ} where
  -- the level behind a row, by the blocks that are open there
  level_at : suc i < length rows → {js : List ℕ} → open_at rows (suc i) ≡ js → lv (row_at rows (suc i)) ≡ length js
  level_at within e = frames.level (suc i) within ∙ ap length e

  pub level_opens : Starts rows i → lv (row_at rows i) + 1 ≡ lv (row_at rows (suc i))
  level_opens starts =
      omega (arith, frames.level i (omega (arith, starts.within)), level_at starts.within (open_at-start rows i starts.is))

  pub level_closes : IsAt rows i ops.End → lv (row_at rows i) - 1 ≡ lv (row_at rows (suc i))
  level_closes at =
      omega (arith, frames.level i (omega (arith, at.within)), level_at at.within (open_at-end rows i at.is), length-drop 1 (open_at rows i))

  pub level_stays : suc i < length rows → is_start_op (op_in rows i) ≡ false → is_op (op_in rows i) ops.End ≡ false
      → lv (row_at rows i) ≡ lv (row_at rows (suc i))
  level_stays within no_start no_end =
      omega (arith, frames.level i (omega (arith, within)), level_at within (open_at-keep rows i no_start no_end))
