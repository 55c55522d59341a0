-- The rows of the starts of blocks that call no function.
use Rattle.sound_runs.proofs.Words.{◌≡◌, ℕ, ◌<◌, true, ◌||◌, List, refl, ap, sym, subst, ◌∙◌, arith, is_start_op, Op, lv, is_op, back, eight, front}
use Rattle.sound_runs.proofs.Words.{is_batch_op, Claim, StartDyn, StartJoin, StartLoop, StartSpan, StartSplit, top, row_at, Begins, IsAt}
use Rattle.sound_runs.proofs.Words.ops
use Rattle.block_tree.specs.Behind.{HasReading}
use Rattle.sound_blocks.proofs.BatchReads.{has_batch}
use Rattle.sound_blocks.proofs.Names.{starts_by}
use Rattle.sound_runs.proofs.Going.{GoesOn, goes_on}
use Rattle.sound_runs.proofs.Levels.{level_opens}
use Rattle.sound_runs.proofs.Premises.{Known, state_in}
use Rattle.sound_runs.proofs.StateRows.{calm, pops_next, still_next, top_at}

module _ {constants : List ℕ} {kernel rows : List (List ℕ)} {k : Claim} (known : Known constants kernel k rows) where
  -- the batch that begins in a row has a reading
  pub reading_at : {i : ℕ} → Begins rows i → HasReading (eight (row_at rows i))
  reading_at {i} begins = let b = (has_batch k rows known.shows known.groups i begins).is in (b.items, b.reads)

  nested_at : {i : ℕ} (m : Op) → IsAt rows i m → is_start_op m ≡ true → lv (row_at rows i) < 1024
  nested_at {i} m at start = known.frames.nesting i (starts_by m start at)

  -- a condition is a bit
  condition_at : {i : ℕ} (m : Op) → IsAt rows i m → is_op m ops.Split || is_op m ops.Loop ≡ true → top (state_in k rows i).core < 2
  condition_at {i} m at is =
      subst (λ (n : ℕ). n < 2) (sym (top_at k rows i))
      ((known.shows.row_is i (omega (arith, at.within))).row.block.condition (ap (λ o. is_op o ops.Split || is_op o ops.Loop) at.is ∙ is))

  pub span_goes : {i : ℕ} → IsAt rows i ops.Span → GoesOn known i (StartSpan (eight (row_at rows i)))
  span_goes at =
      goes_on known _ at.within refl (nested_at ops.Span at refl, reading_at (record { within = at.within; is = ap is_batch_op at.is }))
      (still_next known (calm at (assumption) refl refl refl)
      (level_opens known.frames (starts_by ops.Span refl at)) (assumption))

  pub join_goes : {i : ℕ} → IsAt rows i ops.Join → GoesOn known i (StartJoin (front (row_at rows i)) (back (row_at rows i)))
  join_goes at =
      goes_on known _ at.within refl (nested_at ops.Join at refl)
      (still_next known (calm at (assumption) refl refl refl)
      (level_opens known.frames (starts_by ops.Join refl at)) (assumption))

  -- there is a target: the one that ran
  pub dyn_goes : {i : ℕ} → IsAt rows i ops.Dyn → GoesOn known i (StartDyn true)
  dyn_goes at =
      goes_on known _ at.within refl (nested_at ops.Dyn at refl, refl)
      (still_next known (calm at (assumption) refl refl refl)
      (level_opens known.frames (starts_by ops.Dyn refl at)) (assumption))

  pub split_goes : {i : ℕ} → IsAt rows i ops.Split → GoesOn known i (StartSplit (front (row_at rows i)) (back (row_at rows i)))
  split_goes at =
      goes_on known _ at.within refl (nested_at ops.Split at refl, condition_at ops.Split at refl)
      (pops_next known (calm at (assumption) refl refl refl)
      (level_opens known.frames (starts_by ops.Split refl at)) (assumption))

  pub loop_goes : {i : ℕ} → IsAt rows i ops.Loop → GoesOn known i (StartLoop (front (row_at rows i)))
  loop_goes at =
      goes_on known _ at.within refl (nested_at ops.Loop at refl, condition_at ops.Loop at refl)
      (pops_next known (calm at (assumption) refl refl refl)
      (level_opens known.frames (starts_by ops.Loop refl at)) (assumption))
