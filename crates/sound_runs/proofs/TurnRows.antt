-- The rows of the next batch of a span and of a further turn of a loop.
use Rattle.sound_runs.proofs.Words.{ℕ, ◌<◌, List, refl, ap, sym, subst, ◌∙◌, lit<, arith, is_start_op, is_op, eight, front, is_batch_op, Claim, Repeat, Respan}
use Rattle.sound_runs.proofs.Words.{row_at, IsAt}
use Rattle.sound_runs.proofs.Words.ops
use Rattle.sound_runs.proofs.Going.{GoesOn, goes_on}
use Rattle.sound_runs.proofs.Levels.{level_stays}
use Rattle.sound_runs.proofs.Premises.{Known}
use Rattle.sound_runs.proofs.StartRows.{reading_at}
use Rattle.sound_runs.proofs.StateRows.{calm, pops_next, still_next, top_at}

module _ {constants : List ℕ} {kernel rows : List (List ℕ)} {k : Claim} (known : Known constants kernel k rows) where
  pub respan_goes : {i : ℕ} → IsAt rows i ops.Respan → GoesOn known i (Respan (eight (row_at rows i)))
  respan_goes at =
      goes_on known _ at.within refl (reading_at known (record { within = at.within; is = ap is_batch_op at.is }))
      (still_next known (calm at (assumption) refl refl refl)
      (level_stays known.frames at.within (ap is_start_op at.is) (ap (λ o. is_op o ops.End) at.is)) (assumption))

  pub repeat_goes : {i : ℕ} → IsAt rows i ops.Repeat → GoesOn known i (Repeat (front (row_at rows i)))
  repeat_goes {i} at =
      let one = (known.shows.row_is i (omega (arith, at.within))).row.block.again (ap (λ o. is_op o ops.Repeat) at.is) in
      goes_on known _ at.within refl (subst (λ (n : ℕ). n < 2) (sym (top_at k rows i ∙ one)) (lit< tt))
      (pops_next known (calm at (assumption) refl refl refl)
      (level_stays known.frames at.within (ap is_start_op at.is) (ap (λ o. is_op o ops.End) at.is)) (assumption))
