-- The ENDs of blocks that call no function.
use Rattle.sound_runs.proofs.Words.{◌≡◌, ℕ, ◌<◌, false, ◌&&◌, cond, eqb, List, refl, ap, sym, subst, ◌∙◌, arith, lit<, Op, h, s, is_op, is_right, front}
use Rattle.sound_runs.proofs.Words.{is_call_op, Claim, End, EndLoop, EndSpan, row_at, op_in, mover, Closes, IsAt}
use Rattle.sound_runs.proofs.Words.ops
use Rattle.sound_blocks.proofs.Asides.{returns_is}
use Rattle.sound_runs.proofs.Going.{GoesOn, goes_on}
use Rattle.sound_runs.proofs.Levels.{level_closes}
use Rattle.sound_runs.proofs.Premises.{Known}
use Rattle.sound_runs.proofs.Quiet.{IsQuiet}
use Rattle.sound_runs.proofs.StackRows.{IsStill, MovesAs}
use Rattle.sound_runs.proofs.StateRows.{IsCalm, pops_next, still_next, top_at}

pub end_quiet : IsQuiet ops.End
end_quiet = assumption

pub end_still : IsStill ops.End
end_still = assumption

-- an END takes the condition of a loop off that was entered, and else moves no cell
pub end_moves : {rows : List (List ℕ)} {i n : ℕ} → IsAt rows i ops.End → h (row_at rows i) 4 ≡ n → MovesAs rows i (cond (eqb n 1) ops.Drop ops.End)
end_moves {rows} {i} at flag = record {
  within = at.within;
  right = ap is_right at.is;
  mover_is = ap (λ o. mover o (row_at rows i)) at.is ∙ ap (λ n. cond (eqb n 1) ops.Drop ops.End) flag;
}

-- the flag of a loop that was entered, by the block's operation and the cell on top at its start
pub flag_of : {rows : List (List ℕ)} {j i : ℕ} (m : Op) → IsAt rows j m → Closes rows j i
    → h (row_at rows i) 4 ≡ cond (is_op m ops.Loop && eqb (s (row_at rows j) 0) 1) 1 0
flag_of {rows} {j} m at closes = closes.flags.entered ∙ ap (λ o. cond (is_op o ops.Loop && eqb (s (row_at rows j) 0) 1) 1 0) at.is

-- the END of a block that calls no function
calm_end : {rows : List (List ℕ)} {j i n : ℕ} → Closes rows j i → is_call_op (op_in rows j) ≡ false → h (row_at rows i) 4 ≡ n
    → IsCalm rows i ops.End (cond (eqb n 1) ops.Drop ops.End)
calm_end {rows} {j} {i} closes no_call flag = record {
  at = closes.ends;
  quiet = end_quiet;
  moves = end_moves closes.ends flag;
  no_call = ap is_call_op closes.ends.is;
  no_return = returns_is rows j i closes ∙ no_call;
}

module _ {constants : List ℕ} {kernel rows : List (List ℕ)} {k : Claim} (known : Known constants kernel k rows) where
  pub end_goes : {j i : ℕ} → Closes rows j i → is_call_op (op_in rows j) ≡ false → h (row_at rows i) 4 ≡ 0 → GoesOn known i (End (front (row_at rows i)))
  end_goes closes no_call flag =
      goes_on known _ closes.ends.within refl tt (still_next known (calm_end closes no_call flag) (level_closes known.frames closes.ends) end_still)

  pub span_end_goes : {j i : ℕ} → IsAt rows j ops.Span → Closes rows j i → GoesOn known i (EndSpan (front (row_at rows i)))
  span_end_goes at closes =
      goes_on known _ closes.ends.within refl tt
      (still_next known (calm_end closes (ap is_call_op at.is) (flag_of ops.Span at closes)) (level_closes known.frames closes.ends) end_still)

  -- the loop's condition is 0, and is taken off
  pub loop_end_goes : {j i : ℕ} → IsAt rows j ops.Loop → s (row_at rows j) 0 ≡ 1 → Closes rows j i → GoesOn known i (EndLoop (front (row_at rows i)))
  loop_end_goes {j} {i} at entered closes =
      goes_on known _ closes.ends.within refl (subst (λ (n : ℕ). n < 2) (sym (top_at k rows i ∙ zero_on_top)) (lit< tt))
      (pops_next known (calm_end closes (ap is_call_op at.is) flag) (level_closes known.frames closes.ends)
      (assumption))
    where
      flag : h (row_at rows i) 4 ≡ 1
      flag = flag_of ops.Loop at closes ∙ ap (λ n. cond (eqb n 1) 1 0) entered

      zero_on_top : s (row_at rows i) 0 ≡ 0
      zero_on_top =
          ((known.shows.row_is i (omega (arith, closes.ends.within))).row.block.ends (ap (λ o. is_op o ops.End) closes.ends.is)).stops flag
