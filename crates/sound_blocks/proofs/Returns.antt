-- The END of a call brings back the cells of its start.
use Rattle.sound_blocks.proofs.Words.{◌≡◌, ℕ, zero, suc, ◌<◌, true, false, ◌&&◌, cond, eqb, List, ◌∷◌, length, map, refl, sym, ap, ◌∙◌, arith, h, s}
use Rattle.sound_blocks.proofs.Words.{deep_at_start, is_left, is_op, is_right, is_call_op, row_shifts_left, Claim, Overflow, overflow_at, overflow_behind}
use Rattle.sound_blocks.proofs.Words.{and_right, or_from, brought_back, row_at, ShowsRows, op_in, Closes, FrameFacts, IsBlock, open_at, below_at}
use Rattle.sound_blocks.proofs.Words.ops
use Rattle.sound_blocks.specs.Keys.{calls_among}
use Rattle.sound_blocks.proofs.OpenBlocks.{open_at-start}
use Rattle.sound_blocks.proofs.Asides.{asides, called_by, calls-call, calls_same, returns_is}
use Rattle.sound_blocks.proofs.RowKinds.{Movement, Stays, right, deeper, calls, returns, keeps, movement_of, behind_return, call_starts}

-- the cells below the sixteenth in row i, and those that are set aside there
abbrev pub overflow_in : Claim → List (List ℕ) → ℕ → Overflow
overflow_in k rows i = overflow_at (deep_at_start k) rows i

pub next_is : (k : Claim) (rows : List (List ℕ)) (i : ℕ) → overflow_in k rows (suc i) ≡ overflow_behind (row_at rows i) (overflow_in k rows i)
unfolding overflow_at
next_is k rows i = refl

-- the END of a call is no END of a loop
call_end_stays : (rows : List (List ℕ)) (j e : ℕ) → Closes rows j e → is_call_op (op_in rows j) ≡ true → row_shifts_left (row_at rows e) ≡ false
call_end_stays rows j e closes call =
    or_from (is_left (op_in rows e)) (is_op (op_in rows e) ops.End && eqb (h (row_at rows e) 4) 1) (ap is_left closes.ends.is)
    (and_right (is_op (op_in rows e) ops.End) (eqb (h (row_at rows e) 4) 1)
    (ap (λ n. eqb n 1) closes.flags.entered
    ∙ ap (λ t. eqb (cond (t && eqb (s (row_at rows j) 0) 1) 1 0) 1) (call_starts (op_in rows j) call).1))

-- what row i does
pub movement_at : {k : Claim} {rows : List (List ℕ)} → ShowsRows k rows → (i : ℕ) → suc i < length rows
    → Movement (row_at rows i) (row_at rows (suc i))
movement_at {rows = rows} shows i within =
    movement_of (row_at rows i) (row_at rows (suc i)) (shows.row_is i (omega (arith, within))).row.block.ends (shows.pair_is i within).stack.depth_moves

module _ (k : Claim) (rows : List (List ℕ)) where
  -- what is set aside in row i is what its open calls have set aside
  abbrev pub IsAside : ℕ → Type 0
  IsAside i = (overflow_in k rows i).aside ≡ asides k rows (open_at rows i)

  pub return_back : (j e : ℕ) → IsBlock rows j e → is_call_op (op_in rows j) ≡ true → IsAside e
      → overflow_in k rows (suc e) ≡ record { below = below_at k rows j; aside = asides k rows (open_at rows j) }
  return_back j e block call here =
      next_is k rows e
      ∙ behind_return (row_at rows e) (overflow_in k rows e) (ap is_right block.closes.ends.is) (call_end_stays rows j e block.closes call)
      (ap is_call_op block.closes.ends.is) (returns_is rows j e block.closes ∙ call)
      ∙ ap brought_back (here ∙ ap (asides k rows) block.newest ∙ ap (map (below_at k rows)) (calls-call rows j (open_at rows j) call))

  module _ (shows : ShowsRows k rows) (frames : FrameFacts rows) where
    stays_aside : {i : ℕ} → suc i < length rows → IsAside i → Stays (row_at rows i)
        → (overflow_behind (row_at rows i) (overflow_in k rows i)).aside ≡ (overflow_in k rows i).aside → IsAside (suc i)
    stays_aside {i} within here stays same =
        ap (λ (o : Overflow). o.aside) (next_is k rows i) ∙ same ∙ here ∙ sym (ap (map (below_at k rows)) (calls_same frames within stays))

    aside_step : {i : ℕ} → suc i < length rows → IsAside i → Movement (row_at rows i) (row_at rows (suc i)) → IsAside (suc i)
    aside_step within here (right r stays behind d e) = stays_aside within here stays (ap (λ (o : Overflow). o.aside) (behind _))
    aside_step within here (deeper l a stays behind d) = stays_aside within here stays (ap (λ (o : Overflow). o.aside) (behind _))
    aside_step within here (keeps stays behind d e) = stays_aside within here stays (ap (λ (o : Overflow). o.aside) (behind _))
    aside_step {i} within here (calls c behind d e) =
        ap (λ (o : Overflow). o.aside) (next_is k rows i ∙ behind _) ∙ ap (λ xs. below_at k rows i ∷ xs) here
        ∙ sym (ap (asides k rows) (open_at-start rows i (call_starts (op_in rows i) c).0)
        ∙ ap (map (below_at k rows)) (calls-call rows i (open_at rows i) c))
    aside_step {i} within here (returns t) =
        let b = called_by frames within t in ap (λ (o : Overflow). o.aside) (return_back b.0 i b.1 b.2 here) ∙ ap (asides k rows) (sym b.3)

    pub aside_is : (i : ℕ) → i < length rows → IsAside i
    unfolding overflow_at open_at calls_among
    aside_is zero h = refl
    aside_is (suc i) h = aside_step h (aside_is i (omega (arith, h))) (movement_at shows i h)
