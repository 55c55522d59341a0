-- The whole stack of a row and of the row behind it, where a block starts, turns or ends.
use Rattle.sound_runs.proofs.Words.{◌≡◌, ℕ, suc, ◌<◌, ◌≤◌, Bool, true, false, List, [], ◌++◌, take, drop, length, ap, ap₂, sym, subst, ◌∙◌, arith, lit≤}
use Rattle.sound_runs.proofs.Words.{filled_up, takes_of, leaves_of, Op, is_left, is_right, is_call_op, row_shifts_left, Claim, Overflow, row_returns, cells}
use Rattle.sound_runs.proofs.Words.{row_at, op_in, ShiftsCells, mover, shifts_left_is, Closes, below_at, drop_cells, take_cells}
use Rattle.std.proofs.lemmas.List.{append-nil}
use Rattle.sound_blocks.proofs.Returns.{overflow_in, next_is}
use Rattle.sound_blocks.proofs.RowKinds.{behind_call, behind_flat, behind_same}
use Rattle.sound_runs.proofs.Premises.{Known}
use Rattle.sound_runs.proofs.Stacks.{cells_stay, stack_popped}

-- an operation that takes so many cells off and leaves none
pub record Takes (n : ℕ) (shifts : Bool) (m : Op) : Type 0 where
  pub takes : takes_of m ≡ n
  pub leaves : leaves_of m ≡ 0
  pub left : is_left m ≡ shifts

-- one that moves no cell, and one that takes the top cell off
abbrev pub IsStill : Op → Type 0
IsStill m = Takes 0 false m

abbrev pub Pops : Op → Type 0
Pops m = Takes 1 true m

-- the row moves its stack as the operation m does
pub record MovesAs (rows : List (List ℕ)) (i : ℕ) (m : Op) : Type 0 where
  pub within : suc i < length rows
  pub right : is_right (op_in rows i) ≡ false
  pub mover_is : mover (op_in rows i) (row_at rows i) ≡ m

sixteen : (x : List ℕ) → length (cells x ++ []) ≤ 16
unfolding cells
sixteen x = lit≤ tt

module _ {constants : List ℕ} {kernel rows : List (List ℕ)} {k : Claim} (known : Known constants kernel k rows) where
  -- the cells of row i, and those below them
  abbrev pub whole : ℕ → List ℕ
  whole i = cells (row_at rows i) ++ below_at k rows i

  below_next : (i : ℕ) {o : Overflow} → overflow_in k rows (suc i) ≡ o → below_at k rows (suc i) ≡ o.below
  below_next i e = ap (λ (v : Overflow). v.below) e

  module _ {i : ℕ} {m : Op} (moves : MovesAs rows i m) where
    shifts_as : ShiftsCells m (row_at rows i) (row_at rows (suc i))
    shifts_as = subst (λ (o : Op). ShiftsCells o (row_at rows i) (row_at rows (suc i))) moves.mover_is (known.shows.pair_is i moves.within).stack.shifts

    left_as : row_shifts_left (row_at rows i) ≡ is_left m
    left_as = shifts_left_is (row_at rows i) ∙ ap is_left moves.mover_is

    cells_still : IsStill m → cells (row_at rows i) ≡ cells (row_at rows (suc i))
    cells_still still = cells_stay m (row_at rows i) (row_at rows (suc i)) still.takes still.leaves still.left shifts_as

    pub stack_stays : IsStill m → is_call_op (op_in rows i) ≡ false → row_returns (row_at rows i) ≡ false → whole i ≡ whole (suc i)
    stack_stays still no_call no_return =
        ap₂ (λ (u v : List ℕ). u ++ v) (cells_still still) (sym (below_next i (next_is k rows i
        ∙ behind_same (row_at rows i) (overflow_in k rows i) moves.right (left_as ∙ still.left) no_call no_return)))

    pub stack_pops : Pops m → filled_up (drop 1 (whole i)) ≡ whole (suc i)
    stack_pops pops =
        stack_popped m (row_at rows i) (row_at rows (suc i)) (below_at k rows i) (below_at k rows (suc i)) pops.takes pops.leaves pops.left
        shifts_as (known.lists.depth_is i (omega (arith, moves.within))) (λ at. below_next i (next_is k rows i
        ∙ behind_flat (row_at rows i) (overflow_in k rows i) moves.right (left_as ∙ pops.left) at))
        (known.lists.deep i moves.within (left_as ∙ pops.left))

    pub stack_called : IsStill m → is_call_op (op_in rows i) ≡ true → take 16 (whole i) ≡ whole (suc i)
    stack_called still call =
        take_cells (row_at rows i) (below_at k rows i) ∙ cells_still still ∙ sym (append-nil (cells (row_at rows (suc i))))
        ∙ ap (λ (u : List ℕ). cells (row_at rows (suc i)) ++ u) (sym (below_next i (next_is k rows i
        ∙ behind_call (row_at rows i) (overflow_in k rows i) moves.right (left_as ∙ still.left) call)))

    pub stack_returned : {j : ℕ} → IsStill m → Closes rows j i → is_call_op (op_in rows j) ≡ true → whole i ++ drop 16 (whole j) ≡ whole (suc i)
    stack_returned {j} still closes call =
        ap₂ (λ (u v : List ℕ). (cells (row_at rows i) ++ u) ++ v) (known.lists.returns j i closes call).0
        (drop_cells (row_at rows j) (below_at k rows j) ∙ sym (known.lists.returns j i closes call).1)
        ∙ ap (λ (u : List ℕ). u ++ below_at k rows (suc i)) (append-nil (cells (row_at rows i)) ∙ cells_still still)

  -- a call ends with no cell below the sixteenth
  pub returns_flat : {i j : ℕ} → Closes rows j i → is_call_op (op_in rows j) ≡ true → length (whole i) ≤ 16
  returns_flat {i} {j} closes call =
      subst (λ (b : List ℕ). length (cells (row_at rows i) ++ b) ≤ 16) (sym (known.lists.returns j i closes call).0) (sixteen (row_at rows i))
