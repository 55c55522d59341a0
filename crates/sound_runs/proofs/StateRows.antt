-- The state of a row and that of the row behind it, where a block starts, turns or ends.
use Rattle.sound_runs.proofs.Words.{◌≡◌, ℕ, suc, ◌+◌, ◌<◌, false, eqb, List, [], ◌∷◌, ◌++◌, drop, length, slice_index, ap, ◌∙◌, arith, Op, State, is_op, clk}
use Rattle.sound_runs.proofs.Words.{lv, s, called_digest, is_call_op, is_right, Claim, cells, called_word, filled_up, top, ends_call, row_at, op_in, mover}
use Rattle.sound_runs.proofs.Words.{IsAt, below_at, top_index}
use Rattle.sound_runs.proofs.Words.ops
use Rattle.sound_runs.proofs.Going.{same_state}
use Rattle.sound_runs.proofs.Premises.{Known, clock_at, state_in}
use Rattle.sound_runs.proofs.Quiet.{IsQuiet, memory_stays, same_function, tape_stays}
use Rattle.sound_runs.proofs.StackRows.{IsStill, MovesAs, Pops, stack_pops, stack_stays}

-- the state with another clock, other blocks and another stack
abbrev state_with : State → ℕ → ℕ → List ℕ → State
state_with st clock nesting stack =
    record { core = record st.core { clock = clock; nesting = nesting; stack = stack }; tape = st.tape }

-- what is on top of a row's stack
pub top_at : (k : Claim) (rows : List (List ℕ)) (i : ℕ) → top (state_in k rows i).core ≡ s (row_at rows i) 0
top_at k rows i = top_index (row_at rows i) (below_at k rows i) 0 (omega arith)

-- and the word there
pub word_at : (k : Claim) (rows : List (List ℕ)) (i : ℕ) → called_word (state_in k rows i).core ≡ called_digest (row_at rows i)
word_at k rows i = λ t. cell 3 (omega arith) t ∷ cell 2 (omega arith) t ∷ cell 1 (omega arith) t ∷ cell 0 (omega arith) t ∷ []
  where
    cell : (j : ℕ) → j < 16 → slice_index (cells (row_at rows i) ++ below_at k rows i) j ≡ s (row_at rows i) j
    cell j few = top_index (row_at rows i) (below_at k rows i) j few

-- A row of this operation neither calls nor ends a call, and moves its stack as another operation does.
pub record IsCalm (rows : List (List ℕ)) (i : ℕ) (m moves_as : Op) : Type 0 where
  pub at : IsAt rows i m
  pub quiet : IsQuiet m
  pub moves : MovesAs rows i moves_as
  pub no_call : is_call_op (op_in rows i) ≡ false
  pub no_return : ends_call (op_in rows i) (row_at rows i) ≡ false

pub moves_at : {rows : List (List ℕ)} {i : ℕ} (m : Op) → IsAt rows i m → is_right m ≡ false → mover m (row_at rows i) ≡ m → MovesAs rows i m
moves_at {rows} {i} m at right moves =
    record { within = at.within; right = ap is_right at.is ∙ right; mover_is = ap (λ o. mover o (row_at rows i)) at.is ∙ moves }

pub calm : {rows : List (List ℕ)} {i : ℕ} {m : Op} → IsAt rows i m → IsQuiet m → is_call_op m ≡ false → mover m (row_at rows i) ≡ m
    → ends_call m (row_at rows i) ≡ false → IsCalm rows i m m
calm {rows} {i} {m} at quiet no_call moves no_return = record {
  at = at;
  quiet = quiet;
  moves = moves_at m at quiet.right moves;
  no_call = ap is_call_op at.is ∙ no_call;
  no_return = ap (λ o. ends_call o (row_at rows i)) at.is ∙ no_return;
}

module _ {constants : List ℕ} {kernel rows : List (List ℕ)} {k : Claim} (known : Known constants kernel k rows) where
  pub clock_next : (i : ℕ) → suc i < length rows → clk (row_at rows i) + 1 ≡ clk (row_at rows (suc i))
  clock_next i within = omega (arith, clock_at known i (omega (arith, within)), clock_at known (suc i) within)

  -- such a row changes the clock, the open blocks and the stack alone
  module _ {i nesting : ℕ} {m moves_as : Op} (c : IsCalm rows i m moves_as) (level : nesting ≡ lv (row_at rows (suc i))) where
    state_next : (stack : List ℕ) → stack ≡ cells (row_at rows (suc i)) ++ below_at k rows (suc i)
        → state_with (state_in k rows i) (clk (row_at rows i) + 1) nesting stack ≡ state_in k rows (suc i)
    state_next stack cells_are =
        let same = same_function (op_in rows i) (row_at rows i) (row_at rows (suc i)) (known.shows.pair_is i c.at.within).pair.block c.no_call c.no_return
        (ap (λ o. is_op o ops.FmpUpdate) c.at.is ∙ c.quiet.update) in
        same_state (clock_next i c.at.within) same.context same.frame (ap (λ n. eqb n 1) same.syscall) same.digest level cells_are
        (memory_stays rows i m c.at c.quiet) (tape_stays rows i m c.at c.quiet)

    pub still_next : IsStill moves_as
        → state_with (state_in k rows i) (clk (row_at rows i) + 1) nesting (cells (row_at rows i) ++ below_at k rows i) ≡ state_in k rows (suc i)
    still_next still = state_next (cells (row_at rows i) ++ below_at k rows i) (stack_stays known c.moves still c.no_call c.no_return)

    pub pops_next : Pops moves_as → state_with (state_in k rows i) (clk (row_at rows i) + 1) nesting
        (filled_up (drop 1 (cells (row_at rows i) ++ below_at k rows i))) ≡ state_in k rows (suc i)
    pops_next pops = state_next (filled_up (drop 1 (cells (row_at rows i) ++ below_at k rows i))) (stack_pops known c.moves pops)
