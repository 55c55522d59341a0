-- A cycle that is allowed goes to the state that is behind it.
use Rattle.sound_runs.proofs.Words.{◌≡◌, ℕ, suc, ◌+◌, ◌-◌, ◌<◌, List, [], ◌∷◌, take, drop, length, ap, ◌∙◌, arith, State, Mark, effect_of, advice_taken, Done}
use Rattle.sound_runs.proofs.Words.{cycle, event_of, taking-done, Claim, clk, row_at, Goes}
use Rattle.block_tree.specs.Behind.{IsAllowed, core_behind}
use Rattle.block_tree.proofs.BehindLemmas.{allowed-cycle}
use Rattle.sound_runs.proofs.Premises.{Known, clock_at, state_in}

-- the state behind a cycle
abbrev pub state_behind : List ℕ → Mark → State → State
state_behind constants mark s = record {
  core = record (core_behind constants mark (take (advice_taken mark) s.tape) s.core)
      { clock = (core_behind constants mark (take (advice_taken mark) s.tape) s.core).clock + 1 };
  tape = drop (advice_taken mark) s.tape;
}

-- states are the same where each part is
pub same_state : {s t : State} → s.core.clock ≡ t.core.clock → s.core.context ≡ t.core.context → s.core.fmp ≡ t.core.fmp
    → s.core.in_syscall ≡ t.core.in_syscall → s.core.digest ≡ t.core.digest → s.core.nesting ≡ t.core.nesting → s.core.stack ≡ t.core.stack
    → s.core.memory ≡ t.core.memory → s.tape ≡ t.tape → s ≡ t
same_state clock context fmp in_syscall digest nesting stack memory tape = λ i. record {
  core = record {
    clock = clock i;
    context = context i;
    fmp = fmp i;
    in_syscall = in_syscall i;
    digest = digest i;
    nesting = nesting i;
    stack = stack i;
    memory = memory i;
  };
  tape = tape i;
}

-- by this cycle the state of row i goes to that of the row behind it
abbrev pub GoesOn : {constants : List ℕ} {kernel rows : List (List ℕ)} {k : Claim} → Known constants kernel k rows → ℕ → Mark → Type 0
GoesOn {constants} {kernel} {rows} {k} known i mark = Goes (state_in k rows) (cycle constants kernel (length rows - 1) mark (state_in k rows i)) (suc i)

module _ {constants : List ℕ} {kernel rows : List (List ℕ)} {k : Claim} (known : Known constants kernel k rows) where
  -- a row with a row behind it is below the limit
  pub early_at : (i : ℕ) → suc i < length rows → clk (row_at rows i) < length rows - 1
  early_at i within = omega (arith, clock_at known i (omega (arith, within)), within)

  -- a cycle that takes nothing from the tape
  pub goes_on : {i : ℕ} (mark : Mark) → suc i < length rows → advice_taken mark ≡ 0
      → IsAllowed constants kernel mark (take (advice_taken mark) (state_in k rows i).tape) (state_in k rows i).core
      → state_behind constants mark (state_in k rows i) ≡ state_in k rows (suc i) → GoesOn known i mark
  goes_on {i} mark within none allowed is = record {
    events = event_of mark (advice_taken mark) (state_in k rows i) ∷ [];
    done =
        taking-done (length rows - 1) mark (advice_taken mark) (effect_of constants kernel mark) (state_in k rows i)
        (core_behind constants mark (take (advice_taken mark) (state_in k rows i).tape) (state_in k rows i).core) (early_at i within) (omega (arith, none))
        (allowed-cycle constants kernel mark (take (advice_taken mark) (state_in k rows i).tape) (state_in k rows i).core allowed)
        ∙ ap (λ (s : State). Done s (event_of mark (advice_taken mark) (state_in k rows i) ∷ [])) is;
  }
