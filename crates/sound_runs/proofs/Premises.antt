-- What the rows of an accepted main table show, as all that follows takes it.
use Rattle.sound_runs.proofs.Words.{◌≡◌, ℕ, suc, ◌<◌, ◌≤◌, ◌^◌, List, length, arith, number_of_constants, State, clk, ctx, deep_at_start, depth_at_start}
use Rattle.sound_runs.proofs.Words.{twelve, Claim, state_at, ServesMain, row_at, ShowsRows, clock_is, GroupFacts, IsAt, FrameFacts, OverflowLists}
use Rattle.vm_field.specs.Permutation.{permuted}
use Rattle.sound_runs.proofs.Words.ops
use Rattle.sound_buses.specs.Lookups.{BitFacts, KernelFacts, RangeFacts}

-- the state of row i, beside this claim
abbrev pub state_in : Claim → List (List ℕ) → ℕ → State
state_in k rows i = state_at (deep_at_start k) rows i

pub record Known (constants : List ℕ) (kernel : List (List ℕ)) (k : Claim) (rows : List (List ℕ)) : Type 0 where
  pub count : length constants ≡ number_of_constants
  pub shows : ShowsRows k rows
  pub few : length rows ≤ 2 ^ 19
  pub shallow : depth_at_start k ≤ 2 ^ 19
  pub groups : GroupFacts rows
  pub ranges : RangeFacts rows
  pub permutes : (i : ℕ) → IsAt rows i ops.HPerm → twelve (row_at rows (suc i)) ≡ permuted constants (twelve (row_at rows i))
  pub bits : BitFacts rows
  pub memory : ServesMain rows
  pub kernel_is : KernelFacts kernel rows
  pub frames : FrameFacts rows
  pub lists : OverflowLists k rows

-- clocks count the rows
pub clock_at : {constants : List ℕ} {kernel rows : List (List ℕ)} {k : Claim} → Known constants kernel k rows → (i : ℕ) → i < length rows
    → clk (row_at rows i) ≡ i
clock_at {rows = rows} {k = k} known i h = clock_is k rows known.shows (omega (arith, known.few)) i h

-- contexts have 32 bits
pub low_contexts : (claim : Claim) (rows : List (List ℕ)) → ShowsRows claim rows → length rows ≤ 2 ^ 19 → FrameFacts rows → (i : ℕ)
    → i < length rows → ctx (row_at rows i) < 2 ^ 32
low_contexts claim rows shows few frames i h = omega (arith, frames.context i h, clock_is claim rows shows (omega (arith, few)) i h, h, few)
