use Rattle.fill_chips.proofs.Words.{◌≡◌, ◌≤◌, List, ◌++◌, ℕ, length, drop, kernel_rows, times_called}
use Rattle.fill_chips.proofs.KernelLemmas.{times_in}
use Rattle.fill_chips.proofs.kernel.kernel_table.Given as goal

abbrev pub invariant-loop-word : goal.invariant-loop-word
invariant-loop-word l = record {
  rows : l.table ++ kernel_rows (times_in l.times) (drop l.word-index l.kernel) ≡ kernel_rows (times_called l.calls) l.kernel;
  few : (u : List ℕ) → times_in l.times u ≤ length l.calls;
}
