use Rattle.std.proofs.Common.{ℕ, ◌<◌}
use Rattle.air_kit.proofs.CountLaws.{IsCounted}
use Rattle.air_kit.proofs.counts.has_counts.Given as goal

abbrev pub invariant-loop-table : goal.invariant-loop-table
invariant-loop-table l = (k : ℕ) → k < l.table-index → IsCounted l.trace k
