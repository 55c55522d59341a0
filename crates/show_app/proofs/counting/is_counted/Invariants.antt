use Rattle.std.proofs.Common.{◌≡◌, drop}
use Rattle.show_app.specs.CountedText.{is_counted}
use Rattle.show_app.proofs.counting.is_counted.Given as goal

-- no count so far is the row's
abbrev pub invariant-loop-count : goal.invariant-loop-count
invariant-loop-count l = is_counted l.table l.row (drop l.count-index l.counts) ≡ is_counted l.table l.row l.counts
