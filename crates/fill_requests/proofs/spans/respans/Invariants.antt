use Rattle.std.proofs.Common.{◌≡◌, ◌++◌, drop}
use Rattle.complete_rows.specs.Turns.{respans}
use Rattle.fill_requests.proofs.spans.respans.Given as goal

abbrev pub invariant-loop-i : goal.invariant-loop-i
invariant-loop-i l = l.batches ++ respans (drop l.i l.events) ≡ respans (drop l.first l.events)
