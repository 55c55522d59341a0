use Rattle.host_io.proofs.TakerLemmas.{Taken}
use Rattle.host_io.proofs.whole.read_all.Given as goal

-- what was taken so far
abbrev pub invariant-loop-count : goal.invariant-loop-count
invariant-loop-count g l = Taken (g.T.Taker.took l.taker) (g.R.Read.remaining l.fn.source) (g.R.Read.remaining l.source) l.max l.left

abbrev pub decreases-loop-count : goal.decreases-loop-count
decreases-loop-count g l = l.left
