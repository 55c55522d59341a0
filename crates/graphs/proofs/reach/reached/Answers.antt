use Rattle.graphs.specs.Graph.{rows_of}
use Rattle.graphs.proofs.WalkLemmas.{from_one}
use Rattle.graphs.proofs.reach.reached.Goals as goal

pub returns : goal.returns
returns c = λ place. (
  λ marked. (from_one (rows_of c.args.graph.now) c.args.start place).0 ((c.in_ok-marks.ensures place).0 marked),
  λ leads. (c.in_ok-marks.ensures place).1 ((from_one (rows_of c.args.graph.now) c.args.start place).1 leads),
)
