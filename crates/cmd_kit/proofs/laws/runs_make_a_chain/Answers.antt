use Rattle.cmd_kit.proofs.ChainOfRuns.{runs_make_a_chain}
use Rattle.cmd_kit.proofs.laws.runs_make_a_chain.Goals as goal

pub returns : goal.returns
returns c = runs_make_a_chain
