use Rattle.run_chain.proofs.ChainLemmas.{chain-is-run}
use Rattle.run_chain.proofs.laws.chain_laws.Goals as goal

pub returns : goal.returns
returns c = record { run = chain-is-run }
