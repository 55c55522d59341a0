use Rattle.sound_runs.proofs.GrantedTrees.{trees_granted}
use Rattle.sound_runs.proofs.laws.fact_laws.Goals as goal

pub returns : goal.returns
returns c = record { facts = trees_granted }
