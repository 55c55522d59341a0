use Rattle.air_kit.proofs.CountLaws.{count_law}
use Rattle.air_kit.proofs.laws.count_laws.Goals as goal

pub returns : goal.returns
returns c = count_law
