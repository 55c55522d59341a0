use Rattle.bus_kit.proofs.WidthLemmas.{none_at}
use Rattle.bus_kit.proofs.hasher.StepTally.new.Goals as goal

pub returns : goal.returns
returns c = none_at _ c.new.ensures c.new-2.ensures c.new-3.ensures c.new-4.ensures
