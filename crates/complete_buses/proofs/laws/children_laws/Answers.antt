use Rattle.complete_buses.proofs.ChildLaw.{children_even}
use Rattle.complete_buses.proofs.laws.children_laws.Goals as goal

pub returns : goal.returns
returns c = record { children = children_even }
