use Rattle.complete_buses.proofs.GroupLaw.{groups_even}
use Rattle.complete_buses.proofs.laws.groups_laws.Goals as goal

pub returns : goal.returns
returns c = record { groups = groups_even }
