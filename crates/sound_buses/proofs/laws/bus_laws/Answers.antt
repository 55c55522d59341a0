use Rattle.sound_buses.proofs.Grants.{accepted_grants}
use Rattle.sound_buses.proofs.laws.bus_laws.Goals as goal

pub returns : goal.returns
returns c = record { granted = accepted_grants }
