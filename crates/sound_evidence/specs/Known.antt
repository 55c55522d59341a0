-- What is known of an accepted trace before its tree is read.
use Rattle.std.specs.Prelude.{◌≡◌, length}
use Rattle.vm_field.specs.Limits.{number_of_constants}
use Rattle.rpo_hash.specs.Constants.{constants_of}
use Rattle.air_kit.specs.Acceptance.{IsAccepted}
use Rattle.air_kit.specs.declared.trace.Public.{Public}
use Rattle.air_kit.specs.declared.trace.Trace.{Trace}
use Rattle.sound_buses.specs.BusFacts.{HasTables}

-- it is accepted, and its tables and the permutation's constants have their sizes
pub record IsKnown (p : Public) (t : Trace) : Type 0 where
  pub constants : length (constants_of p.params) ≡ number_of_constants
  pub whole : HasTables t
  pub accepted : IsAccepted p t
