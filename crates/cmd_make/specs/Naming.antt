-- The files that `make` writes, as the code names them.
use Rattle.std.specs.Prelude.{◌≤◌, length}
use Rattle.vm_field.specs.Limits.{most_name_bytes}
use Rattle.cmd_make.specs.declared.names.MadeNames as held
use Rattle.cmd_kit.specs.Asked.{MadeNames}

-- the names as the code holds them
abbrev pub names_from : held.MadeNames → MadeNames
names_from names = record { source = names.source.now; inputs = names.inputs.now }

pub record AreNamed (names : held.MadeNames) : Type 0 where
  pub source : length names.source.now ≤ most_name_bytes
  pub inputs : length names.inputs.now ≤ most_name_bytes
