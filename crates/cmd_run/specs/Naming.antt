-- The files that `run` reads and writes, as the code names them.
use Rattle.std.specs.Prelude.{◌≤◌, length, IfSome}
use Rattle.vm_field.specs.Limits.{most_cycles, most_name_bytes}
use Rattle.cmd_run.specs.declared.outputs.Outputs as held
use Rattle.cmd_run.specs.declared.running.RunOptions.{RunOptions}
use Rattle.cmd_kit.specs.Asked.{Outputs}

-- the outputs as the code holds them
abbrev pub outputs_from : held.Outputs → Outputs
outputs_from outputs = record { table = outputs.table.now; statement = outputs.statement.now }

pub record AreNamed (outputs : held.Outputs) : Type 0 where
  pub table : length outputs.table.now ≤ most_name_bytes
  pub statement : length outputs.statement.now ≤ most_name_bytes

-- the options name files, and give a limit
pub record AreOptions (options : RunOptions) : Type 0 where
  pub inputs : length options.inputs.now ≤ most_name_bytes
  pub outputs : AreNamed options.outputs
  pub kernel : IfSome options.kernel (λ k. length k.now ≤ most_name_bytes)
  pub limit : options.limit ≤ most_cycles
