-- What is made before anything is written.
use Rattle.std.specs.Prelude.{◌≡◌, ℕ, List, [], None}
use Rattle.vm_field.specs.Limits.{most_cycles}
use Rattle.vm_field.specs.Machine.{State}
use Rattle.block_tree.specs.Execution as run
use Rattle.block_tree.specs.declared.program.Program.{Program}
use Rattle.statement.specs.Inputs.{inputs_text}
use Rattle.workloads.specs.Workloads.{source_text, squares}
use Rattle.cmd_kit.specs.MakeEnds.{make_lines}
use Rattle.cmd_kit.specs.MakeSteps.{made_given, made_source}
use Rattle.cmd_kit.specs.RunEnds.{IsCourse}
use Rattle.cmd_kit.specs.Steps.{ran}
use Rattle.cmd_make.specs.declared.made.Made.{Made}

-- The source, the inputs, and the lines of their run, which ended. The source is to have this name.
pub record IsMade (constants : List ℕ) (turns : ℕ) (name : List ℕ) (made : Made) : Type 0 where
  pub program : Program
  pub last : State
  pub log : List run.Event
  pub found : IsCourse constants (made_source name turns) None (made_given turns) most_cycles (ran program last log)
  pub source : made.source ≡ source_text turns
  pub inputs : made.inputs ≡ inputs_text [] (squares turns)
  pub lines : made.lines ≡ make_lines last
