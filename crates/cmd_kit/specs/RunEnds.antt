-- The ends of `run` (docs/FORMATS.md).
use Rattle.std.specs.Prelude.{◌≡◌, ℕ, Bool, List, ◌++◌, codes, decimal, Option, Ok, Err}
use Rattle.std.specs.List.{flat_map}
use Rattle.vm_field.specs.Machine.{State, start}
use Rattle.decimal_text.specs.Decimals.{element_text}
use Rattle.vm_ops.specs.declared.cause.Cause.{Cause}
use Rattle.vm_ops.specs.Causes.{text_of_cause}
use Rattle.block_tree.specs.declared.program.Program.{Program}
use Rattle.block_tree.specs.Execution as run
use Rattle.block_tree.specs.Execution.{IsCutOff, Outcome, Trap, execution}
use Rattle.block_tree.specs.TreeView.{tree_of}
use Rattle.masm_link.specs.declared.refusal.AsmCause.{AsmCause}
use Rattle.masm_link.specs.declared.refusal.AsmError.TheVariants.{Bad}
use Rattle.statement.specs.Inputs.{Given}
use Rattle.cmd_kit.specs.declared.status.Status.TheVariants as status
use Rattle.complete_rows.specs.BlockRows.{IsWholeRun}
use Rattle.cmd_kit.specs.declared.answer.Answer.{Answer}
use Rattle.cmd_kit.specs.Steps.{SourceFile, Course, ran, stopped, ends_with}
use Rattle.cmd_kit.specs.SourceEnds.{AssemblesFiles, name_of_place, source_line}

-- how a program comes out from these inputs
abbrev pub outcome_of : List ℕ → Program → Given → ℕ → Outcome
outcome_of constants program given limit =
    execution constants program.kernel limit (tree_of program.tree) (start given.stack given.advice)

-- the clock of the last state, and then its whole stack
abbrev pub run_lines : State → List ℕ
run_lines s = codes "cycles " ++ decimal s.core.clock ++ codes "\noutputs" ++ flat_map element_text s.core.stack ++ codes "\n"

abbrev pub trap_line : ℕ → Cause → List ℕ
trap_line clock cause = codes "trap " ++ decimal clock ++ codes " " ++ text_of_cause cause ++ codes "\n"

abbrev pub limit_line : ℕ → List ℕ
limit_line limit = codes "out of cycles " ++ decimal limit ++ codes "\n"

-- why a program does not run to an end, and the answer to that
pub data IsHalt (constants : List ℕ) (program : Program) (given : Given) (limit : ℕ) : Answer → Type 0 where
  trapped : (clock : ℕ) (cause : Cause) → outcome_of constants program given limit ≡ Trap clock cause
      → IsHalt constants program given limit (ends_with status.Trap (trap_line clock cause))
  unended : IsCutOff (outcome_of constants program given limit)
      → IsHalt constants program given limit (ends_with status.OutOfCycles (limit_line limit))

-- What a source comes to that is to be run: it is refused, at the place of the first refusal, or its program halts, or it runs to its end.
pub data IsCourse (constants : List ℕ) (source : SourceFile) (kernel : Option SourceFile) (given : Given) (limit : ℕ) : Course → Type 0 where
  refused : (in_kernel : Bool) (line column : ℕ) (cause : AsmCause) → AssemblesFiles constants source kernel (Err (Bad in_kernel line column cause))
      → IsCourse constants source kernel given limit
      (stopped (ends_with status.Source (source_line (name_of_place in_kernel source kernel) line column cause)))
  halted : (program : Program) → AssemblesFiles constants source kernel (Ok program) → (a : Answer) → IsHalt constants program given limit a
      → IsCourse constants source kernel given limit (stopped a)
  ended : (program : Program) → AssemblesFiles constants source kernel (Ok program)
      → (last : State) (log : List run.Event)
      → IsWholeRun constants program.kernel limit (tree_of program.tree) given.stack given.advice last log
      → IsCourse constants source kernel given limit (ran program last log)
