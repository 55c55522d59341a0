-- What the answer of a step says of the machine's step.
use Rattle.std.specs.Prelude.{◌≡◌, false, ◌≢◌, Result, Ok, Err}
use Rattle.vm_field.specs.Machine.{State}
use Rattle.vm_ops.specs.declared.cause.Cause.{Cause}
use Rattle.vm_ops.specs.declared.op.Op.{Op}
use Rattle.vm_ops.specs.declared.op.Shift.TheVariants.{Right}
use Rattle.vm_ops.specs.Codes.{writes_memory}
use Rattle.vm_ops.specs.Moves.{shift_of}
use Rattle.op_steps.specs.declared.refusal.StepStop.{StepStop}
use Rattle.op_steps.specs.declared.refusal.StepStop.TheVariants.{Trap, Memory}

-- an operation that neither shifts to the right nor writes memory
pub record IsQuiet (op : Op) : Type 0 where
  pub shift : shift_of op ≢ Right
  pub memory : writes_memory op ≡ false

-- The machine's step came out as the call answered: the state behind it, or the cause of its trap with the state as before.
-- Where memory was refused the state is as before, and nothing is said of the step.
abbrev pub AnswersStep : Result State Cause → Result (Unit {0}) StepStop → State → State → Type 0
AnswersStep outcome (Ok _) before after = outcome ≡ Ok after
AnswersStep outcome (Err (Trap cause)) before after = (outcome ≡ Err cause) × (after ≡ before)
AnswersStep outcome (Err Memory) before after = after ≡ before

-- the same of a step that takes no memory
abbrev pub AnswersQuietStep : Result State Cause → Result (Unit {0}) Cause → State → State → Type 0
AnswersQuietStep outcome (Ok _) before after = outcome ≡ Ok after
AnswersQuietStep outcome (Err cause) before after = (outcome ≡ Err cause) × (after ≡ before)
