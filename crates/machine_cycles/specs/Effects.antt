-- What the code of a cycle's effect answers.
use Rattle.std.specs.Prelude.{◌≡◌, Result, Ok, Err}
use Rattle.vm_field.specs.Machine.{Core}
use Rattle.vm_ops.specs.declared.cause.Cause.{Cause}
use Rattle.block_tree.specs.Cycles.{Cycle, opens}
use Rattle.vm_state.specs.Views.{core_of}
use Rattle.vm_state.specs.declared.state.State.{State}
use Rattle.op_steps.specs.declared.refusal.StepStop.{StepStop}
use Rattle.op_steps.specs.declared.refusal.StepStop.TheVariants.{Trap, Memory}

-- the effect came out as the call answered, and left the clock and the tape alone
abbrev pub Effected : Result Core Cause → Result (Unit {0}) StepStop → State → State → Type 0
Effected outcome (Ok _) before after = (outcome ≡ Ok (core_of after)) × (after.tape ≡ before.tape) × (after.clock ≡ before.clock)
Effected outcome (Err (Trap cause)) before after = outcome ≡ Err cause
Effected outcome (Err Memory) before after = Unit {0}

-- a block started, whatever its start does then, or its start traps
abbrev pub Opened : Result (Unit {0}) StepStop → State → State → Type 0
Opened (Ok _) before after =
    ((effect : Cycle) → opens effect (core_of before) ≡ effect (core_of after)) × (after.tape ≡ before.tape) × (after.clock ≡ before.clock)
    × (after.stack ≡ before.stack)
Opened (Err (Trap cause)) before after = (effect : Cycle) → opens effect (core_of before) ≡ Err cause
Opened (Err Memory) before after = ⊥
