-- A list of operations in the run of a tree, beside its own run.
use Rattle.std.specs.Prelude.{◌≡◌, ℕ, Bool, true, false, List, Result, Ok, Err}
use Rattle.vm_field.specs.Machine.{State}
use Rattle.vm_ops.specs.declared.cause.Cause.{Cause}
use Rattle.block_tree.specs.Execution.{Event, Outcome, Done, Trap, OutOfCycles}

-- the part of the run comes out as the list does, unless the limit cuts it off
abbrev pub EndsLike : Outcome → Result State Cause → Type 0
EndsLike (Done t events) r = r ≡ Ok t
EndsLike (Trap clock cause) r = r ≡ Err cause
EndsLike (OutOfCycles t events) r = Unit {0}

-- a trap where the test holds, else done with the state
abbrev pub TrapsOrIsDone : Bool → Outcome → State → Type 0
TrapsOrIsDone true o t = (clock : ℕ) × (cause : Cause) × (o ≡ Trap clock cause)
TrapsOrIsDone false o t = (events : List Event) × (o ≡ Done t events)
